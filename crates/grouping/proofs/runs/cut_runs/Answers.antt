use Rattle.std.proofs.Common.{◌≡◌, ◌*◌, min, length, take, drop, ap, ◌∙◌, arith}
use Rattle.std.proofs.lemmas.List.{take_min, drop_min}
use Rattle.grouping.specs.Runs.{chunked}
use Rattle.grouping.proofs.Cutting.{take_runs, drop_runs}
use Rattle.grouping.proofs.runs.cut_runs.Goals as goal

pub returns : goal.returns
returns g c =
    let size = c.args.size in
    let k = c.args.k in
    let xs = g.P.Listed.items c.args.base in
    let at : c.min-at.result ≡ min (k * size) (length xs) = omega (arith, c.len.ensures, c.min-at.ensures, c.saturating_mul.ensures) in
    let left = c.split_at.ensures.left (omega (arith, c.len.ensures, c.min-at.ensures)) in
    let right = c.split_at.ensures.right (omega (arith, c.len.ensures, c.min-at.ensures)) in
    record {
      left = λ pos. ap (chunked size) (left ∙ ap (λ m. take m xs) at ∙ take_min (k * size) xs) ∙ take_runs size pos k xs;
      right = λ pos. ap (chunked size) (right ∙ ap (λ m. drop m xs) at ∙ drop_min (k * size) xs) ∙ drop_runs size pos k xs;
    }
