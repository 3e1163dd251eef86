use Rattle.std.proofs.Common.{◌≡◌, min, ◌∷◌, length, take, drop, sym, ap, ◌∙◌, arith, length-take}
use Rattle.std.proofs.lemmas.List.{take_min, drop_min}
use Rattle.grouping.specs.Runs.{chunked}
use Rattle.grouping.proofs.Cutting.{chunked_first}
use Rattle.grouping.proofs.runs.first_run.Goals as goal

pub returns : goal.returns
returns g c = λ pos some.
    let size = c.args.size in
    let xs = g.P.Listed.items c.args.base in
    let e = c.len.ensures in
    let m = c.min-at.result in
    let at : m ≡ min size (length xs) = omega (arith, e, c.min-at.ensures) in
    let left = c.split_at.ensures.left (omega (arith, e, c.min-at.ensures)) in
    let right = c.split_at.ensures.right (omega (arith, e, c.min-at.ensures)) in
    let l = left ∙ ap (λ n. take n xs) at ∙ take_min size xs in
    let r = right ∙ ap (λ n. drop n xs) at ∙ drop_min size xs in
    record {
      joined = chunked_first size pos xs some ∙ ap (λ t. t ∷ chunked size (drop size xs)) (sym l) ∙ ap (λ t. g.P.Listed.items c.split_at.result.0 ∷ chunked size t) (sym r);
      some = omega (arith, ap length left, length-take m xs, e, c.min-at.ensures, some, pos);
    }
