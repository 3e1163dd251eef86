use Rattle.std.proofs.Common.{◌≡◌, ◌+◌, ◌-◌, ◌*◌, ◌/◌, ◌%◌, ◌<◌, [], ◌∷◌, ◌++◌, length, drop, sym, refl, ap, ◌∙◌, arith, length-drop}
use Rattle.std.proofs.lemmas.Nat.{div-add-mod', mod_below}
use Rattle.grouping.specs.Runs.{chunked}
use Rattle.grouping.proofs.Cutting.{chunked_last}
use Rattle.grouping.proofs.runs.last_run.Goals as goal

pub returns : goal.returns
returns g c = λ pos some.
    let size = c.args.size in
    let xs = g.P.Listed.items c.args.base in
    let n = c.len-len.result in
    let e : n ≡ length xs = c.len-len.ensures in
    let k = (n - 1) / size in
    let whole : k * size + (n - 1) % size ≡ n - 1 = div-add-mod' (n - 1) size in
    let below : (n - 1) % size < size = mod_below (n - 1) size pos in
    let m = k * size in
    let left = c.split_at-2.ensures.left (omega arith) in
    let right = c.split_at-2.ensures.right (omega arith) in
    record {
      joined = chunked_last size pos k xs m refl (omega arith) (omega arith) ∙ ap (λ t. chunked size t ++ (drop m xs ∷ [])) (sym left) ∙ ap (λ t. chunked size (g.P.Listed.items c.split_at-2.result.0) ++ (t ∷ [])) (sym right);
      some = omega (arith, ap length right ∙ length-drop m xs);
    }
