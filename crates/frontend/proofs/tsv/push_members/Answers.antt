use Rattle.std.proofs.Common.{◌+◌, List, [], ◌∷◌, ◌++◌, take, sym, ap, subst, ◌∙◌}
use Rattle.std.proofs.lemmas.List.{take_more, flat_map_more}
use Rattle.std.specs.List.{AllZip}
use Rattle.frontend.specs.Lines.{OfMember, line}
use Rattle.frontend.proofs.tsv.push_members.Goals as goal

one_more : {A B : Type 0} (R : A → B → Type 0) (xs : List A) (ys : List B) (x : A) (y : B) → AllZip R xs ys → R x y → AllZip R (xs ++ (x ∷ [])) (ys ++ (y ∷ []))
one_more R [] [] x y each here = (here, each)
one_more R [] (z ∷ ys) x y each here = absurd each
one_more R (w ∷ xs) [] x y each here = absurd each
one_more R (w ∷ xs) (z ∷ ys) x y each here = (each.0, one_more R xs ys x y each.1 here)

pub loop-member-preserved : goal.loop-member-preserved
loop-member-preserved c =
    let members = c.deref-member-items.result.now in
    let done = c.loop-member.invariant in
    let i = c.loop-member.member-index in
    let m = c.member-item.result in
    let v = c.of_member-values.result in
    let taken = ap (λ x. take i members ++ (x ∷ [])) c.member-item.is ∙ sym (take_more members i m c.loop-member-test.true) in
    let same = c.deref-member-items.ensures.value in (
      done.0 ++ (v ∷ []),
      subst (λ ms. AllZip (OfMember c.args.books.now) ms (done.0 ++ (v ∷ []))) (ap (λ ms. take i ms ++ (m ∷ [])) (sym same) ∙ taken ∙ ap (take (i + 1)) same) (one_more _ _ _ m v done.1 c.of_member-values.ensures),
      c.in_ok-write.ensures.bytes ∙ ap (λ l. l ++ line v) done.2 ∙ flat_map_more line _ done.0 v,
    )
