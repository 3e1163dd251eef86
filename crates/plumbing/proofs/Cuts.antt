-- The two parts of a list. Assumes nothing.
use Rattle.std.proofs.Common.{◌≡◌, ℕ, min, List, ◌++◌, length, take, drop, sym, ap, ◌∙◌}
use Rattle.std.proofs.lemmas.List.{take_at, drop_at, take_min, drop_min}

-- of two parts the left one, with k items if there are as many, is the first k, and the right one the rest
pub halves : {I : Type 0} (k : ℕ) (whole a b : List I) → whole ≡ a ++ b → length a ≡ min k (length whole) → (a ≡ take k whole) × (b ≡ drop k whole)
halves k whole a b e n =
    let m = min k (length whole) in (
      sym (ap (take m) e ∙ take_at a b m n) ∙ take_min k whole,
      sym (ap (drop m) e ∙ drop_at a b m n) ∙ drop_min k whole,
    )
