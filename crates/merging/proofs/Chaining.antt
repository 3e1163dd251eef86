-- One list after another: a cut. Assumes nothing.
use Rattle.std.proofs.Common.{◌≡◌, ℕ, zero, suc, ◌-◌, min, List, [], ◌∷◌, ◌++◌, length, take, drop, ap, ◌∙◌, arith}
use Rattle.std.proofs.lemmas.List.{take_min, drop_min}

module _ {I : Type 0} where
  take_both : (k : ℕ) (xs ys : List I) → take k xs ++ take (k - length xs) ys ≡ take k (xs ++ ys)
  take_both zero xs ys = let e : 0 - length xs ≡ 0 = omega arith in ap (λ n. take n ys) e
  take_both (suc k) [] ys = let e : suc k - 0 ≡ suc k = omega arith in ap (λ n. take n ys) e
  take_both (suc k) (x ∷ xs) ys = let e : suc k - length (x ∷ xs) ≡ k - length xs = omega arith in ap (λ n. x ∷ (take k xs ++ take n ys)) e ∙ ap (λ l. x ∷ l) (take_both k xs ys)

  drop_both : (k : ℕ) (xs ys : List I) → drop k xs ++ drop (k - length xs) ys ≡ drop k (xs ++ ys)
  drop_both zero xs ys = let e : 0 - length xs ≡ 0 = omega arith in ap (λ n. xs ++ drop n ys) e
  drop_both (suc k) [] ys = let e : suc k - 0 ≡ suc k = omega arith in ap (λ n. drop n ys) e
  drop_both (suc k) (x ∷ xs) ys = let e : suc k - length (x ∷ xs) ≡ k - length xs = omega arith in ap (λ n. drop k xs ++ drop n ys) e ∙ drop_both k xs ys

  -- a cut in the first list, or past it
  pub chain_cut : (k a b : ℕ) (xs ys : List I) → a ≡ min k (length xs) → b ≡ k - a → (take a xs ++ take b ys ≡ take k (xs ++ ys)) × (drop a xs ++ drop b ys ≡ drop k (xs ++ ys))
  chain_cut k a b xs ys ea eb =
      let e : b ≡ k - length xs = omega arith in (
        ap (λ n. take n xs ++ take b ys) ea ∙ ap (λ l. l ++ take b ys) (take_min k xs) ∙ ap (λ n. take k xs ++ take n ys) e ∙ take_both k xs ys,
        ap (λ n. drop n xs ++ drop b ys) ea ∙ ap (λ l. l ++ drop b ys) (drop_min k xs) ∙ ap (λ n. drop k xs ++ drop n ys) e ∙ drop_both k xs ys,
      )
