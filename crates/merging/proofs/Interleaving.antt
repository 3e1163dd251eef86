-- Laws of the interleaving: its length, its first and its last item, a cut. Assumes nothing.
use Rattle.std.proofs.Common.{◌≡◌, ℕ, ◌+◌, ◌<◌, ◌≤◌, min, Bool, true, false, not, ◌⊎◌, List, [], ◌∷◌, ◌++◌, length, take, drop, Some, None, Option, sym, refl, ap, ◌∙◌, inl, inr, ⊎_elim, append-nil, arith, length-append, take-append-drop}
use Rattle.std.proofs.lemmas.List.{nil_from_length, length-take-le, take_all, drop_all}
use Rattle.std.proofs.lemmas.Bool.{cases_lt}
use Rattle.plumbing.specs.Cursors.{Front, Back}
use Rattle.plumbing.proofs.Cuts.{halves}
use Rattle.merging.specs.declared.interleave.Shares.{Shares}
use Rattle.merging.specs.Interleave.{alternated, interleaved}
use Rattle.merging.specs.Turns.{FrontOf}
use Rattle.merging.specs.Shares.{Turns, Dealt, EndsFirst, EndsSecond}

cases_le : (m n : ℕ) → (m ≤ n) ⊎ (n < m)
cases_le m n = ⊎_elim inr inl (cases_lt n m)

module _ {I : Type 0} where
  pub alternated_nil : (xs : List I) → alternated xs [] ≡ xs
  alternated_nil [] = refl
  alternated_nil (x ∷ xs) = refl

  -- after the first item the other list starts
  pub alternated_step : (x : I) (xs ys : List I) → alternated (x ∷ xs) ys ≡ x ∷ alternated ys xs
  alternated_step x xs [] = refl
  alternated_step x [] (y ∷ ys) = refl
  alternated_step x (z ∷ xs) (y ∷ ys) = ap (λ (l : List I). x ∷ (y ∷ l)) (alternated_step z xs ys)

  pub length_alternated : (xs ys : List I) → length (alternated xs ys) ≡ length xs + length ys
  length_alternated [] ys = omega arith
  length_alternated (x ∷ xs) [] = omega arith
  length_alternated (x ∷ xs) (y ∷ ys) = omega (arith, length_alternated xs ys)

  alternated_even : (a c b d : List I) → length a ≡ length b → alternated (a ++ c) (b ++ d) ≡ alternated a b ++ alternated c d
  alternated_even [] c [] d e = refl
  alternated_even [] c (y ∷ b) d e = absurd (omega arith)
  alternated_even (x ∷ a) c [] d e = absurd (omega arith)
  alternated_even (x ∷ a) c (y ∷ b) d e = ap (λ (l : List I). x ∷ (y ∷ l)) (alternated_even a c b d (omega arith))

  alternated_odd : (a c b d : List I) → length a ≡ length b + 1 → alternated (a ++ c) (b ++ d) ≡ alternated a b ++ alternated d c
  alternated_odd [] c b d e = absurd (omega arith)
  alternated_odd (x ∷ []) c [] d e = alternated_step x c d
  alternated_odd (x ∷ (z ∷ a)) c [] d e = absurd (omega arith)
  alternated_odd (x ∷ a) c (y ∷ b) d e = ap (λ (l : List I). x ∷ (y ∷ l)) (alternated_odd a c b d (omega arith))

  alternated_second_out : (a c b : List I) → length b ≤ length a → alternated (a ++ c) b ≡ alternated a b ++ c
  alternated_second_out a c [] h = alternated_nil (a ++ c) ∙ ap (λ (l : List I). l ++ c) (sym (alternated_nil a))
  alternated_second_out [] c (y ∷ b) h = absurd (omega arith)
  alternated_second_out (x ∷ a) c (y ∷ b) h = ap (λ (l : List I). x ∷ (y ∷ l)) (alternated_second_out a c b (omega arith))

  alternated_first_out : (a b d : List I) → length a ≤ length b → alternated a (b ++ d) ≡ alternated a b ++ d
  alternated_first_out [] b d h = refl
  alternated_first_out (x ∷ a) [] d h = absurd (omega arith)
  alternated_first_out (x ∷ a) (y ∷ b) d h = ap (λ (l : List I). x ∷ (y ∷ l)) (alternated_first_out a b d (omega arith))

  pub interleaved_same : (f : Bool) {xs ys zs ws : List I} → xs ≡ zs → ys ≡ ws → interleaved f xs ys ≡ interleaved f zs ws
  interleaved_same f {ys = ys} {zs = zs} p q = ap (λ (l : List I). interleaved f l ys) p ∙ ap (interleaved f zs) q

  pub length_interleaved : (f : Bool) (xs ys : List I) → length (interleaved f xs ys) ≡ length xs + length ys
  length_interleaved false xs ys = length_alternated xs ys
  length_interleaved true xs ys = length_alternated ys xs ∙ omega arith

  interleaved_first_nil : (f : Bool) (ys : List I) → interleaved f [] ys ≡ ys
  interleaved_first_nil false ys = refl
  interleaved_first_nil true ys = alternated_nil ys

  interleaved_second_nil : (f : Bool) (xs : List I) → interleaved f xs [] ≡ xs
  interleaved_second_nil false xs = alternated_nil xs
  interleaved_second_nil true xs = refl

  -- a taking from the front: the other list goes on
  pub alternated_front : (xs ys left rest : List I) (o : Option I) → FrontOf xs ys o left rest → Front (alternated xs ys) o (alternated rest left)
  alternated_front [] ys left rest o t = rw (t.0, alternated_nil rest) t.1
  alternated_front (x ∷ xs) ys left rest o t = rw (t.0, t.1, t.2) (alternated_step x xs ys)

  -- a taking from the end, where the list that goes second has the last item, or there is none
  alternated_back_second : (a b left : List I) (o : Option I) → length a ≤ length b → Back b o left → Back (alternated a b) o (alternated a left)
  alternated_back_second a b left (Some y) h e =
      let n : length b ≡ length left + 1 = ap length e ∙ length-append left (y ∷ []) in
      let odd : length a ≡ length left + 1 → alternated a (left ++ (y ∷ [])) ≡ alternated a left ++ (y ∷ []) = λ q. ap (λ (l : List I). alternated l (left ++ (y ∷ []))) (sym (append-nil a)) ∙ alternated_odd a [] left (y ∷ []) q in
      ap (alternated a) e ∙ ⊎_elim (alternated_first_out a left (y ∷ [])) (λ (q : length left < length a). odd (omega arith)) (cases_le (length a) (length left))
  alternated_back_second a b left None h e =
      let none : a ≡ [] = nil_from_length a (omega (arith, ap length e.0)) in
      (ap (λ (l : List I). alternated l b) none ∙ e.0, ap (λ (l : List I). alternated l left) none ∙ e.1)

  alternated_back_first : (a b left : List I) (o : Option I) → length b < length a → Back a o left → Back (alternated a b) o (alternated left b)
  alternated_back_first a b left (Some x) h e =
      let n : length a ≡ length left + 1 = ap length e ∙ length-append left (x ∷ []) in
      ap (λ (l : List I). alternated l b) e ∙ alternated_second_out left (x ∷ []) b (omega arith)
  alternated_back_first a b left None h e = absurd (omega (arith, ap length e.0))

  pub interleaved_back_first : (f : Bool) (xs ys left : List I) (o : Option I) → EndsFirst f (length xs) (length ys) → Back xs o left → Back (interleaved f xs ys) o (interleaved f left ys)
  interleaved_back_first false xs ys left o h e = alternated_back_first xs ys left o h e
  interleaved_back_first true xs ys left o h e = alternated_back_second ys xs left o h e

  pub interleaved_back_second : (f : Bool) (xs ys left : List I) (o : Option I) → EndsSecond f (length xs) (length ys) → Back ys o left → Back (interleaved f xs ys) o (interleaved f xs left)
  interleaved_back_second false xs ys left o h e = alternated_back_second xs ys left o h e
  interleaved_back_second true xs ys left o h e = alternated_back_first ys xs left o h e

  -- what a cut leaves, where the first list started and the flag was f
  rest : Bool → Bool → List I → List I → List I
  rest false after c d = interleaved after c d
  rest true after c d = interleaved after d c

  rest_same : (f after : Bool) (c d : List I) → after ≡ f → rest f after c d ≡ alternated c d
  unfolding rest
  rest_same false after c d e = ap (λ (t : Bool). interleaved t c d) e
  rest_same true after c d e = ap (λ (t : Bool). interleaved t d c) e

  rest_turned : (f after : Bool) (c d : List I) → after ≡ not f → rest f after c d ≡ alternated d c
  unfolding rest
  rest_turned false after c d e = ap (λ (t : Bool). interleaved t c d) e
  rest_turned true after c d e = ap (λ (t : Bool). interleaved t d c) e

  rest_first : (f after : Bool) (c d : List I) → d ≡ [] → rest f after c d ≡ c
  unfolding rest
  rest_first false after c d e = ap (interleaved after c) e ∙ interleaved_second_nil after c
  rest_first true after c d e = ap (λ (l : List I). interleaved after l c) e ∙ interleaved_first_nil after c

  rest_second : (f after : Bool) (c d : List I) → c ≡ [] → rest f after c d ≡ d
  unfolding rest
  rest_second false after c d e = ap (λ (l : List I). interleaved after l d) e ∙ interleaved_first_nil after d
  rest_second true after c d e = ap (interleaved after d) e ∙ interleaved_second_nil after d

  alternated_cut : (f after : Bool) (xs ys : List I) (a b : ℕ) → a ≤ length xs → b ≤ length ys → Turns a (length xs) b (length ys) f after → alternated xs ys ≡ alternated (take a xs) (take b ys) ++ rest f after (drop a xs) (drop b ys)
  alternated_cut f after xs ys a b la lb turns =
      let c = drop a xs in
      let d = drop b ys in
      let na : length (take a xs) ≡ a = length-take-le a xs la in
      let nb : length (take b ys) ≡ b = length-take-le b ys lb in
      let ex : xs ≡ take a xs ++ c = sym (take-append-drop a xs) in
      let ey : ys ≡ take b ys ++ d = sym (take-append-drop b ys) in
      let both : alternated xs ys ≡ alternated (take a xs ++ c) (take b ys ++ d) = ap (λ (l : List I). alternated l ys) ex ∙ ap (alternated (take a xs ++ c)) ey in
      let put : (l m : List I) → l ≡ m → alternated (take a xs) (take b ys) ++ l ≡ alternated (take a xs) (take b ys) ++ m = λ l m e. ap (λ (k : List I). alternated (take a xs) (take b ys) ++ k) e in
      let Goal = alternated xs ys ≡ alternated (take a xs) (take b ys) ++ rest f after c d in
      let even : (a ≡ b) × (after ≡ f) → Goal = λ e. both ∙ alternated_even (take a xs) c (take b ys) d (omega (arith, e.0)) ∙ put _ _ (sym (rest_same f after c d e.1)) in
      let odd : (a ≡ b + 1) × (after ≡ not f) → Goal = λ e. both ∙ alternated_odd (take a xs) c (take b ys) d (omega (arith, e.0)) ∙ put _ _ (sym (rest_turned f after c d e.1)) in
      let second : (b ≡ length ys) × (b ≤ a) → Goal = λ e.
      let none : d ≡ [] = drop_all b ys (omega (arith, e.0)) in
      let all : ys ≡ take b ys = sym (take_all b ys (omega (arith, e.0))) in
      ap (λ (l : List I). alternated l ys) ex ∙ ap (alternated (take a xs ++ c)) all ∙ alternated_second_out (take a xs) c (take b ys) (omega (arith, e.1)) ∙ put _ _ (sym (rest_first f after c d none)) in
      let first : (a ≡ length xs) × (a ≤ b) → Goal = λ e.
      let none : c ≡ [] = drop_all a xs (omega (arith, e.0)) in
      let all : xs ≡ take a xs = sym (take_all a xs (omega (arith, e.0))) in
      ap (λ (l : List I). alternated l ys) all ∙ ap (alternated (take a xs)) ey ∙ alternated_first_out (take a xs) (take b ys) d (omega (arith, e.1)) ∙ put _ _ (sym (rest_second f after c d none)) in
      ⊎_elim even (⊎_elim odd (⊎_elim second first)) turns

  cut_within : (k : ℕ) (f : Bool) (xs ys : List I) (s : Shares) → Dealt k (length xs) (length ys) f s → k ≤ length xs + length ys → (interleaved f (take s.i xs) (take s.j ys) ≡ take k (interleaved f xs ys)) × (interleaved s.i_next (drop s.i xs) (drop s.j ys) ≡ drop k (interleaved f xs ys))
  unfolding rest
  cut_within k false xs ys s t h =
      let w = t.within h in
      let p = alternated_cut false s.i_next xs ys s.i s.j w.0 w.1 t.turned in
      let n : length (alternated (take s.i xs) (take s.j ys)) ≡ min k (length (alternated xs ys)) = length_alternated (take s.i xs) (take s.j ys) ∙ omega (arith, length-take-le s.i xs w.0, length-take-le s.j ys w.1, t.sum, length_alternated xs ys) in
      halves k _ _ _ p n
  cut_within k true xs ys s t h =
      let w = t.within h in
      let p = alternated_cut true s.i_next ys xs s.j s.i w.1 w.0 t.turned in
      let n : length (alternated (take s.j ys) (take s.i xs)) ≡ min k (length (alternated ys xs)) = length_alternated (take s.j ys) (take s.i xs) ∙ omega (arith, length-take-le s.i xs w.0, length-take-le s.j ys w.1, t.sum, length_alternated ys xs) in
      halves k _ _ _ p n

  cut_past : (k : ℕ) (f after : Bool) (xs ys : List I) (a b : ℕ) → (length xs ≤ a) × (length ys ≤ b) → length xs + length ys < k → (interleaved f (take a xs) (take b ys) ≡ take k (interleaved f xs ys)) × (interleaved after (drop a xs) (drop b ys) ≡ drop k (interleaved f xs ys))
  cut_past k f after xs ys a b w h =
      let n = length_interleaved f xs ys in (
        interleaved_same f (take_all a xs w.0) (take_all b ys w.1) ∙ sym (take_all k (interleaved f xs ys) (omega (arith, n))),
        interleaved_same after (drop_all a xs w.0) (drop_all b ys w.1) ∙ interleaved_second_nil after [] ∙ sym (drop_all k (interleaved f xs ys) (omega (arith, n))),
      )

  -- the two parts of an interleaving that is cut at k
  pub interleaved_cut : (k : ℕ) (f : Bool) (xs ys : List I) (s : Shares) → Dealt k (length xs) (length ys) f s → (interleaved f (take s.i xs) (take s.j ys) ≡ take k (interleaved f xs ys)) × (interleaved s.i_next (drop s.i xs) (drop s.j ys) ≡ drop k (interleaved f xs ys))
  interleaved_cut k f xs ys s t = ⊎_elim (cut_within k f xs ys s t) (λ h. cut_past k f s.i_next xs ys s.i s.j (t.past h) h) (cases_le k (length xs + length ys))
