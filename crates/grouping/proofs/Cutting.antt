-- Laws of the runs of a list: how many, the first, the last, a cut. Assumes nothing.
use Rattle.std.proofs.Common.{◌≡◌, ℕ, zero, suc, ◌+◌, ◌*◌, ◌/◌, ◌%◌, ◌<◌, ◌≤◌, min, List, [], ◌∷◌, ◌++◌, map, length, get_or, take, drop, sym, refl, ap, ◌∙◌, ⊎_elim, suc-mul, zero-mul, arith, length-append, length-drop, length-take, take-append-drop}
use Rattle.std.proofs.lemmas.List.{nil_from_length, length-take-le, take_all, drop_all, take-append-le, drop-append-le, take-take, drop-take, drop-drop, length-map, get_or-drop}
use Rattle.std.proofs.lemmas.Nat.{div-add-mod', mod_below}
use Rattle.std.proofs.lemmas.Bool.{cases_lt}
use Rattle.grouping.specs.Runs.{cut_off, chunked, run_count, firsts, stepped, Places}

module _ {I : Type 0} (c : ℕ) (pos : 1 ≤ c) where
  cut_off_any : (n m : ℕ) (xs : List I) → length xs ≤ n → length xs ≤ m → cut_off c n xs ≡ cut_off c m xs
  cut_off_any zero zero xs p q = refl
  cut_off_any zero (suc m) [] p q = refl
  cut_off_any zero (suc m) (x ∷ xs) p q = absurd (omega arith)
  cut_off_any (suc n) zero [] p q = refl
  cut_off_any (suc n) zero (x ∷ xs) p q = absurd (omega arith)
  cut_off_any (suc n) (suc m) [] p q = refl
  cut_off_any (suc n) (suc m) (x ∷ xs) p q =
      let d = length-drop c (x ∷ xs) in
      ap (λ (l : List (List I)). take c (x ∷ xs) ∷ l) (cut_off_any n m (drop c (x ∷ xs)) (omega (arith, d)) (omega (arith, d)))

  pub chunked_first : (xs : List I) → 1 ≤ length xs → chunked c xs ≡ take c xs ∷ chunked c (drop c xs)
  chunked_first [] h = absurd (omega arith)
  chunked_first (x ∷ xs) h =
      let d = length-drop c (x ∷ xs) in
      ap (λ (l : List (List I)). take c (x ∷ xs) ∷ l) (cut_off_any (length xs) (length (drop c (x ∷ xs))) (drop c (x ∷ xs)) (omega (arith, d)) (omega arith))

  chunked_none : (xs : List I) → length xs ≡ 0 → chunked c xs ≡ []
  chunked_none xs e = ap (chunked c) (nil_from_length xs e)

  -- a list that fits into one run
  pub chunked_one : (xs : List I) → 1 ≤ length xs → length xs ≤ c → chunked c xs ≡ xs ∷ []
  chunked_one xs h k = chunked_first xs h ∙ ap (λ (l : List I). l ∷ chunked c (drop c xs)) (take_all c xs k) ∙ ap (λ (l : List I). xs ∷ chunked c l) (drop_all c xs k)

  -- whole runs, and then the others
  pub chunked_append : (k : ℕ) (xs ys : List I) → length xs ≡ k * c → chunked c (xs ++ ys) ≡ chunked c xs ++ chunked c ys
  chunked_append zero xs ys e =
      let none : xs ≡ [] = nil_from_length xs (e ∙ zero-mul c) in
      ap (λ (l : List I). chunked c (l ++ ys)) none ∙ ap (λ (l : List I). chunked c l ++ chunked c ys) (sym none)
  chunked_append (suc k) xs ys e =
      let n : length xs ≡ k * c + c = e ∙ suc-mul k c in
      let le : c ≤ length xs = omega arith in
      let d : length (drop c xs) ≡ k * c = length-drop c xs ∙ omega arith in
      let some : 1 ≤ length xs = omega arith in
      let both : 1 ≤ length (xs ++ ys) = omega (arith, length-append xs ys) in
      chunked_first (xs ++ ys) both
      ∙ ap (λ (l : List I). l ∷ chunked c (drop c (xs ++ ys))) (take-append-le c xs ys le)
      ∙ ap (λ (l : List I). take c xs ∷ chunked c l) (drop-append-le c xs ys le)
      ∙ ap (λ (l : List (List I)). take c xs ∷ l) (chunked_append k (drop c xs) ys d)
      ∙ ap (λ (l : List (List I)). l ++ chunked c ys) (sym (chunked_first xs some))

  -- how many whole runs there are
  pub length_whole : (k : ℕ) (xs : List I) → length xs ≡ k * c → length (chunked c xs) ≡ k
  length_whole zero xs e = ap length (chunked_none xs (e ∙ zero-mul c))
  length_whole (suc k) xs e =
      let n : length xs ≡ k * c + c = e ∙ suc-mul k c in
      let d : length (drop c xs) ≡ k * c = length-drop c xs ∙ omega arith in
      ap length (chunked_first xs (omega arith)) ∙ ap suc (length_whole k (drop c xs) d)

  -- the last run: all stand before it in whole runs
  pub chunked_last : (k : ℕ) (xs : List I) (m : ℕ) → m ≡ k * c → m < length xs → length xs ≤ m + c → chunked c xs ≡ chunked c (take m xs) ++ (drop m xs ∷ [])
  chunked_last k xs m e lt le =
      let t : length (take m xs) ≡ k * c = length-take-le m xs (omega arith) ∙ e in
      let d = length-drop m xs in
      ap (chunked c) (sym (take-append-drop m xs)) ∙ chunked_append k (take m xs) (drop m xs) t
      ∙ ap (λ (l : List (List I)). chunked c (take m xs) ++ l) (chunked_one (drop m xs) (omega (arith, d)) (omega (arith, d)))

  pub length_chunked : (xs : List I) → length (chunked c xs) ≡ run_count (length xs) c
  length_chunked xs =
      let n = length xs in
      let q = n / c in
      let m = q * c in
      let whole : m + n % c ≡ n = div-add-mod' n c in
      let t : length (take m xs) ≡ m = length-take-le m xs (omega arith) in
      let d : length (drop m xs) ≡ n % c = length-drop m xs ∙ omega arith in
      let below : n % c < c = mod_below n c (omega arith) in
      let rest : length (chunked c (drop m xs)) ≡ min 1 (n % c) =
      ⊎_elim (λ (h : n % c < 1). ap length (chunked_none (drop m xs) (omega arith)) ∙ omega arith)
      (λ (h : 1 ≤ n % c). ap length (chunked_one (drop m xs) (omega arith) (omega arith)) ∙ omega arith)
      (cases_lt (n % c) 1) in
      ap (λ (l : List I). length (chunked c l)) (sym (take-append-drop m xs))
      ∙ ap length (chunked_append q (take m xs) (drop m xs) t)
      ∙ length-append (chunked c (take m xs)) (chunked c (drop m xs))
      ∙ omega (arith, length_whole q (take m xs) t, rest)

  pub length_valued : {J : Type 0} (v : List I → J) (xs : List I) → length (map v (chunked c xs)) ≡ run_count (length xs) c
  length_valued v xs = length-map (chunked c xs) v ∙ length_chunked xs

  -- a cut after k runs
  pub take_runs : (k : ℕ) (xs : List I) → chunked c (take (k * c) xs) ≡ take k (chunked c xs)
  take_runs zero xs = ap (λ n. chunked c (take n xs)) (zero-mul c)
  take_runs (suc k) [] = ap (chunked c) (take_all (suc k * c) [] (omega arith))
  take_runs (suc k) (x ∷ xs) =
      let ys = x ∷ xs in
      let m = c + k * c in
      let e : suc k * c ≡ m = omega (arith, suc-mul k c) in
      let some : 1 ≤ length (take m ys) = omega (arith, length-take m ys) in
      ap (λ n. chunked c (take n ys)) e ∙ chunked_first (take m ys) some
      ∙ ap (λ l. l ∷ chunked c (drop c (take m ys))) (take-take c m ys (omega arith))
      ∙ ap (λ l. take c ys ∷ chunked c l) (drop-take c (k * c) ys)
      ∙ ap (λ l. take c ys ∷ l) (take_runs k (drop c ys))
      ∙ sym (ap (take (suc k)) (chunked_first ys (omega arith)))

  pub drop_runs : (k : ℕ) (xs : List I) → chunked c (drop (k * c) xs) ≡ drop k (chunked c xs)
  drop_runs zero xs = ap (λ n. chunked c (drop n xs)) (zero-mul c)
  drop_runs (suc k) [] = ap (chunked c) (drop_all (suc k * c) [] (omega arith))
  drop_runs (suc k) (x ∷ xs) =
      let ys = x ∷ xs in
      let e : suc k * c ≡ c + k * c = omega (arith, suc-mul k c) in
      ap (λ n. chunked c (drop n ys)) e ∙ ap (chunked c) (sym (drop-drop (k * c) c ys)) ∙ drop_runs k (drop c ys)
      ∙ sym (ap (drop (suc k)) (chunked_first ys (omega arith)))

  cut_off_firsts : (n : ℕ) (xs : List I) → length (firsts (cut_off c n xs)) ≡ length (cut_off c n xs)
  cut_off_firsts zero xs = refl
  cut_off_firsts (suc n) [] = refl
  cut_off_firsts (suc n) (x ∷ xs) = one c pos (cut_off c n (drop c (x ∷ xs))) (cut_off_firsts n (drop c (x ∷ xs)))
    where
      one : (d : ℕ) → 1 ≤ d → (rs : List (List I)) → length (firsts rs) ≡ length rs → length (firsts (take d (x ∷ xs) ∷ rs)) ≡ suc (length rs)
      one zero h rs e = absurd (omega arith)
      one (suc d) h rs e = ap suc e

  first_of : (d : ℕ) → 1 ≤ d → (x : I) (xs : List I) (rs : List (List I)) → firsts (take d (x ∷ xs) ∷ rs) ≡ x ∷ firsts rs
  first_of zero h x xs rs = absurd (omega arith)
  first_of (suc d) h x xs rs = refl

  cut_off_take : (k n : ℕ) (xs : List I) → firsts (take k (cut_off c n xs)) ≡ take k (firsts (cut_off c n xs))
  cut_off_take zero n xs = refl
  cut_off_take (suc k) zero xs = refl
  cut_off_take (suc k) (suc n) [] = refl
  cut_off_take (suc k) (suc n) (x ∷ xs) =
      let rs = cut_off c n (drop c (x ∷ xs)) in
      first_of c pos x xs (take k rs) ∙ ap (λ l. x ∷ l) (cut_off_take k n (drop c (x ∷ xs))) ∙ sym (ap (take (suc k)) (first_of c pos x xs rs))

  cut_off_drop : (k n : ℕ) (xs : List I) → firsts (drop k (cut_off c n xs)) ≡ drop k (firsts (cut_off c n xs))
  cut_off_drop zero n xs = refl
  cut_off_drop (suc k) zero xs = refl
  cut_off_drop (suc k) (suc n) [] = refl
  cut_off_drop (suc k) (suc n) (x ∷ xs) =
      cut_off_drop k n (drop c (x ∷ xs)) ∙ sym (ap (drop (suc k)) (first_of c pos x xs (cut_off c n (drop c (x ∷ xs)))))

  -- each run has a first item
  pub length_stepped : (xs : List I) → length (stepped c xs) ≡ run_count (length xs) c
  length_stepped xs = cut_off_firsts (length xs) xs ∙ length_chunked xs

  -- a cut of the first items
  pub firsts_cut : (k : ℕ) (xs : List I) → (firsts (take k (chunked c xs)) ≡ take k (stepped c xs)) × (firsts (drop k (chunked c xs)) ≡ drop k (stepped c xs))
  firsts_cut k xs = (cut_off_take k (length xs) xs, cut_off_drop k (length xs) xs)

  get_or_cut_off : (n : ℕ) (xs : List I) (k : ℕ) (d : I) → length xs ≤ n → get_or (firsts (cut_off c n xs)) k d ≡ get_or xs (k * c) d
  get_or_cut_off zero [] k d h = refl
  get_or_cut_off zero (x ∷ xs) k d h = absurd (omega arith)
  get_or_cut_off (suc n) [] k d h = refl
  get_or_cut_off (suc n) (x ∷ xs) k d h = one c pos (cut_off c n (drop c (x ∷ xs))) k
      (λ j. get_or_cut_off n (drop c (x ∷ xs)) j d (omega (arith, length-drop c (x ∷ xs))) ∙ get_or-drop c (x ∷ xs) (j * c) d)
    where
      one : (e : ℕ) → 1 ≤ e → (rs : List (List I)) (k : ℕ) → ((j : ℕ) → get_or (firsts rs) j d ≡ get_or (x ∷ xs) (c + j * c) d) → get_or (firsts (take e (x ∷ xs) ∷ rs)) k d ≡ get_or (x ∷ xs) (k * c) d
      one zero h rs k more = absurd (omega arith)
      one (suc e) h rs zero more = ap (λ (i : ℕ). get_or (x ∷ xs) i d) (sym (zero-mul c))
      one (suc e) h rs (suc k) more = more k ∙ ap (λ (i : ℕ). get_or (x ∷ xs) i d) (omega (arith, suc-mul k c))

  -- the first of each run of c items is what stands at the places 0, c, 2c and so on
  pub stepped_places : (xs : List I) → Places c xs (stepped c xs)
  stepped_places xs = (length_stepped xs, λ k d. get_or_cut_off (length xs) xs k d (omega arith))

module _ {I : Type 0} where
  pub firsts_append : (rs bs : List (List I)) → firsts (rs ++ bs) ≡ firsts rs ++ firsts bs
  firsts_append [] bs = refl
  firsts_append ([] ∷ rs) bs = firsts_append rs bs
  firsts_append ((x ∷ r) ∷ rs) bs = ap (λ (l : List I). x ∷ l) (firsts_append rs bs)
