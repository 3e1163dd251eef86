-- A list in runs of one length.
use Rattle.std.specs.Prelude.{◌≡◌, ℕ, zero, suc, ◌+◌, ◌*◌, ◌/◌, ◌%◌, min, List, [], ◌∷◌, length, take, drop, slice_index_or}

-- the first n runs of c items, the last possibly shorter
abbrev pub cut_off : {I : Type 0} → ℕ → ℕ → List I → List (List I)
cut_off c zero xs = []
cut_off c (suc n) [] = []
cut_off c (suc n) (x ∷ xs) = take c (x ∷ xs) ∷ cut_off c n (drop c (x ∷ xs))

-- all runs of c items: a list has no more runs than items
abbrev pub chunked : {I : Type 0} → ℕ → List I → List (List I)
chunked c xs = cut_off c (length xs) xs

-- how many runs of c items n items make
abbrev pub run_count : ℕ → ℕ → ℕ
run_count n c = n / c + min 1 (n % c)

-- the first item of each run
abbrev pub firsts : {I : Type 0} → List (List I) → List I
firsts [] = []
firsts ([] ∷ rs) = firsts rs
firsts ((x ∷ r) ∷ rs) = x ∷ firsts rs

-- the items at the places 0, s, 2s and so on: the first of each run of s items
abbrev pub stepped : {I : Type 0} → ℕ → List I → List I
stepped s xs = firsts (chunked s xs)

-- ys has the items of xs at the places 0, s, 2s and so on, as many as there are
abbrev pub Places : {I : Type 0} → ℕ → List I → List I → Type 0
Places {I} s xs ys = (length ys ≡ run_count (length xs) s) × ((k : ℕ) (d : I) → slice_index_or ys k d ≡ slice_index_or xs (k * s) d)
