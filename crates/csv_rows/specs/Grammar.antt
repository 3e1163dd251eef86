-- Comma-separated text as RFC 4180 has it, with a bare line feed as a line end too. Assumes nothing.
use Rattle.std.specs.Prelude.{◌≡◌, ℕ, cond, ◌⊎◌, List, [], ◌∷◌, ◌++◌, count_by, ◌==◌, nat_eq}
use Rattle.std.specs.List.{flat_map, AllByRecursion}

-- b is no plain byte: a comma, a quote, a carriage return or a line feed
abbrev pub Special : ℕ → Type 0
Special b = (b ≡ 44) ⊎ ((b ≡ 34) ⊎ ((b ≡ 13) ⊎ (b ≡ 10)))

-- each byte of f is plain
abbrev pub Plain : List ℕ → Type 0
Plain f = AllByRecursion (λ b. Special b → ⊥) f

-- a byte as it is written between quotes: a quote twice, any other once
abbrev pub twice : ℕ → List ℕ
twice b = cond (b == 34) (34 ∷ 34 ∷ []) (b ∷ [])

-- f with each quote written twice
abbrev pub doubled : List ℕ → List ℕ
doubled f = flat_map twice f

-- f between quotes
abbrev pub quoted : List ℕ → List ℕ
quoted f = 34 ∷ (doubled f ++ (34 ∷ []))

-- the field f is written as t: as itself where it is plain, or quoted
abbrev pub Field : List ℕ → List ℕ → Type 0
Field f t = (Plain f × (t ≡ f)) ⊎ (t ≡ quoted f)

-- the fields fs, of which there is at least one, are written as t, with a comma between each and the next
abbrev pub Fields : List (List ℕ) → List ℕ → Type 0
Fields [] t = ⊥
Fields (f ∷ []) t = Field f t
Fields (f ∷ g ∷ fs) t = (u : List ℕ) × (v : List ℕ) × Field f u × Fields (g ∷ fs) v × (t ≡ u ++ (44 ∷ v))

-- e ends a row before rest: a line feed, a carriage return and a line feed, or nothing at the end of the text
abbrev pub Ends : List ℕ → List ℕ → Type 0
Ends e rest = (e ≡ 10 ∷ []) ⊎ ((e ≡ 13 ∷ 10 ∷ []) ⊎ ((e ≡ []) × (rest ≡ [])))

-- bytes are a row with the fields fs, and then rest
abbrev pub RowOf : List (List ℕ) → List ℕ → List ℕ → Type 0
RowOf fs bytes rest = (t : List ℕ) × (e : List ℕ) × Fields fs t × Ends e rest × (bytes ≡ t ++ (e ++ rest))

-- how many elements of xs equal b
abbrev pub count_of : ℕ → List ℕ → ℕ
count_of b xs = count_by (λ x. nat_eq x b) xs
