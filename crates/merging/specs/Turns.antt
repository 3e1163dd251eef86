-- A taking from the first of two lists, and where it has nothing from the second.
use Rattle.std.specs.Prelude.{◌≡◌, List, [], ◌∷◌, Some, Option}
use Rattle.plumbing.specs.Cursors.{Front}

-- o is the first item of xs, or of ys where xs has none, and left and rest are what is left of the two
abbrev pub FrontOf : {I : Type 0} → (xs ys : List I) → Option I → (left rest : List I) → Type 0
FrontOf [] ys o left rest = (left ≡ []) × Front ys o rest
FrontOf (x ∷ xs) ys o left rest = (o ≡ Some x) × (left ≡ xs) × (rest ≡ ys)
