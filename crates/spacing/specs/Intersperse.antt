-- A list with a separator between neighbours.
use Rattle.std.specs.Prelude.{ℕ, ◌+◌, ◌-◌, Bool, true, false, if◌then◌else◌, List, [], ◌∷◌, ◌++◌}

-- a separator before each item
abbrev pub led : {I : Type 0} → I → List I → List I
led s [] = []
led s (x ∷ xs) = s ∷ (x ∷ led s xs)

-- one separator between neighbours
abbrev pub interspersed : {I : Type 0} → I → List I → List I
interspersed s [] = []
interspersed s (x ∷ xs) = x ∷ led s xs

-- a separator at an end where the flag is set
abbrev pub edge : {I : Type 0} → I → Bool → List I
edge s true = s ∷ []
edge s false = []

-- a leading separator if any, the items with one separator between neighbours, a trailing separator if any
abbrev pub framed : {I : Type 0} → I → Bool → List I → Bool → List I
framed s first xs last = edge s first ++ (interspersed s xs ++ edge s last)

-- how many that are for n items
abbrev pub width : Bool → ℕ → Bool → ℕ
width first n last = (if first then 1 else 0) + ((n + (n - 1)) + (if last then 1 else 0))
