-- Names in order, and the places where they stand. Assumes nothing.
use Rattle.std.specs.Prelude.{◌≡◌, ℕ, ◌<◌, List, [], ◌∷◌, ◌++◌, map, length, Some, None, Option, String, slice_index_or}
use Rattle.std.specs.BTreeMap.{BTreeMap, IsOrdered, get_by_text}
use Rattle.std.specs.declared.alloc.Global.{Global}
use Rattle.std.specs.String.{string_cmp}

-- name stands at place k
abbrev pub NamedAt : List (List ℕ) → ℕ → List ℕ → Type 0
NamedAt names k name = (k < length names) × (slice_index_or names k [] ≡ name)

-- name is not there
abbrev pub Lacks : List (List ℕ) → List ℕ → Type 0
Lacks names name = (k : ℕ) → NamedAt names k name → ⊥

-- where name stands, if it is there
abbrev pub PlaceOf : List (List ℕ) → List ℕ → Option ℕ → Type 0
PlaceOf names name (Some k) = NamedAt names k name
PlaceOf names name None = Lacks names name

-- no name stands at two places
abbrev pub Distinct : List (List ℕ) → Type 0
Distinct names = (j k : ℕ) (name : List ℕ) → NamedAt names j name → NamedAt names k name → j ≡ k

-- the map tells the place of each name and of nothing else, so that no name is there twice
pub record Tells (places : BTreeMap (String Global) ℕ) (names : List (List ℕ)) : Type 0 where
  pub ordered : IsOrdered string_cmp places
  pub listed : (k : ℕ) → k < length names → get_by_text places (slice_index_or names k []) ≡ Some k
  pub only : (name : List ℕ) (k : ℕ) → get_by_text places name ≡ Some k → NamedAt names k name

-- new is old with item at the end, whose name was not there; or the same, where its name stands at a place
abbrev pub Added : {T : Type 0} → (T → List ℕ) → List T → List T → T → Option ℕ → Type 0
Added name old new item None = Lacks (map name old) (name item) × (new ≡ old ++ item ∷ [])
Added name old new item (Some k) = NamedAt (map name old) k (name item) × (new ≡ old)
