-- What a taking from a list of remaining items answers and leaves.
use Rattle.std.specs.Prelude.{◌≡◌, List, [], ◌∷◌, ◌++◌, Some, None, Option}
use Rattle.std.specs.Option.{option_map_or}
use Rattle.plumbing.specs.declared.fuse.Fuse.{Fuse}

-- a taking from the front: the first item, and the rest is left; or none, where there was nothing, and nothing is left
abbrev pub Front : {I : Type 0} → List I → Option I → List I → Type 0
Front was (Some x) left = was ≡ x ∷ left
Front was None left = (was ≡ []) × (left ≡ [])

-- a taking from the end: the last item, and what stands before it is left; or none, where there was nothing
abbrev pub Back : {I : Type 0} → List I → Option I → List I → Type 0
Back was (Some x) left = was ≡ left ++ (x ∷ [])
Back was None left = (was ≡ []) × (left ≡ [])

-- the items that a fused cursor still has: none once it has ended
abbrev pub left_in : {K I : Type 0} → (K → List I) → Fuse K → List I
left_in remaining f = option_map_or remaining f.cursor []
