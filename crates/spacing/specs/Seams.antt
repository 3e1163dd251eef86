-- How a cut of an interspersed list falls on its items and separators.
use Rattle.std.specs.Prelude.{◌≡◌, ℕ, ◌-◌, ◌<◌, ◌≤◌, min, Bool, false, not, ◌⊎◌}
use Rattle.spacing.specs.declared.intersperse.Seam.{Seam}
use Rattle.spacing.specs.Intersperse.{width}

-- a separator at an end goes to one side, and the other has none
abbrev pub Goes : (whole left right : Bool) → Type 0
Goes whole left right = ((left ≡ whole) × (right ≡ false)) ⊎ ((left ≡ false) × (right ≡ whole))

-- of n items with the ends first and last, the seam's base stays left and the others go right: between two items their
-- separator goes to one side; after the last item the trailing one does; before the first the leading one
abbrev pub Falls : (n : ℕ) (first last : Bool) → Seam → Type 0
Falls n first last s = ((1 ≤ s.base) × (s.base < n) × (s.left_first ≡ first) × (s.right_last ≡ last) × (s.right_first ≡ not s.left_last)) ⊎ (((s.base ≡ n) × (s.left_first ≡ first) × (s.right_first ≡ false) × Goes last s.left_last s.right_last) ⊎ ((s.base ≡ 0) × (s.left_last ≡ false) × (s.right_last ≡ last) × Goes first s.left_first s.right_first))

-- the left part has k in all, or all of them, and the right part the rest
pub record Seamed (k n : ℕ) (first last : Bool) (s : Seam) : Type 0 where
  pub within : s.base ≤ n
  pub count : width s.left_first s.base s.left_last ≡ min k (width first n last)
  pub others : width s.right_first (n - s.base) s.right_last ≡ width first n last - k
  pub falls : Falls n first last s
