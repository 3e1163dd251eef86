-- What stands in the columns of a grid.
use Rattle.std.specs.Prelude.{ℕ, ◌-◌, List, ◌++◌, replicate}
use Rattle.std.specs.Fmt.{char_count}
use Rattle.frontend.specs.declared.grid.Align.{Align}
use Rattle.frontend.specs.declared.grid.Align.TheVariants.{Left, Right}

-- A space for each character that a text is short of the width.
abbrev pub spaces : ℕ → List ℕ → List ℕ
spaces width text = replicate (width - char_count text) 32

-- A text at its side of a column, with these spaces at the other.
abbrev pub aligned : Align → ℕ → List ℕ → List ℕ
aligned Left width text = text ++ spaces width text
aligned Right width text = spaces width text ++ text
