-- The header and the lines of a file. Assumes nothing.
use Rattle.std.specs.Prelude.{◌≡◌, ℕ, ◌+◌, ◌-◌, ◌<◌, ◌≤◌, ◌⊎◌, List, [], ◌∷◌, length, take, drop, ◌≢◌, slice_index_or}
use Rattle.csv_rows.specs.Grammar.{RowOf, count_of}
use Rattle.csv_rows.specs.Reads.{Marked}
use Rattle.reading.specs.declared.failure.Column.{Column}
use Rattle.reading.specs.declared.failure.Failure.{Failure}
use Rattle.reading.specs.declared.failure.Failure.TheVariants.{Memory, Rejected}
use Rattle.reading.specs.Columns.{name_of}

-- how many line feeds bytes has before rest, with which it ends
abbrev pub feeds : List ℕ → List ℕ → ℕ
feeds bytes rest = count_of 10 (take (length bytes - length rest) bytes)

-- bytes, which begin on line n, hold the lines ls, each with its number and as many fields as width; a line with nothing on it is passed over
pub data Lines (width : ℕ) : ℕ → List ℕ → List (ℕ × List (List ℕ)) → Type 0 where
  end : {n : ℕ} → Lines width n [] []
  blank : {n : ℕ} {bytes rest : List ℕ} {ls : List (ℕ × List (List ℕ))} → RowOf ([] ∷ []) bytes rest → Lines width (n + feeds bytes rest) rest ls → Lines width n bytes ls
  more : {n : ℕ} {bytes rest : List ℕ} {fs : List (List ℕ)} {ls : List (ℕ × List (List ℕ))} → RowOf fs bytes rest → length fs ≡ width → (fs ≢ [] ∷ []) → Lines width (n + feeds bytes rest) rest ls → Lines width n bytes ((n, fs) ∷ ls)

-- text begins at start: past the byte-order mark, if it has one
abbrev pub Begins : List ℕ → ℕ → Type 0
Begins text start = ((start ≡ 3) × Marked text) ⊎ ((start ≡ 0) × (Marked text → ⊥))

-- text is a header row and the lines ls below it
pub record TableOf (text : List ℕ) (header : List (List ℕ)) (ls : List (ℕ × List (List ℕ))) : Type 0 where
  pub start : ℕ
  pub begins : Begins text start
  pub rest : List ℕ
  pub top : RowOf header (drop start text) rest
  pub below : Lines (length header) (1 + feeds (drop start text) rest) rest ls

-- field i, which is empty past the last one
abbrev pub nth : List (List ℕ) → ℕ → List ℕ
nth fs i = slice_index_or fs i []

-- the column's name is field i of the header and no other
abbrev pub OnlyAt : List (List ℕ) → Column → ℕ → Type 0
OnlyAt header column i =
    (i < length header) × (nth header i ≡ name_of column) × ((k : ℕ) → k < length header → nth header k ≡ name_of column → k ≡ i)

-- P holds of the field that a line with the fields fs has in a column
pub record Under (header fs : List (List ℕ)) (column : Column) (P : List ℕ → Type 0) : Type 0 where
  pub place : ℕ
  pub only : OnlyAt header column place
  pub holds : P (nth fs place)

-- text has a line n
abbrev pub HasLine : List ℕ → ℕ → Type 0
HasLine text n = (1 ≤ n) × (n ≤ 1 + count_of 10 text)

-- where a line is rejected, text has it
abbrev pub OnLine : List ℕ → Failure → Type 0
OnLine text Memory = Unit {0}
OnLine text (Rejected r) = HasLine text r.line
