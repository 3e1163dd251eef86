-- What is answered for a row, for a field of a line, and for a column of the header. Assumes nothing.
use Rattle.std.specs.Prelude.{◌≡◌, ℕ, ◌+◌, ◌<◌, ◌≤◌, true, ◌⊎◌, List, [], map, length, take, Some, None, Ok, Err, vec_items, string_bytes, IsUtf8, Option, Result, String}
use Rattle.std.specs.Borrow.{Bor}
use Rattle.std.specs.declared.alloc.Global.{Global}
use Rattle.csv_rows.specs.Grammar.{count_of}
use Rattle.csv_rows.specs.Reads.{NoRowAt, RowAt}
use Rattle.csv_rows.specs.declared.Fault.{Fault}
use Rattle.csv_rows.specs.declared.Row.{Row}
use Rattle.reading.specs.declared.failure.Column.{Column}
use Rattle.reading.specs.declared.failure.Failure.{Failure}
use Rattle.reading.specs.declared.failure.Failure.TheVariants.{Memory, Rejected}
use Rattle.reading.specs.declared.failure.Problem.TheVariants.{Malformed, MissingColumn, ColumnTwice, NotText, NoName, NotNumber}
use Rattle.reading.specs.declared.failure.Rejection.{Rejection}
use Rattle.reading.specs.declared.table.Line.{Line}
use Rattle.reading.specs.Columns.{name_of, most_of, optional}
use Rattle.reading.specs.Named.{NamedAt, Lacks}
use Rattle.reading.specs.Numbers.{Writes}
use Rattle.reading.specs.Tables.{OnlyAt, nth}

-- the number that field writes, where it is at most most
abbrev pub WrittenUpTo : List ℕ → ℕ → Option ℕ → Type 0
WrittenUpTo field most (Some n) = Writes field n × (n ≤ most)
WrittenUpTo field most None = (n : ℕ) → n ≤ most → Writes field n → ⊥

-- the fields of a line, as lists of bytes
abbrev pub fields_of : Line → List (List ℕ)
fields_of line = map vec_items (vec_items line.fields)

-- field i of a line, which is empty past the last one
abbrev pub field_of : Line → ℕ → List ℕ
field_of line i = nth (fields_of line) i

-- where a line is rejected, it is line n
abbrev pub AtLine : ℕ → Failure → Type 0
AtLine n Memory = Unit {0}
AtLine n (Rejected r) = r.line ≡ n

-- what is answered for the name in a field of line n: its bytes, which are some, or why it is no name
abbrev pub NameIn : ℕ → List ℕ → Column → Result (Bor (List ℕ)) Rejection → Type 0
NameIn n field column (Ok name) = (name.now ≡ field) × (0 < length field)
NameIn n field column (Err r) =
    (r.line ≡ n) × (((r.problem ≡ NoName column) × (field ≡ [])) ⊎ ((r.problem ≡ NotText column) × (IsUtf8 field → ⊥)))

-- field may be left out and is, or it writes a number that the column takes
abbrev pub NumberOf : Column → List ℕ → Option ℕ → Type 0
NumberOf column field None = (field ≡ []) × (optional column ≡ true)
NumberOf column field (Some n) = WrittenUpTo field (most_of column) (Some n)

-- s is the first 60 bytes of field, where they are text
abbrev pub Shows : List ℕ → String Global → Type 0
Shows field s = IsUtf8 (take 60 field) → string_bytes s ≡ take 60 field

-- what is answered for the number in a field of line n
abbrev pub NumberIn : ℕ → List ℕ → Column → Result (Option ℕ) Failure → Type 0
NumberIn n field column (Ok number) = NumberOf column field number
NumberIn n field column (Err Memory) = Unit {0}
NumberIn n field column (Err (Rejected r)) =
    (r.line ≡ n) × WrittenUpTo field (most_of column) None × ((found : String Global) × (r.problem ≡ NotNumber column found) × Shows field found)

-- what is answered for the row that begins at at
abbrev pub RowOk : List ℕ → ℕ → Result (Option Row) Failure → Type 0
RowOk text at (Ok None) = length text ≤ at
RowOk text at (Ok (Some row)) = RowAt text at row
RowOk text at (Err Memory) = Unit {0}
RowOk text at (Err (Rejected r)) =
    (fault : Fault) × (place : ℕ) × NoRowAt text at fault place × (r.problem ≡ Malformed fault) × (r.line ≡ 1 + count_of 10 (take place text))

-- two fields of the header have the name
abbrev pub Twice : List (List ℕ) → List ℕ → Type 0
Twice header name = (i : ℕ) × (k : ℕ) × (i < k) × NamedAt header i name × NamedAt header k name

-- what is answered for the place of a column: line 1 is rejected if its name is missing or there twice
abbrev pub PlaceIn : List (List ℕ) → Column → Result ℕ Rejection → Type 0
PlaceIn header column (Ok i) = OnlyAt header column i
PlaceIn header column (Err r) =
    (r.line ≡ 1) × (((r.problem ≡ MissingColumn column) × Lacks header (name_of column)) ⊎ ((r.problem ≡ ColumnTwice column) × Twice header (name_of column)))
