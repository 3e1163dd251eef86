-- What is left to read of a file below its header. Assumes nothing.
use Rattle.std.specs.Prelude.{◌≡◌, ℕ, ◌<◌, List, [], ◌∷◌, drop, Some, None, Ok, Err, Option, Result}
use Rattle.csv_rows.specs.Reads.{cells}
use Rattle.csv_rows.specs.declared.Row.{Row}
use Rattle.reading.specs.declared.failure.Failure.{Failure}
use Rattle.reading.specs.declared.table.Line.{Line}
use Rattle.reading.specs.declared.table.Table.{Table}
use Rattle.reading.specs.Fields.{fields_of}
use Rattle.reading.specs.Tables.{Lines, TableOf, HasLine, OnLine}

-- the lines ls are what is left to read of a table
abbrev pub Holds : Table → List (ℕ × List (List ℕ)) → Type 0
Holds table ls = Lines table.width table.line (drop table.at table.text.now) ls

-- a table below the header of text
pub record Opened (text : List ℕ) (header : Row) (table : Table) : Type 0 where
  pub same : table.text.now ≡ text
  pub below : (ls : List (ℕ × List (List ℕ))) → Holds table ls → TableOf text (cells header) ls

-- what is answered where text is opened
abbrev pub OpenOk : List ℕ → Result (Row × Table) Failure → Type 0
OpenOk text (Ok r) = Opened text r.0 r.1
OpenOk text (Err e) = OnLine text e

-- line is the first of what old has to read, and new has the rest
pub record Step (old new : Table) (line : Line) : Type 0 where
  pub forward : old.at < new.at
  pub on : HasLine old.text.now line.number
  pub first : (ls : List (ℕ × List (List ℕ))) → Holds new ls → Holds old ((line.number, fields_of line) ∷ ls)

-- what is answered for the next line of old
abbrev pub ReadFrom : Table → Table → Result (Option Line) Failure → Type 0
ReadFrom old new (Ok None) = Holds old []
ReadFrom old new (Ok (Some line)) = Step old new line
ReadFrom old new (Err e) = OnLine old.text.now e
