-- What the inner functions answer. Assumes nothing.
use Rattle.std.specs.Prelude.{◌≡◌, ℕ, ◌⊎◌, List, [], ◌∷◌, ◌++◌, length, Ok, Err, Result, string_bytes}
use Rattle.workshop.specs.declared.usage.Usage.{Usage}
use Rattle.reading.specs.declared.credits.Credit.{Credit}
use Rattle.reading.specs.declared.credits.Payer.{Payer}
use Rattle.reading.specs.declared.failure.Column.TheVariants.{Member, Machine, Start, Minutes, Rate}
use Rattle.reading.specs.declared.failure.Failure.{Failure}
use Rattle.reading.specs.declared.log.Columns.{Columns}
use Rattle.reading.specs.declared.log.Entry.{Entry}
use Rattle.reading.specs.declared.table.Line.{Line}
use Rattle.reading.specs.Books.{EntryOf, NameOf, RateOf, members_of}
use Rattle.reading.specs.Fields.{fields_of, field_of, AtLine}
use Rattle.reading.specs.Named.{Distinct}
use Rattle.reading.specs.Numbers.{Writes}
use Rattle.reading.specs.Tables.{OnlyAt}

-- at has the places of the columns of a log
pub record Located (header : List (List ℕ)) (at : Columns) : Type 0 where
  pub member : OnlyAt header Member at.member
  pub machine : OnlyAt header Machine at.machine
  pub start : OnlyAt header Start at.start
  pub minutes : OnlyAt header Minutes at.minutes
  pub rate : OnlyAt header Rate at.rate

-- usage is what a line says
pub record UsageRead (line : Line) (at : Columns) (usage : Usage) : Type 0 where
  pub minutes : Writes (field_of line at.minutes) usage.minutes
  pub rate : RateOf usage.rate (field_of line at.rate)

-- new has the names of old, and at most one more, at place k
abbrev pub Grew : List (List ℕ) → List (List ℕ) → ℕ → Type 0
Grew old new k = (new ≡ old) ⊎ ((name : List ℕ) × (new ≡ old ++ name ∷ []) × (k ≡ length old))

-- place k of the new machines is that of a field, and they are the old ones and at most one more
pub record MachineRead (old new : List (List ℕ)) (field : List ℕ) (k : ℕ) : Type 0 where
  pub named : NameOf new k field
  pub grew : Grew old new k
  pub distinct : Distinct new

-- entry is what a line says, after which the machines are new
pub record EntryRead (header members old new : List (List ℕ)) (line : Line) (entry : Entry) : Type 0 where
  pub says : EntryOf header members new (line.number, fields_of line) entry
  pub grew : Grew old new entry.machine
  pub distinct : Distinct new

-- what is answered where a line's credit is added: it is the last, and no member has two
abbrev pub CreditAdded : List Payer → List Payer → List ℕ → Credit → Result (Unit {0}) Failure → Type 0
CreditAdded old new member credit (Ok u) =
    (payer : Payer) × (string_bytes payer.member ≡ member) × (payer.credit ≡ credit) × (new ≡ old ++ payer ∷ []) × Distinct (members_of new)
CreditAdded old new member credit (Err e) = AtLine credit.line e
