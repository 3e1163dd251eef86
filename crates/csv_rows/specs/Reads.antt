-- What the public functions answer. Assumes nothing.
use Rattle.std.specs.Prelude.{◌≡◌, ℕ, ◌-◌, ◌<◌, ◌≤◌, List, [], ◌∷◌, ◌++◌, map, length, take, drop, Some, None, Ok, Err, vec_items, codes, Option, Result, ◌≢◌, slice_index_or}
use Rattle.csv_rows.specs.declared.Fault.{Fault}
use Rattle.csv_rows.specs.declared.Fault.TheVariants.{QuoteInField, LoneReturn, TextAfterQuote, OpenQuote}
use Rattle.csv_rows.specs.declared.ReadError.{ReadError}
use Rattle.csv_rows.specs.declared.ReadError.TheVariants.{Memory, Malformed}
use Rattle.csv_rows.specs.declared.Row.{Row}
use Rattle.csv_rows.specs.Grammar.{Special, doubled, RowOf, count_of}

-- the fields of a row, as lists of bytes
abbrev pub cells : Row → List (List ℕ)
cells row = map vec_items (vec_items row.fields)

-- row is what text has from at on, and nothing else is
pub record RowAt (text : List ℕ) (at : ℕ) (row : Row) : Type 0 where
  pub inside : at < length text
  pub forward : at < row.next
  pub within : row.next ≤ length text
  pub fields : RowOf (cells row) (drop at text) (drop row.next text)
  pub only : (fs : List (List ℕ)) (rest : List ℕ) → RowOf fs (drop at text) rest → (fs ≡ cells row) × (rest ≡ drop row.next text)
  pub lines : row.lines ≡ count_of 10 (take (row.next - at) (drop at text))

-- the bytes s begin with what fault says
abbrev pub Offence : Fault → List ℕ → Type 0
Offence QuoteInField s = (rest : List ℕ) × (s ≡ 34 ∷ rest)
Offence LoneReturn s = (rest : List ℕ) × (s ≡ 13 ∷ rest) × ((more : List ℕ) → rest ≢ 10 ∷ more)
Offence TextAfterQuote s = (b : ℕ) × (rest : List ℕ) × (s ≡ b ∷ rest) × (Special b → ⊥)
Offence OpenQuote s = (f : List ℕ) × (s ≡ 34 ∷ doubled f)

-- text has no row from at on, and the offence stands at place
pub record NoRowAt (text : List ℕ) (at : ℕ) (fault : Fault) (place : ℕ) : Type 0 where
  pub inside : at < length text
  pub forward : at ≤ place
  pub within : place < length text
  pub offence : Offence fault (drop place text)
  pub none : (fs : List (List ℕ)) (rest : List ℕ) → RowOf fs (drop at text) rest → ⊥

-- what is answered for the row that begins at at
abbrev pub Answer : List ℕ → ℕ → Result (Option Row) ReadError → Type 0
Answer text at (Ok None) = length text ≤ at
Answer text at (Ok (Some row)) = RowAt text at row
Answer text at (Err Memory) = Unit {0}
Answer text at (Err (Malformed fault place)) = NoRowAt text at fault place

-- where name is first among fs, if it is there
abbrev pub FirstOf : List (List ℕ) → List ℕ → Option ℕ → Type 0
FirstOf fs name None = (k : ℕ) → k < length fs → slice_index_or fs k [] ≢ name
FirstOf fs name (Some i) = (i < length fs) × (slice_index_or fs i [] ≡ name) × ((k : ℕ) → k < i → slice_index_or fs k [] ≢ name)

-- text begins with the byte-order mark
abbrev pub Marked : List ℕ → Type 0
Marked text = (rest : List ℕ) × (text ≡ (239 ∷ 187 ∷ 191 ∷ []) ++ rest)

-- a fault in words
abbrev pub words : Fault → List ℕ
words QuoteInField = codes "a quote inside a field that is not quoted"
words LoneReturn = codes "a carriage return without a line feed"
words TextAfterQuote = codes "text after a closing quote"
words OpenQuote = codes "a quote that is never closed"
