-- What the two files say. Assumes nothing.
use Rattle.std.specs.Prelude.{◌≡◌, ℕ, ◌<◌, ◌⊎◌, List, [], ◌∷◌, map, length, Some, None, vec_items, string_bytes, Option, slice_index}
use Rattle.reading.specs.declared.credits.Payer.{Payer}
use Rattle.reading.specs.declared.failure.Column.TheVariants.{Member, Machine, Start, Minutes, Rate, Cents}
use Rattle.reading.specs.declared.log.Entry.{Entry}
use Rattle.reading.specs.declared.log.Log.{Log}
use Rattle.reading.specs.Named.{NamedAt, Distinct}
use Rattle.reading.specs.Numbers.{Writes}
use Rattle.reading.specs.Tables.{TableOf, Under}

-- xs and ys are as long, and R holds of the two at each place
abbrev pub Pairwise : {X Y : Type 0} → (X → Y → Type 0) → List X → List Y → Type 0
Pairwise R [] [] = Unit {0}
Pairwise R [] (y ∷ ys) = ⊥
Pairwise R (x ∷ xs) [] = ⊥
Pairwise R (x ∷ xs) (y ∷ ys) = R x y × Pairwise R xs ys

-- field is empty and says no start, or it writes one
abbrev pub StartOf : Option ℕ → List ℕ → Type 0
StartOf None field = field ≡ []
StartOf (Some n) field = Writes field n

-- field is empty and the rate is 0, or it writes the rate
abbrev pub RateOf : ℕ → List ℕ → Type 0
RateOf rate field = ((field ≡ []) × (rate ≡ 0)) ⊎ Writes field rate

-- field is some bytes, and they are the name at place k
abbrev pub NameOf : List (List ℕ) → ℕ → List ℕ → Type 0
NameOf names k field = NamedAt names k field × (0 < length field)

-- entry is what a line of a log says, by its number and its fields
pub record EntryOf (header members machines : List (List ℕ)) (line : ℕ × List (List ℕ)) (entry : Entry) : Type 0 where
  pub number : entry.line ≡ line.0
  pub member : Under header line.1 Member (NameOf members entry.member)
  pub machine : Under header line.1 Machine (NameOf machines entry.machine)
  pub start : Under header line.1 Start (StartOf entry.start)
  pub minutes : Under header line.1 Minutes (λ field. Writes field entry.usage.minutes)
  pub rate : Under header line.1 Rate (RateOf entry.usage.rate)

-- each of so many places is that of some entry's machine
abbrev pub Used : ℕ → List Entry → Type 0
Used n entries = (k : ℕ) → k < n → (j : ℕ) × (j < length entries) × (slice_index (map (λ (e : Entry). e.machine) entries) j ≡ k)

-- log is what text says: an entry for each of its lines, and each machine once
pub record LogOf (text : List ℕ) (members : List (List ℕ)) (log : Log) : Type 0 where
  pub header : List (List ℕ)
  pub lines : List (ℕ × List (List ℕ))
  pub table : TableOf text header lines
  pub entries : Pairwise (EntryOf header members (map string_bytes log.machines)) lines (vec_items log.entries)
  pub machines : Distinct (map string_bytes log.machines)
  pub used : Used (length log.machines) (vec_items log.entries)

-- the members of the credits
abbrev pub members_of : List Payer → List (List ℕ)
members_of payers = map (λ p. string_bytes p.member) payers

-- payer has the credit that a line of the credits says
pub record CreditOf (header : List (List ℕ)) (line : ℕ × List (List ℕ)) (payer : Payer) : Type 0 where
  pub number : payer.credit.line ≡ line.0
  pub member : Under header line.1 Member (λ field. (field ≡ string_bytes payer.member) × (0 < length field))
  pub cents : Under header line.1 Cents (λ field. Writes field payer.credit.cents)

-- payers have what text says: one for each of its lines, and no member twice
pub record CreditsOf (text : List ℕ) (payers : List Payer) : Type 0 where
  pub header : List (List ℕ)
  pub lines : List (ℕ × List (List ℕ))
  pub table : TableOf text header lines
  pub list : Pairwise (CreditOf header) lines payers
  pub members : Distinct (members_of payers)
