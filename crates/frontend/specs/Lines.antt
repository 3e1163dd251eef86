-- The lines of the tab-separated values.
use Rattle.std.specs.Prelude.{◌≡◌, ℕ, List, [], ◌∷◌, ◌++◌, length, Some, None, codes, decimal, vec_items, string_bytes, Option}
use Rattle.std.specs.List.{flat_map, AllZip}
use Rattle.workshop.specs.Credit.{out_at}
use Rattle.workshop.specs.declared.credit.Standing.{Standing}
use Rattle.workshop.specs.declared.credit.Standing.TheVariants.{Left, RanOut, Unknown}
use Rattle.ledger.specs.Written.{escaped}
use Rattle.ledger.specs.declared.books.Books.{Books}
use Rattle.ledger.specs.declared.books.Machine.{Machine}
use Rattle.ledger.specs.declared.books.Member.{Member}
use Rattle.ledger.specs.declared.shown.Spot.{Spot}
use Rattle.frontend.specs.declared.tsv.Kind.{Kind}
use Rattle.frontend.specs.declared.tsv.Kind.TheVariants as kind
use Rattle.frontend.specs.declared.tsv.Values.{Values}
use Rattle.frontend.specs.Told.{all_stopped, all_unrated, IsSpot, IsSpotOf}

-- What a line speaks of.
abbrev pub kind_word : Kind → List ℕ
kind_word kind.Member = codes "member"
kind_word kind.Log = codes "log"
kind_word kind.Stop = codes "stop"
kind_word kind.NoRate = codes "no_rate"

-- A field with a number, or an empty one.
abbrev pub number_field : Option ℕ → List ℕ
number_field None = 9 ∷ []
number_field (Some n) = 9 ∷ decimal n

-- Three fields with a record's number, its line and its machine, or three empty ones.
abbrev pub spot_fields : Option Spot → List ℕ
spot_fields None = 9 ∷ 9 ∷ 9 ∷ []
spot_fields (Some s) = 9 ∷ (decimal s.number ++ (9 ∷ (decimal s.line ++ (9 ∷ escaped s.machine.now))))

-- A line of fifteen fields with a tab before each but the first, and a line feed at its end.
abbrev pub line_of : Kind → List ℕ → Option ℕ → Option ℕ → Option ℕ → Option ℕ → Option Spot → Option Spot → Option Spot → List ℕ
line_of kind name records billed credit left out first last =
    (kind_word kind ++ (9 ∷ escaped name))
    ++ (number_field records ++ (number_field billed ++ (number_field credit ++ (number_field left ++ (spot_fields out ++ (spot_fields first ++ (spot_fields last ++ (10 ∷ []))))))))

-- The line that says these values.
abbrev pub line : Values → List ℕ
line v = line_of v.kind v.name.now v.records v.billed v.credit v.left v.ran_out v.first_missing v.last_missing

-- Values of a kind and a name, and nothing else.
pub record Bare (kind : Kind) (name : List ℕ) (v : Values) : Type 0 where
  pub kind_is : v.kind ≡ kind
  pub name_is : v.name.now ≡ name
  pub no_records : v.records ≡ None
  pub no_billed : v.billed ≡ None
  pub no_credit : v.credit ≡ None
  pub no_left : v.left ≡ None
  pub no_out : v.ran_out ≡ None
  pub no_first : v.first_missing ≡ None
  pub no_last : v.last_missing ≡ None

-- The line of a kind with a name and, if there is one, a number of records.
abbrev pub short_line : Kind → List ℕ → Option ℕ → List ℕ
short_line kind name records = line_of kind name records None None None None None None

-- The cents that are left of a credit, where that is known.
abbrev pub left_cents : Standing → Option ℕ
left_cents (Left cents) = Some cents
left_cents (RanOut k) = None
left_cents (Unknown k) = None

-- The values of a member.
pub record OfMember (books : Books) (m : Member) (v : Values) : Type 0 where
  pub kind_is : v.kind ≡ kind.Member
  pub name_is : v.name.now ≡ string_bytes m.name
  pub records_are : v.records ≡ Some m.statement.records
  pub billed_is : v.billed ≡ m.statement.total
  pub credit_is : v.credit ≡ Some m.credit.cents
  pub left_is : v.left ≡ left_cents m.statement.standing
  pub out_is : IsSpotOf books m (out_at m.statement.standing) v.ran_out
  pub first_is : IsSpotOf books m m.statement.first_missing v.first_missing
  pub last_is : IsSpotOf books m m.statement.last_missing v.last_missing

-- A line for each member is added, in their order.
abbrev pub MembersAdded : Books → List Member → List ℕ → List ℕ → Type 0
MembersAdded books members old new = (vs : List Values) × AllZip (OfMember books) members vs × (new ≡ old ++ flat_map line vs)

-- The values of the whole log.
pub record OfLog (books : Books) (v : Values) : Type 0 where
  pub kind_is : v.kind ≡ kind.Log
  pub no_name : v.name.now ≡ []
  pub records_are : v.records ≡ Some (length (vec_items books.entries))
  pub billed_is : v.billed ≡ books.whole.total
  pub no_credit : v.credit ≡ None
  pub no_left : v.left ≡ None
  pub no_out : v.ran_out ≡ None
  pub first_is : IsSpot books books.whole.first_missing v.first_missing
  pub last_is : IsSpot books books.whole.last_missing v.last_missing

-- The line of a member whose credit ran out.
abbrev pub stop_line : Member → List ℕ
stop_line m = short_line kind.Stop (string_bytes m.name) None

-- A line for each member whose credit ran out, in their order.
abbrev pub stop_lines : List Member → List ℕ
stop_lines members = flat_map stop_line (all_stopped members)

-- The line of a machine, with how many of its records have no rate.
abbrev pub rateless_line : Machine → List ℕ
rateless_line m = short_line kind.NoRate (string_bytes m.name) (Some m.rateless)

-- A line for each machine that has records without a rate, in their order.
abbrev pub rateless_lines : List Machine → List ℕ
rateless_lines machines = flat_map rateless_line (all_unrated machines)

-- The page: the heading, a line for each member, one for the whole log, one for each token to stop
-- and one for each machine without a rate.
pub record PageOf (heading : List ℕ) (books : Books) (text : List ℕ) : Type 0 where
  pub members : List Values
  pub log : Values
  pub members_are : AllZip (OfMember books) (vec_items books.members) members
  pub log_is : OfLog books log
  pub text_is : text ≡ heading ++ (flat_map line members ++ (line log ++ (stop_lines (vec_items books.members) ++ rateless_lines (vec_items books.machines))))
