-- What stands in the cells and the lists of the page for people.
use Rattle.std.specs.Prelude.{◌≡◌, ℕ, cond, List, [], ◌∷◌, ◌++◌, map, length, Some, None, codes, decimal, string_bytes, vec_items, Option, String, ◌==◌}
use Rattle.std.specs.declared.alloc.Global.{Global}
use Rattle.std.specs.List.{join_by}
use Rattle.workshop.specs.Credit.{out_at}
use Rattle.workshop.specs.declared.credit.Standing.{Standing}
use Rattle.workshop.specs.declared.credit.Standing.TheVariants.{Left, RanOut, Unknown}
use Rattle.ledger.specs.Written.{counted, escaped, money, spotted}
use Rattle.ledger.specs.declared.books.Books.{Books}
use Rattle.ledger.specs.declared.books.Machine.{Machine}
use Rattle.ledger.specs.declared.books.Member.{Member}
use Rattle.ledger.specs.declared.shown.Spot.{Spot}
use Rattle.frontend.specs.Told.{all_stopped, all_unrated, IsSpot, IsSpotOf}

-- What is written of a value, or these words where there is none.
abbrev pub written_or : {T : Type 0} → (T → Option (List ℕ)) → Option T → List ℕ → Option (List ℕ)
written_or written (Some x) words = written x
written_or written None words = Some words

-- What is billed: an amount only where there is a total.
abbrev pub billed_text : Option ℕ → List ℕ
billed_text (Some cents) = money cents
billed_text None = codes "no total"

-- What is left of a credit: an amount only where all is paid for.
abbrev pub left_text : Standing → List ℕ
left_text (Left cents) = money cents
left_text (RanOut k) = codes "none"
left_text (Unknown k) = codes "not known"

-- The record, or a dash.
abbrev pub spot_text : Option Spot → List ℕ
spot_text (Some s) = spotted s
spot_text None = codes "-"

-- Why there is no total: the record without a rate, or that no amount holds the sum.
abbrev pub why_text : Option Spot → List ℕ
why_text (Some s) = spotted s
why_text None = codes "a sum above 18446744073709551615 cents"

-- The cells of a member's row.
pub record RowOf (books : Books) (m : Member) (cells : List (String Global)) : Type 0 where
  pub out : Option Spot
  pub first : Option Spot
  pub last : Option Spot
  pub out_is : IsSpotOf books m (out_at m.statement.standing) out
  pub first_is : IsSpotOf books m m.statement.first_missing first
  pub last_is : IsSpotOf books m m.statement.last_missing last
  pub cells_are : map string_bytes cells ≡ escaped (string_bytes m.name) ∷ decimal m.statement.records ∷ billed_text m.statement.total ∷ money m.credit.cents ∷ left_text m.statement.standing ∷ spot_text out ∷ spot_text first ∷ spot_text last ∷ []

-- What the whole log comes to: its total, or why there is none.
abbrev pub Outcome : Books → Option ℕ → List ℕ → Type 0
Outcome books (Some cents) text = text ≡ codes "total " ++ money cents
Outcome books None text = (first : Option Spot) × IsSpot books books.whole.first_missing first × (text ≡ codes "no total (" ++ (why_text first ++ codes ")"))

-- The line of the whole log: how many records and members there are, and what it comes to.
abbrev pub LogLine : Books → List ℕ → Type 0
LogLine books text = (outcome : List ℕ) × Outcome books books.whole.total outcome
    × (text ≡ codes "whole log: " ++ (counted (length (vec_items books.entries)) (codes "record") ++ (codes ", " ++ (counted (length (vec_items books.members)) (codes "member") ++ (codes ", " ++ (outcome ++ (10 ∷ [])))))))

-- The texts with a comma between them, or that there are none.
abbrev pub listed : List (String Global) → List ℕ
listed texts = cond (length texts == 0) (codes " none") (codes " " ++ join_by string_bytes (codes ", ") texts)

-- The names of the members whose credit ran out, in their order.
abbrev pub to_stop : List Member → List (List ℕ)
to_stop members = map (λ m. escaped (string_bytes m.name)) (all_stopped members)

-- A member without a total, with why there is none.
abbrev pub TellsWhy : Books → Member → String Global → Type 0
TellsWhy books m t = (first : Option Spot) × IsSpotOf books m m.statement.first_missing first
    × (string_bytes t ≡ escaped (string_bytes m.name) ++ (codes " (" ++ (why_text first ++ codes ")")))

-- A machine, with how many of its records have no rate.
abbrev pub rateless_text : Machine → List ℕ
rateless_text m = escaped (string_bytes m.name) ++ (codes " (" ++ (counted m.rateless (codes "record") ++ codes ")"))

-- The machines that have records without a rate, in their order, with how many these are.
abbrev pub rateless_texts : List Machine → List (List ℕ)
rateless_texts machines = map rateless_text (all_unrated machines)
