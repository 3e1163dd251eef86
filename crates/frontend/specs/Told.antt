-- Whom and which records a page tells of.
use Rattle.std.specs.Prelude.{ℕ, Bool, List, map, is_some, is_none, vec_items, Option, nat_lt, MatchOption}
use Rattle.std.specs.List.{filter}
use Rattle.workshop.specs.Credit.{out_at}
use Rattle.ledger.specs.Accounts.{place_at}
use Rattle.ledger.specs.Billed.{NoSpot, SpotAt}
use Rattle.ledger.specs.declared.books.Books.{Books}
use Rattle.ledger.specs.declared.books.Machine.{Machine}
use Rattle.ledger.specs.declared.books.Member.{Member}
use Rattle.ledger.specs.declared.shown.Spot.{Spot}

-- The member's credit ran out.
abbrev pub ran_out : Member → Bool
ran_out m = is_some (out_at m.statement.standing)

-- Some records of the machine have no rate.
abbrev pub unrated : Machine → Bool
unrated m = nat_lt 0 m.rateless

-- The members whose credit ran out, in their order.
abbrev pub all_stopped : List Member → List Member
all_stopped members = filter ran_out members

-- The members that have no total, in their order.
abbrev pub all_totalless : List Member → List Member
all_totalless members = filter (λ m. is_none m.statement.total) members

-- The machines that have records without a rate, in their order.
abbrev pub all_unrated : List Machine → List Machine
all_unrated machines = filter unrated machines

-- The record at a place of the log, or none where there is none.
abbrev pub IsSpot : Books → Option ℕ → Option Spot → Type 0
IsSpot books place spot = MatchOption spot (NoSpot books place) (λ s. SpotAt books place s.number s.line s.machine.now)

-- The record at a place among a member's own, or none where there is none.
abbrev pub IsSpotOf : Books → Member → Option ℕ → Option Spot → Type 0
IsSpotOf books m own spot = IsSpot books (place_at (map (λ p. p.place) (vec_items m.account.postings)) own) spot
