-- A producer that is cut in two.
use Rattle.std.specs.Prelude.{◌≡◌, ℕ, length, take, drop, Result}
use Rattle.plumbing.specs.declared.producer.Listed.{Ghosts as Listing}
use Rattle.plumbing.specs.declared.refusal.Refusal.{Refusal}
use Rattle.plumbing.specs.Makers.{Outcome}
use Rattle.plumbing.specs.Refusals.{past_end}

-- the left part has the first k items, and the right part the rest
pub record Halves {P I : Type 0} (of : Listing P I) (whole : P) (k : ℕ) (parts : P × P) : Type 0 where
  pub left : of.items parts.0 ≡ take k (of.items whole)
  pub right : of.items parts.1 ≡ drop k (of.items whole)

-- a cut at k is refused past the end, and otherwise gives the two halves
abbrev pub Splits : {P I : Type 0} → Listing P I → P → ℕ → Result (P × P) Refusal → Type 0
Splits of whole k r = Outcome (past_end k (length (of.items whole))) (Halves of whole k) r
