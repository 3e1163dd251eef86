-- What stands before and after a field. Assumes nothing.
use Rattle.std.proofs.Common.{◌≡◌, ℕ, List, [], ◌∷◌, inl, inr, arith}
use Rattle.csv_rows.specs.Grammar.{Special}
use Rattle.csv_rows.specs.Parts.{Stops}

-- the first byte, where there is one
abbrev pub Front : (ℕ → Type 0) → List ℕ → Type 0
Front P [] = Unit {0}
Front P (b ∷ s) = P b

abbrev pub NoQuote : ℕ → Type 0
NoQuote b = b ≡ 34 → ⊥

pub stops_mark : (s : List ℕ) → Stops s → Front Special s
stops_mark [] h = tt
stops_mark (b ∷ s) (inl e) = inl e
stops_mark (b ∷ s) (inr (inl e)) = inr (inr (inr e))
stops_mark (b ∷ s) (inr (inr p)) = inr (inr (inl p.0))

pub stops_no_quote : (s : List ℕ) → Stops s → Front NoQuote s
stops_no_quote [] h = tt
stops_no_quote (b ∷ s) h = λ q. grind (arith, h)
