-- What the inner functions answer. Assumes nothing.
use Rattle.std.specs.Prelude.{◌≡◌, ℕ, ◌⊎◌, List, [], ◌∷◌, ◌++◌, Some, None, Ok, Err, vec_items, Option, Result, Bool, not, ◌==◌, ◌||◌}
use Rattle.std.specs.declared.alloc.AllocError.{AllocError}
use Rattle.csv_rows.specs.declared.Fault.{Fault}
use Rattle.csv_rows.specs.declared.Fault.TheVariants.{OpenQuote}
use Rattle.csv_rows.specs.declared.Follow.{Follow}
use Rattle.csv_rows.specs.declared.Follow.TheVariants.{Comma, End}
use Rattle.csv_rows.specs.declared.Piece.{Piece}
use Rattle.csv_rows.specs.Grammar.{Field, Ends}
use Rattle.csv_rows.specs.Reads.{Offence}

-- the test of a plain byte
abbrev pub is_plain : ℕ → Bool
is_plain b = not ((b == 44) || (b == 34) || (b == 13) || (b == 10))

-- s is what may stand after a field: nothing, or a comma, a line feed, or a carriage return and a line feed
abbrev pub Stops : List ℕ → Type 0
Stops [] = Unit {0}
Stops (b ∷ s) = (b ≡ 44) ⊎ ((b ≡ 10) ⊎ ((b ≡ 13) × ((more : List ℕ) × (s ≡ 10 ∷ more))))

-- the bytes s have the field f at their front, and then rest; no other field there leaves what may stand after it
pub record First (f s rest : List ℕ) : Type 0 where
  pub text : List ℕ
  pub written : Field f text
  pub cut : s ≡ text ++ rest
  pub only : (g u more : List ℕ) → Field g u → s ≡ u ++ more → Stops more → (g ≡ f) × (more ≡ rest)

-- no field with what may stand after it is at the front of s
abbrev pub NoField : List ℕ → Type 0
NoField s = (g u more : List ℕ) → Field g u → s ≡ u ++ more → Stops more → ⊥

-- what is answered for the field at the front of s
abbrev pub FieldOf : List ℕ → Result (Option Piece) AllocError → Type 0
FieldOf s (Ok (Some piece)) = First (vec_items piece.bytes) s piece.after.now
FieldOf s (Ok None) = Offence OpenQuote s × NoField s
FieldOf s (Err e) = Unit {0}

-- what is answered for the bytes s after a field
abbrev pub Followed : List ℕ → Result Follow Fault → Type 0
Followed s (Ok (Comma more)) = s ≡ 44 ∷ more.now
Followed s (Ok (End more)) = (e : List ℕ) × Ends e more.now × (s ≡ e ++ more.now)
Followed s (Err fault) = Offence fault s × (Stops s → ⊥)
