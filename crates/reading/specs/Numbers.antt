-- Numbers as they are written in decimal. Assumes nothing.
use Rattle.std.specs.Prelude.{◌≡◌, ℕ, ◌-◌, ◌<◌, ◌≤◌, List, map, length}
use Rattle.std.specs.Int.Digits.{number_from_digits}
use Rattle.std.specs.List.{AllByRecursion}

-- b is one of the bytes 0 to 9
abbrev pub Digit : ℕ → Type 0
Digit b = (48 ≤ b) × (b ≤ 57)

-- the number that ASCII digits write in decimal
abbrev pub decimal : List ℕ → ℕ
decimal bs = number_from_digits 10 (map (λ b. b - 48) bs)

-- field is digits, at least one, and they write n
pub record Writes (field : List ℕ) (n : ℕ) : Type 0 where
  pub some : 0 < length field
  pub digits : AllByRecursion Digit field
  pub value : n ≡ decimal field
