-- The number that a field writes, digit by digit. Assumes nothing.
use Rattle.std.proofs.Common.{◌≡◌, ℕ, ◌+◌, ◌-◌, ◌*◌, ◌<◌, ◌≤◌, List, map, length, get_or, take, drop, None, sym, ap, ◌∙◌, arith}
use Rattle.std.specs.Int.Digits.{number_from_digits}
use Rattle.std.proofs.lemmas.Int.Digits.{number_more, number_after_append, number_after_ge}
use Rattle.std.proofs.ByRecursion.{All-get_or}
use Rattle.std.proofs.lemmas.List.{get_or-map, length-map, map-append, take-append-drop, take-map}
use Rattle.reading.specs.Numbers.{Digit, decimal}
use Rattle.reading.specs.Fields.{WrittenUpTo}

abbrev digit_of : ℕ → ℕ
digit_of b = b - 48

module _ (field : List ℕ) (i : ℕ) where
  pub decimal_more : i < length field → decimal (take (i + 1) field) ≡ decimal (take i field) * 10 + (get_or field i 0 - 48)
  decimal_more lt =
      let more = number_more 10 (map digit_of field) i (omega (arith, length-map field digit_of)) in
      let here = get_or-map digit_of field i 0 0 lt in
      ap (number_from_digits 10) (sym (take-map digit_of (i + 1) field)) ∙ more ∙ (λ k. number_from_digits 10 (take-map digit_of i field k) * 10 + here k)

  decimal_grows : decimal (take i field) ≤ decimal field
  decimal_grows =
      let parts = ap decimal (sym (take-append-drop i field)) ∙ ap (number_from_digits 10) (map-append digit_of (take i field) (drop i field)) ∙ number_after_append 10 0 (map digit_of (take i field)) (map digit_of (drop i field)) in
      omega (arith, parts, number_after_ge 10 (decimal (take i field)) (map digit_of (drop i field)) (omega arith))

-- why a field is refused at its byte i, where n is the number before it
module _ (field : List ℕ) (most i n : ℕ) (lt : i < length field) (sofar : n ≡ decimal (take i field)) where
  pub no_digit : (Digit (get_or field i 0) → ⊥) → WrittenUpTo field most None
  no_digit none m le w = none (All-get_or Digit field i 0 lt w.digits)

  pub too_large : most < n * 10 + (get_or field i 0 - 48) → WrittenUpTo field most None
  too_large gt m le w = omega (arith, decimal_more field i lt, decimal_grows field (i + 1), w.value)
