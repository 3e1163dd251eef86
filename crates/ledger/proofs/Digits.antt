-- Two digits, the first of them maybe a 0. Assumes nothing.
use Rattle.std.proofs.Common.{◌≡◌, ℕ, ◌/◌, ◌%◌, ◌^◌, ◌-◌, ◌<◌, [], ◌++◌, false, ⊎_elim, arith}
use Rattle.std.specs.Fmt.{padded_integral, format_spec, decimal, char_count}
use Rattle.std.proofs.lemmas.Fmt.{decimal_digit, decimal_step}
use Rattle.std.proofs.lemmas.Bool.{cases_lt}

pub two_digits : (c : ℕ) → padded_integral (format_spec 32 0 4 2 (2 ^ 64 - 1)) false [] (decimal (c % 100)) ≡ decimal (c % 100 / 10) ++ decimal (c % 10)
unfolding padded_integral char_count
two_digits c =
    let ones : c % 100 % 10 ≡ c % 10 = omega arith in
    let low : c % 10 < 10 = omega arith in
    ⊎_elim
    (λ one. let high : c % 100 / 10 ≡ 0 = omega arith in let same : c % 100 ≡ c % 10 = omega arith in rw (high, same, decimal_digit (c % 10) low, decimal_digit 0 (omega arith)))
    (λ two. let small : c % 100 < 2 ^ 64 = omega arith in let tens : c % 100 / 10 < 10 = omega arith in rw (decimal_step (c % 100) two small, decimal_digit (c % 100 / 10) tens, decimal_digit (c % 10) low, ones))
    (cases_lt (c % 100) 10)
