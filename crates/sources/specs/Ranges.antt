-- The numbers of a range.
use Rattle.std.specs.Prelude.{ℕ, ◌-◌, List}
use Rattle.std.specs.List.{range_with_len}

-- a, a + 1, .., b - 1, and nothing where a is not below b
abbrev pub between : ℕ → ℕ → List ℕ
between a b = range_with_len a (b - a)
