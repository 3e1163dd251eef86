-- The columns of the two files. Assumes nothing.
use Rattle.std.specs.Prelude.{ℕ, ◌-◌, ◌^◌, Bool, true, false, List, codes}
use Rattle.reading.specs.declared.failure.Column.{Column}
use Rattle.reading.specs.declared.failure.Column.TheVariants.{Member, Machine, Start, Minutes, Rate, Cents}

-- the name that a column has in the header line
abbrev pub name_of : Column → List ℕ
name_of Member = codes "member"
name_of Machine = codes "machine"
name_of Start = codes "start"
name_of Minutes = codes "minutes"
name_of Rate = codes "rate"
name_of Cents = codes "cents"

-- the largest number that may stand in a column
abbrev pub most_of : Column → ℕ
most_of Member = 2 ^ 64 - 1
most_of Machine = 2 ^ 64 - 1
most_of Start = 2 ^ 64 - 1
most_of Minutes = 65535
most_of Rate = 65535
most_of Cents = 2 ^ 64 - 1

-- a number may be left out in a column
abbrev pub optional : Column → Bool
optional Member = false
optional Machine = false
optional Start = true
optional Minutes = false
optional Rate = true
optional Cents = false
