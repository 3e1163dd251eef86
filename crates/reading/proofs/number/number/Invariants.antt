use Rattle.std.proofs.Common.{◌≡◌, ◌≤◌, take}
use Rattle.std.specs.List.{AllByRecursion}
use Rattle.reading.specs.Numbers.{Digit, decimal}
use Rattle.reading.proofs.number.number.Given as goal

abbrev pub invariant-bytes : goal.invariant-bytes
invariant-bytes l = (l.n ≡ decimal (take l.b-index l.field)) × (l.n ≤ l.most) × AllByRecursion Digit (take l.b-index l.field)
