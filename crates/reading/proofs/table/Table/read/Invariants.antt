use Rattle.std.proofs.Common.{◌≡◌, ℕ, ◌-◌, ◌≤◌, List, length}
use Rattle.reading.specs.Left.{Holds}
use Rattle.reading.proofs.table.Table.read.Given as goal

abbrev pub invariant-rows : goal.invariant-rows
invariant-rows l =
    (l.self.text.now ≡ l.initial.self.text.now) × (l.self.width ≡ l.initial.self.width) × (l.initial.self.at ≤ l.self.at)
    × ((ls : List (ℕ × List (List ℕ))) → Holds l.self ls → Holds l.initial.self ls)

abbrev pub decreases-rows : goal.decreases-rows
decreases-rows l = length l.self.text.now - l.self.at
