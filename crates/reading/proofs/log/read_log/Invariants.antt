use Rattle.std.proofs.Common.{◌≡◌, ◌-◌, length, map, vec_items, string_bytes}
use Rattle.csv_rows.specs.Reads.{cells}
use Rattle.reading.specs.Named.{Distinct}
use Rattle.reading.proofs.Sofar.{LogSofar}
use Rattle.reading.proofs.log.read_log.Given as goal

abbrev pub invariant-lines : goal.invariant-lines
invariant-lines g l =
    (l.table.text.now ≡ l.text)
    × LogSofar l.text (cells l.header) (map g.T.Named.name l.members) l.table (vec_items l.log.entries) (map string_bytes l.log.machines)
    × Distinct (map string_bytes l.log.machines)

abbrev pub decreases-lines : goal.decreases-lines
decreases-lines g l = length l.table.text.now - l.table.at
