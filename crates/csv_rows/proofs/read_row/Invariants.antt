use Rattle.std.proofs.Common.{length, drop, map, vec_items}
use Rattle.csv_rows.proofs.Rows.{Sofar}
use Rattle.csv_rows.proofs.read_row.Given as goal

abbrev pub invariant-fields : goal.invariant-fields
invariant-fields l = Sofar (drop l.at l.text) (map vec_items (vec_items l.fields)) l.rest

abbrev pub decreases-fields : goal.decreases-fields
decreases-fields l = length l.rest
