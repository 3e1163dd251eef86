use Rattle.std.proofs.Common.{◌≡◌, ◌-◌, length}
use Rattle.csv_rows.specs.Reads.{cells}
use Rattle.reading.specs.Named.{Distinct}
use Rattle.reading.specs.Books.{members_of}
use Rattle.reading.proofs.Sofar.{CreditsSofar}
use Rattle.reading.proofs.credits.read_credits.Given as goal

abbrev pub invariant-lines : goal.invariant-lines
invariant-lines l = (l.table.text.now ≡ l.text) × CreditsSofar l.text (cells l.header) l.table l.payers × Distinct (members_of l.payers)

abbrev pub decreases-lines : goal.decreases-lines
decreases-lines l = length l.table.text.now - l.table.at
