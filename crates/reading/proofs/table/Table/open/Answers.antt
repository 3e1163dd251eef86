use Rattle.std.proofs.Common.{rules}
use Rattle.reading.proofs.Walks.{stands_below}
use Rattle.reading.proofs.table.Table.open.Goals as goal

pub invariant_of-result : goal.invariant_of-result
invariant_of-result c =
    let found = rw c.in-Some.is at c.in_ok-header.ensures in
    record {
      short = search rules;
      within = found.within;
      stands = stands_below c.args.text.now _ c.after_mark.ensures.cases found (search rules) c.saturating_add-line.ensures;
    }
