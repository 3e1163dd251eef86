use Rattle.std.proofs.Common.{vec_items, string_bytes, subst, ◌∙◌, rules}
use Rattle.std.proofs.lemmas.List.{length-map}
use Rattle.reading.specs.Books.{Used}
use Rattle.csv_rows.specs.Reads.{cells}
use Rattle.reading.proofs.Sofar.{one_entry}
use Rattle.reading.proofs.log.read_log.Goals as goal

pub lines-preserved : goal.lines-preserved
lines-preserved g c =
    let inv = c.lines.invariant in
    let step = rw c.in-Some.is at c.in_ok-line.ensures.cases in
    let read = c.in_ok-entry.ensures (cells c.in_ok-header.header) c.in_ok-at.ensures in (
      c.in_ok-line.ensures.same ∙ inv.0,
      one_entry inv.1 step read c.in_ok-push.ensures.items,
      read.distinct,
    )

pub returns : goal.returns
returns g c =
    let log = c.lines.log in
    let sofar = c.lines.invariant.1 in
    record {
      header = cells c.in_ok-header.header;
      lines = sofar.seen;
      table = search rules;
      entries = sofar.said;
      machines = c.lines.invariant.2;
      used = subst (λ n. Used n (vec_items log.entries)) (length-map log.machines string_bytes) sofar.used;
    }
