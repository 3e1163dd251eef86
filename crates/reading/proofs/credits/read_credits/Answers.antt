use Rattle.std.proofs.Common.{sym, ap, ◌∙◌, rules}
use Rattle.reading.specs.declared.credits.Credit.{Credit}
use Rattle.reading.proofs.Sofar.{one_credit}
use Rattle.reading.proofs.credits.read_credits.Goals as goal

pub lines-preserved : goal.lines-preserved
lines-preserved c =
    let inv = c.lines.invariant in
    let step = rw c.in-Some.is at c.in_ok-line.ensures.cases in
    let name = c.in_ok-name.ensures in
    let added = c.in_ok-add.ensures in (
      c.in_ok-line.ensures.same ∙ inv.0,
      one_credit inv.1 step added.3 (record {
        number = ap (λ (x : Credit). x.line) added.2;
        member = record { place = c.in_ok-member.member; only = c.in_ok-member.ensures; holds = (sym name.0 ∙ sym added.1, name.1) };
        cents = record { place = c.in_ok-cents.cents; only = c.in_ok-cents.ensures; holds = search (rules, ap (λ (x : Credit). x.cents) added.2) };
      }),
      added.4,
    )
