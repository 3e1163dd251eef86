use Rattle.std.proofs.Common.{is_none, rules}
use Rattle.ledger.specs.declared.books.Member.{Member}
use Rattle.frontend.specs.Cells.{TellsWhy}
use Rattle.frontend.proofs.Collects.{each_from_try_collect, kept}
use Rattle.frontend.proofs.text.without_total.Goals as goal

pub returns : goal.returns
returns c =
    record {
      made = each_from_try_collect _ (TellsWhy c.args.books.now) _ c.try_collect.ensures.ran c.map.ensures.source
          (kept _ (λ (m : Member). is_none m.statement.total) c.args.books.now.members.items (search rules) c.filter.ensures.source c.filter.ensures.closure (λ x r q k. search rules))
          c.map.ensures.closure (λ x r q k. search rules);
    }
