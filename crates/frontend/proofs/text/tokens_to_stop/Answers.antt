use Rattle.std.proofs.Common.{string_bytes, rules}
use Rattle.ledger.specs.Written.{escaped}
use Rattle.ledger.specs.declared.books.Member.{Member}
use Rattle.frontend.specs.Told.{ran_out}
use Rattle.frontend.proofs.Collects.{texts_from_try_collect, kept}
use Rattle.frontend.proofs.text.tokens_to_stop.Goals as goal

pub returns : goal.returns
returns c =
    record {
      made = texts_from_try_collect _ (λ (m : Member). escaped (string_bytes m.name)) _ c.try_collect.ensures.ran c.map.ensures.source
          (kept _ ran_out c.args.books.now.members.items (search rules) c.filter.ensures.source c.filter.ensures.closure (λ x r q k. search rules))
          c.map.ensures.closure (λ x r q k. search rules);
    }
