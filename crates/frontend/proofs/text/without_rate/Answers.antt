use Rattle.std.proofs.Common.{rules}
use Rattle.frontend.specs.Cells.{rateless_text}
use Rattle.frontend.specs.Told.{unrated}
use Rattle.frontend.proofs.Collects.{texts_from_try_collect, kept}
use Rattle.frontend.proofs.text.without_rate.Goals as goal

pub returns : goal.returns
returns c =
    record {
      made = texts_from_try_collect _ rateless_text _ c.try_collect.ensures.ran c.map.ensures.source
          (kept _ unrated c.args.books.now.machines.items (search rules) c.filter.ensures.source c.filter.ensures.closure (λ x r q k. search rules))
          c.map.ensures.closure (λ x r q k. search rules);
    }
