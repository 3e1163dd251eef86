use Rattle.std.proofs.Common.{refl, rules}
use Rattle.reading.proofs.credits.add.Goals as goal

pub returns-in_default : goal.returns-in_default
returns-in_default c =
    let added = rw c.in_default.is at c.in_ok-place.ensures.added in
    (_, search rules, refl, added.1, search rules)
