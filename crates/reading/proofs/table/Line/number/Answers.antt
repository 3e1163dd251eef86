use Rattle.std.proofs.Common.{refl}
use Rattle.reading.proofs.table.Line.number.Goals as goal

pub returns-in_default : goal.returns-in_default
returns-in_default c =
    let none = rw (c.field-field.ensures, c.most.ensures.value) at c.in_default.ensures.cases in
    let shows = rw c.field-field.ensures at c.in_ok-found.ensures in
    (refl, none, (c.in_ok-found.found, refl, shows))
