use Rattle.std.proofs.Common.{◌≡◌, IfOk, string_bytes, IsUtf8, subst}
use Rattle.reading.proofs.Rows.{take_min}
use Rattle.reading.proofs.table.shown.Goals as goal

pub returns : goal.returns
returns c =
    subst
    (λ bs. IfOk c.from_utf8_lossy.result (λ s. IsUtf8 bs → string_bytes s ≡ bs))
    (take_min c.args.field.now 60 c.min-end.result c.min-end.ensures)
    c.from_utf8_lossy.ensures.ok
