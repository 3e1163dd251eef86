use Rattle.std.proofs.Common.{take, vec_items}
use Rattle.takings.specs.Takings.{Logged}
use Rattle.takings.proofs.run_calls.Given as goal

abbrev pub invariant-loop-call : goal.invariant-loop-call
invariant-loop-call g l =
    let remaining = g.K.Cursor.remaining in
    Logged (vec_items l.initial.log) (vec_items l.log) (remaining l.initial.cursor) (take l.call-index l.calls) (remaining l.cursor)
