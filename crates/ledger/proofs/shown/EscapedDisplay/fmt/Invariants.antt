use Rattle.std.proofs.Common.{◌≡◌, ◌++◌}
use lib.Utf8.{encodes}
use Rattle.std.specs.Fmt.{IsPlainFormatter, HasWritten}
use Rattle.ledger.specs.Written.{escaped}
use Rattle.ledger.proofs.shown.EscapedDisplay.fmt.Given as goal

abbrev pub invariant-loop-c : goal.invariant-loop-c
invariant-loop-c g l =
    (encodes l.yielded ++ l.c-iterator.rest.now ≡ l.self.0.now)
    × (IsPlainFormatter l.initial.f → HasWritten g.W.Write.write_str_gives l.initial.f (escaped (encodes l.yielded)) l.f)
