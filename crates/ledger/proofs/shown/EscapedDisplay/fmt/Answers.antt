use Rattle.std.proofs.Common.{◌≡◌, ◌++◌, length, is_ok, sym, ap}
use lib.Utf8.{encode}
use Rattle.std.proofs.Output.{has_written_of_eq, has_written_append}
use Rattle.ledger.specs.Written.{escaped}
use Rattle.ledger.proofs.Escapes.{encodes_more, encodes_all, escaped_more}
use Rattle.ledger.proofs.shown.EscapedDisplay.fmt.Goals as goal

pub loop-c-preserved : goal.loop-c-preserved
loop-c-preserved g c =
    let left = c.next.new.self.rest.now in
    let step : c.loop-c.c-iterator.rest.now ≡ encode c.in-Some.c ++ left = c.in-Some.ensures.steps.0 in (
      encodes_more c.loop-c.yielded c.in-Some.c _ left step c.loop-c.invariant.0,
      λ p.
          let before = c.loop-c.invariant.1 p in
          let more = c.write_escaped.ensures.prints before.plain (ap is_ok c.in_ok-write_escaped.was) in
          has_written_of_eq g.W.Write.write_str_gives _ _ _ _ (sym (escaped_more c.loop-c.yielded c.in-Some.c)) (has_written_append g.W.Write.write_str_gives _ _ _ _ _ before more),
    )

pub returns-clause-writes : goal.returns-clause-writes
returns-clause-writes g c =
    let none : length c.loop-c.c-iterator.rest.now ≡ 0 = c.in-None.ensures.steps.0.0 in
    λ p _. has_written_of_eq g.W.Write.write_str_gives _ _ _ _ (ap escaped (encodes_all c.loop-c.yielded _ none c.loop-c.invariant.0)) (c.loop-c.invariant.1 p)
