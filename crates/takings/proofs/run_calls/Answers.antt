use Rattle.std.proofs.Common.{◌<◌, [], ◌∷◌, ◌++◌, length, sym, ap, ◌∙◌, append_assoc, append-nil}
use Rattle.std.proofs.lemmas.List.{take_more}
use Rattle.takings.specs.declared.Call.TheVariants.{Next}
use Rattle.takings.proofs.Living.{life_start, life_more}
use Rattle.takings.proofs.run_calls.Goals as goal

pub loop-call-init : goal.loop-call-init
loop-call-init g c = ([], sym (append-nil _), life_start _)

pub loop-call-preserved : goal.loop-call-preserved
loop-call-preserved g c =
    let k = c.loop-call.call-index in
    let calls = c.args.calls.now in
    let h : k < length calls = c.loop-call-test.true in
    let log = c.loop-call.invariant in
    let run = c.run_call-rest.ensures in
    let a = c.run_call-rest.result.1 in
    let pushed = c.in_ok-push.ensures.items ∙ ap (λ l. l ++ (a ∷ [])) log.1 ∙ append_assoc _ log.0 (a ∷ []) in
    let life = life_more _ _ log.0 _ _ _ a log.2 run.kind run.answered in
    (log.0 ++ (a ∷ []), pushed, rw (take_more calls k Next h) life)
