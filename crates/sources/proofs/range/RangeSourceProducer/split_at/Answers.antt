use Rattle.std.proofs.Common.{arith}
use Rattle.sources.proofs.Counting.{length_between, between_cut}
use Rattle.sources.proofs.range.RangeSourceProducer.split_at.Goals as goal

pub overflow_add-mid : goal.overflow_add-mid
overflow_add-mid c = let s = c.args.self in omega (arith, length_between s.start s.end)

pub returns : goal.returns
returns c =
    let s = c.args.self in
    let cut = between_cut s.start c.args.index s.end c.min.result (omega arith) in
    record { left = λ _. cut.0; right = λ _. cut.1 }
