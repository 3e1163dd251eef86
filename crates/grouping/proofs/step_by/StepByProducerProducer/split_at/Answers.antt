use Rattle.std.proofs.Common.{ap, ◌∙◌}
use Rattle.grouping.specs.Runs.{firsts}
use Rattle.grouping.proofs.Cutting.{firsts_cut}
use Rattle.grouping.proofs.step_by.StepByProducerProducer.split_at.Goals as goal

pub returns : goal.returns
returns g c =
    let s = c.args.self in
    let xs = g.P.Listed.items s.base in
    let parts = c.cut_runs-left.ensures in
    let cut = firsts_cut s.step s.positive c.args.index xs in
    record {
      left = λ _. ap firsts (parts.left s.positive) ∙ cut.0;
      right = λ _. ap firsts (parts.right s.positive) ∙ cut.1;
    }
