use Rattle.std.proofs.Common.{map, sym, ap, ◌∙◌}
use Rattle.std.proofs.lemmas.List.{take-map, drop-map}
use Rattle.grouping.specs.Runs.{chunked}
use Rattle.grouping.proofs.chunks.ChunkProducerProducer.split_at.Goals as goal

pub returns : goal.returns
returns g c =
    let s = c.args.self in
    let v = g.M.ChunkMap.value s.map in
    let runs = chunked s.chunk_size (g.P.Listed.items s.base) in
    let parts = c.cut_runs-left.ensures in
    record {
      left = λ _. ap (map v) (parts.left s.positive) ∙ sym (take-map v c.args.index runs);
      right = λ _. ap (map v) (parts.right s.positive) ∙ sym (drop-map v c.args.index runs);
    }
