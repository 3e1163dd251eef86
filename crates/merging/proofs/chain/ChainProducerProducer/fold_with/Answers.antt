use Rattle.std.proofs.Common.{sym, refl}
use Rattle.plumbing.proofs.Feeding.{midway_start, fed_full, fed_both}
use Rattle.merging.proofs.chain.ChainProducerProducer.fold_with.Goals as goal

pub returns-then-full : goal.returns-then-full
returns-then-full g c =
    let f = g.F.Folder in
    let laws = g.met.F.Folder in
    let t = c.fold_with-folder.result in
    fed_both f c.fold_with-folder.ensures
    (fed_full f (midway_start f _ _ _) (laws.sames t) (laws.stretches t _) (c.if-full.ensures.over refl) (sym c.if-full.ensures.exact))

pub returns : goal.returns
returns g c = fed_both g.F.Folder c.fold_with-folder.ensures c.fold_with.ensures
