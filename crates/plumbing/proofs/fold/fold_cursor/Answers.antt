use Rattle.std.proofs.Common.{refl, sym}
use Rattle.plumbing.proofs.Feeding.{midway_start, midway_more, fed_full}
use Rattle.plumbing.proofs.fold.fold_cursor.Goals as goal

pub feed-init : goal.feed-init
feed-init g c = midway_start g.F.Folder _ _ _

pub feed-preserved : goal.feed-preserved
feed-preserved g c =
    let fed = c.consume-folder.ensures in
    midway_more g.F.Folder c.feed.invariant (rw c.in-Some.is at c.next-rest.ensures) (sym c.feed-test.ensures.exact) fed.exact fed.count fed.room fed.opens fed.keeps fed.fed fed.covers fed.same

pub returns : goal.returns
returns g c =
    let laws = g.met.F.Folder in
    let t = c.feed.folder in
    fed_full g.F.Folder c.feed.invariant (laws.sames t) (laws.stretches t _) (c.feed-test.ensures.over refl) (sym c.feed-test.ensures.exact)
