use Rattle.std.proofs.Common.{length}
use Rattle.plumbing.proofs.Feeding.{Midway}
use Rattle.plumbing.proofs.fold.fold_cursor.Given as goal

abbrev pub invariant-feed : goal.invariant-feed
invariant-feed g l =
    let remaining = g.K.Cursor.remaining in
    Midway g.F.Folder l.initial.folder l.folder l.initial.board l.board (remaining l.initial.cursor) (remaining l.cursor)

abbrev pub decreases-feed : goal.decreases-feed
decreases-feed g l = length (g.K.Cursor.remaining l.cursor)
