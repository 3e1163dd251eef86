use Rattle.plumbing.specs.Cursors.{left_in}
use Rattle.spacing.proofs.Interspersing.{framed_back}
use Rattle.spacing.proofs.intersperse.IntersperseIterBackCursor.next_back.Goals as goal

pub returns-in-Some : goal.returns-in-Some
returns-in-Some g c =
    let s = c.args.self in
    let was = rw c.in-Some.is at c.next_back-base.ensures in
    let left = left_in g.K.Cursor.remaining c.next_back-base.result.0 in
    rw (was, c.if-clone_last.false, c.len-clone_last.ensures) (framed_back s.item s.clone_first left c.in-Some.last)
