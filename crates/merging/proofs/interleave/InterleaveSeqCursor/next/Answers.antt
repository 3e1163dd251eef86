use Rattle.merging.proofs.Interleaving.{alternated_front}
use Rattle.merging.proofs.interleave.InterleaveSeqCursor.next.Goals as goal

pub returns-then-i_next : goal.returns-then-i_next
returns-then-i_next g c = rw c.if-i_next.true (alternated_front _ _ _ _ _ c.next_of-j.ensures)

pub returns-else-i_next : goal.returns-else-i_next
returns-else-i_next g c = rw c.if-i_next.false (alternated_front _ _ _ _ _ c.next_of-i.ensures)
