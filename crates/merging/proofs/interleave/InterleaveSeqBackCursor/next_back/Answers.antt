use Rattle.merging.proofs.Interleaving.{interleaved_back_first, interleaved_back_second}
use Rattle.merging.proofs.interleave.InterleaveSeqBackCursor.next_back.Goals as goal

pub returns-then-ends_in_i : goal.returns-then-ends_in_i
returns-then-ends_in_i g c =
    let ends = rw (c.len.ensures, c.len-2.ensures) at (c.ends_in_i.ensures.first c.if-ends_in_i.true) in
    interleaved_back_first c.args.self.i_next _ _ _ _ ends c.next_back-i.ensures

pub returns-else-ends_in_i : goal.returns-else-ends_in_i
returns-else-ends_in_i g c =
    let ends = rw (c.len.ensures, c.len-2.ensures) at (c.ends_in_i.ensures.second c.if-ends_in_i.false) in
    interleaved_back_second c.args.self.i_next _ _ _ _ ends c.next_back-j.ensures
