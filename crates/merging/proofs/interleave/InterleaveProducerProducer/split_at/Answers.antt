use Rattle.std.proofs.Common.{◌≡◌, ◌+◌, ◌≤◌, length, ◌∙◌, subst, arith}
use Rattle.merging.specs.Shares.{Dealt}
use Rattle.merging.proofs.Interleaving.{interleaved_same, interleaved_cut, length_interleaved}
use Rattle.merging.proofs.interleave.InterleaveProducerProducer.split_at.Goals as goal

pub returns : goal.returns
returns g c =
    let s = c.args.self in
    let k = c.args.index in
    let xs = g.I.Listed.items s.i in
    let ys = g.J.Listed.items s.j in
    let r = c.deal-split.result in
    let n = length_interleaved s.i_next xs ys in
    let dealt : Dealt c.min.result (length xs) (length ys) s.i_next r = rw (c.len-i_len.ensures, c.len-j_len.ensures) at c.deal-split.ensures in
    let least : c.min.result ≤ length xs + length ys = omega (arith, c.len-i_len.ensures, c.len-j_len.ensures, c.min.ensures) in
    let i = c.split_at-i_left.ensures in
    let j = c.split_at-j_left.ensures in
    let all = λ (within : k ≤ length xs + length ys).
    let same : c.min.result ≡ k = omega (arith, c.len-i_len.ensures, c.len-j_len.ensures, c.min.ensures, within) in
    interleaved_cut k s.i_next xs ys r (subst (λ m. Dealt m (length xs) (length ys) s.i_next r) same dealt) in
    record {
      left = λ within. interleaved_same s.i_next (i.left (dealt.within least).0) (j.left (dealt.within least).1) ∙ (all (omega (arith, n, within))).0;
      right = λ within. interleaved_same r.i_next (i.right (dealt.within least).0) (j.right (dealt.within least).1) ∙ (all (omega (arith, n, within))).1;
    }
