use Rattle.std.proofs.Common.{◌≡◌, ◌-◌, ◌≤◌, ◌++◌, length, min, take, drop, ap, ◌∙◌, arith, length-append}
use Rattle.merging.proofs.Chaining.{chain_cut}
use Rattle.merging.proofs.chain.ChainProducerProducer.split_at.Goals as goal

pub returns : goal.returns
returns g c =
    let s = c.args.self in
    let k = c.args.index in
    let a = c.min-cut.result in
    let b = c.min-rest.result in
    let xs = g.A.Listed.items s.a in
    let ys = g.B.Listed.items s.b in
    let p = c.split_at-a_left.ensures in
    let q = c.split_at-b_left.ensures in
    let a_is : a ≡ min k (length xs) = omega (arith, c.len.ensures, c.min-cut.ensures) in
    let a_in : a ≤ length xs = omega (arith, a_is) in
    let b_in : b ≤ length ys = omega (arith, c.len-2.ensures, c.min-rest.ensures) in
    let cut = λ (within : k ≤ length (xs ++ ys)). chain_cut k a b xs ys a_is (omega (arith, length-append xs ys, a_is, c.len-2.ensures, c.min-rest.ensures, within)) in
    record {
      left = λ within. ap (λ l. l ++ g.B.Listed.items c.split_at-b_left.result.0) (p.left a_in) ∙ ap (λ l. take a xs ++ l) (q.left b_in) ∙ (cut within).0;
      right = λ within. ap (λ l. l ++ g.B.Listed.items c.split_at-b_left.result.1) (p.right a_in) ∙ ap (λ l. drop a xs ++ l) (q.right b_in) ∙ (cut within).1;
    }
