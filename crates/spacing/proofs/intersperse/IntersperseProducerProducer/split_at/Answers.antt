use Rattle.std.proofs.Common.{◌≡◌, ◌≤◌, length, ◌∙◌, subst, arith}
use Rattle.spacing.specs.Intersperse.{framed}
use Rattle.spacing.specs.Seams.{Seamed}
use Rattle.spacing.proofs.Interspersing.{framed_same, framed_cut}
use Rattle.spacing.proofs.intersperse.IntersperseProducerProducer.split_at.Goals as goal

pub returns : goal.returns
returns g c =
    let s = c.args.self in
    let k = c.args.index in
    let xs = g.P.Listed.items s.base in
    let r = c.find_seam-seam.result in
    let parts = c.split_at-left.ensures in
    let seamed : Seamed c.min-index.result (length xs) s.clone_first s.clone_last r = rw c.len-2.ensures at c.find_seam-seam.ensures in
    let cut = λ (within : k ≤ length (framed s.item s.clone_first xs s.clone_last)).
    let same : c.min-index.result ≡ k = omega (arith, c.len.ensures, c.min-index.ensures, within) in
    framed_cut s.item k s.clone_first s.clone_last xs r (subst (λ m. Seamed m (length xs) s.clone_first s.clone_last r) same seamed) in
    record {
      left = λ within. framed_same s.item r.left_first r.left_last (parts.left seamed.within) ∙ (cut within).0;
      right = λ within. framed_same s.item r.right_first r.right_last (parts.right seamed.within) ∙ (cut within).1;
    }
