-- The numbers from a up to b: the first, the last, a cut. Assumes nothing.
use Rattle.std.proofs.Common.{◌≡◌, ℕ, zero, suc, ◌+◌, ◌-◌, ◌<◌, ◌≤◌, min, [], ◌∷◌, ◌++◌, length, take, drop, ap, ◌∙◌, add-zero, zero-add, arith}
use Rattle.std.specs.List.{range_with_len}
use Rattle.std.proofs.lemmas.List.FromFn.{length-range_with_len}
use Rattle.plumbing.proofs.Cuts.{halves}
use Rattle.sources.specs.Ranges.{between}

counting_append : (a m n : ℕ) → range_with_len a (m + n) ≡ range_with_len a m ++ range_with_len (a + m) n
counting_append a zero n = rw (zero-add, add-zero)
counting_append a (suc m) n =
    let e : suc m + n ≡ suc (m + n) = omega arith in
    let k : (a + 1) + m ≡ a + suc m = omega arith in
    ap (range_with_len a) e ∙ ap (λ l. a ∷ l) (counting_append (a + 1) m n ∙ ap (λ j. range_with_len (a + 1) m ++ range_with_len j n) k)

pub length_between : (a b : ℕ) → length (between a b) ≡ b - a
length_between a b = length-range_with_len a (b - a)

pub between_parts : (a k b : ℕ) → k ≤ b - a → between a b ≡ between a (a + k) ++ between (a + k) b
between_parts a k b h =
    let e : b - a ≡ k + (b - (a + k)) = omega arith in
    let f : k ≡ (a + k) - a = omega arith in
    ap (range_with_len a) e ∙ counting_append a k (b - (a + k)) ∙ ap (λ n. range_with_len a n ++ between (a + k) b) f

pub between_last : (a b : ℕ) → a < b → between a b ≡ between a (b - 1) ++ ((b - 1) ∷ [])
between_last a b h =
    let e : a + ((b - 1) - a) ≡ b - 1 = omega arith in
    let one : b - (b - 1) ≡ 1 = omega arith in
    between_parts a ((b - 1) - a) b (omega arith) ∙ ap (λ m. between a m ++ between m b) e ∙ ap (λ n. between a (b - 1) ++ range_with_len (b - 1) n) one

-- a cut at k, or past the end
pub between_cut : (a k b m : ℕ) → m ≡ min k (length (between a b)) → (between a (a + m) ≡ take k (between a b)) × (between (a + m) b ≡ drop k (between a b))
between_cut a k b m e =
    let n = length_between a b in
    halves k (between a b) (between a (a + m)) (between (a + m) b) (between_parts a m b (omega (arith, n))) (length_between a (a + m) ∙ omega arith)
