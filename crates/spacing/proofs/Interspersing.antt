-- Laws of a list with separators: its length, its ends, a cut. Assumes nothing.
use Rattle.std.proofs.Common.{◌≡◌, ℕ, ◌+◌, ◌-◌, ◌≤◌, min, Bool, true, false, cond, not, nat_eq, List, [], ◌∷◌, ◌++◌, length, take, drop, sym, refl, ap, ◌∙◌, inl, inr, append_assoc, append-nil, arith, length-append, take-append-drop}
use Rattle.plumbing.proofs.Cuts.{halves}
use Rattle.std.proofs.lemmas.Bool.{ne_eqb}
use Rattle.std.proofs.lemmas.List.{length-take-le, length-drop, take_all, drop_all}
use Rattle.spacing.specs.declared.intersperse.Seam.{Seam}
use Rattle.spacing.specs.Intersperse.{led, interspersed, edge, framed, width}
use Rattle.spacing.specs.Seams.{Goes, Falls, Seamed}

module _ {I : Type 0} (s : I) where
  pub led_append : (xs ys : List I) → led s (xs ++ ys) ≡ led s xs ++ led s ys
  led_append [] ys = refl
  led_append (x ∷ xs) ys = ap (λ (l : List I). s ∷ (x ∷ l)) (led_append xs ys)

  length_led : (xs : List I) → length (led s xs) ≡ length xs + length xs
  length_led [] = omega arith
  length_led (x ∷ xs) = omega (arith, length_led xs)

  pub length_interspersed : (xs : List I) → length (interspersed s xs) ≡ length xs + (length xs - 1)
  length_interspersed [] = omega arith
  length_interspersed (x ∷ xs) = omega (arith, length_led xs)

  length_edge : (b : Bool) → length (edge s b) ≡ cond b 1 0
  length_edge true = refl
  length_edge false = refl

  pub length_framed : (f : Bool) (xs : List I) (l : Bool) → length (framed s f xs l) ≡ width f (length xs) l
  length_framed f xs l = length-append (edge s f) (interspersed s xs ++ edge s l) ∙ omega (arith, length-append (interspersed s xs) (edge s l), length_edge f, length_edge l, length_interspersed xs)

  -- with no separator at either end
  pub framed_bare : (xs : List I) → framed s false xs false ≡ interspersed s xs
  framed_bare xs = append-nil (interspersed s xs)

  pub framed_same : (f : Bool) {xs ys : List I} (l : Bool) → xs ≡ ys → framed s f xs l ≡ framed s f ys l
  framed_same f l e = ap (λ (k : List I). framed s f k l) e

  -- the separator between two items
  interspersed_two : (xs ys : List I) → 1 ≤ length xs → 1 ≤ length ys → interspersed s (xs ++ ys) ≡ interspersed s xs ++ (s ∷ interspersed s ys)
  interspersed_two [] ys h k = absurd (omega arith)
  interspersed_two (x ∷ xs) [] h k = absurd (omega arith)
  interspersed_two (x ∷ xs) (y ∷ ys) h k = ap (λ (l : List I). x ∷ l) (led_append xs (y ∷ ys))

  framed_inner : (f l b : Bool) (xs ys : List I) → 1 ≤ length xs → 1 ≤ length ys → framed s f (xs ++ ys) l ≡ framed s f xs b ++ framed s (not b) ys l
  framed_inner f l true xs ys h k = ap (λ (m : List I). edge s f ++ (m ++ edge s l)) (interspersed_two xs ys h k) ∙ simp append_assoc
  framed_inner f l false xs ys h k = ap (λ (m : List I). edge s f ++ (m ++ edge s l)) (interspersed_two xs ys h k) ∙ simp (append_assoc, append-nil)

  framed_end : (f l b d : Bool) (xs : List I) → Goes l b d → framed s f xs l ≡ framed s f xs b ++ framed s false [] d
  framed_end f l b d xs (inl e) = rw (e.0, e.1) (simp append-nil)
  framed_end f l b d xs (inr e) = rw (e.0, e.1) (simp (append_assoc, append-nil))

  framed_start : (f l a c : Bool) (ys : List I) → Goes f a c → framed s f ys l ≡ framed s a [] false ++ framed s c ys l
  framed_start f l a c ys (inl e) = rw (e.0, e.1) (simp append-nil)
  framed_start f l a c ys (inr e) = rw (e.0, e.1)

  -- the two parts of a cut make the whole
  framed_seam : (f l : Bool) (xs : List I) (c : Seam) → c.base ≤ length xs → Falls (length xs) f l c → framed s f xs l ≡ framed s c.left_first (take c.base xs) c.left_last ++ framed s c.right_first (drop c.base xs) c.right_last
  framed_seam f l xs c h (inl e) =
      let m = c.base in
      let whole : framed s f xs l ≡ framed s f (take m xs ++ drop m xs) l = framed_same f l (sym (take-append-drop m xs)) in
      let left : 1 ≤ length (take m xs) = omega (arith, length-take-le m xs h, e.0) in
      let right : 1 ≤ length (drop m xs) = omega (arith, length-drop m xs, e.1) in
      whole ∙ framed_inner f l c.left_last (take m xs) (drop m xs) left right ∙ rw (e.2, e.3, e.4)
  framed_seam f l xs c h (inr (inl e)) =
      let all : take c.base xs ≡ xs = take_all c.base xs (omega (arith, e.0)) in
      let none : drop c.base xs ≡ [] = drop_all c.base xs (omega (arith, e.0)) in
      framed_end f l c.left_last c.right_last xs e.3 ∙ rw (e.1, e.2, all, none)
  framed_seam f l xs c h (inr (inr e)) =
      framed_start f l c.left_first c.right_first xs e.3 ∙ rw (e.0, e.1, e.2)

  pub framed_cut : (k : ℕ) (f l : Bool) (xs : List I) (c : Seam) → Seamed k (length xs) f l c → (framed s c.left_first (take c.base xs) c.left_last ≡ take k (framed s f xs l)) × (framed s c.right_first (drop c.base xs) c.right_last ≡ drop k (framed s f xs l))
  framed_cut k f l xs c t =
      let m = c.base in
      let n : length (framed s c.left_first (take m xs) c.left_last) ≡ min k (length (framed s f xs l)) = length_framed c.left_first (take m xs) c.left_last ∙ ap (λ (i : ℕ). width c.left_first i c.left_last) (length-take-le m xs t.within) ∙ t.count ∙ ap (min k) (sym (length_framed f xs l)) in
      halves k _ _ _ (framed_seam f l xs c t.within t.falls) n

  -- before the last item, a separator is due if any are left
  pub framed_back : (f : Bool) (left : List I) (x : I) → framed s f (left ++ (x ∷ [])) false ≡ framed s f left (not (nat_eq (length left) 0)) ++ (x ∷ [])
  framed_back f [] x = simp append_assoc
  framed_back f (y ∷ ys) x =
      let some : nat_eq (length (y ∷ ys)) 0 ≡ false = ne_eqb (length (y ∷ ys)) 0 (λ e. omega arith) in
      rw some (framed_inner f false true (y ∷ ys) (x ∷ []) (omega arith) (omega arith))
