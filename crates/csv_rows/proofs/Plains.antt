-- A field that is not quoted. Assumes nothing.
use Rattle.std.proofs.Common.{◌≡◌, ℕ, ◌<◌, List, [], ◌∷◌, ◌++◌, length, get_or, take, drop, sym, refl, ap, ◌∙◌, subst, inl, inr, arith, Bool, cond, suc, true, false, take-append-drop, one-add}
use Rattle.std.specs.List.{prefix_len}
use Rattle.std.proofs.lemmas.Bool.Decides.{nat_tests}
use Rattle.csv_rows.specs.Grammar.{Special, Plain, Field}
use Rattle.csv_rows.specs.Parts.{First, Stops, is_plain}
use Rattle.csv_rows.proofs.Cuts.{Front, NoQuote, stops_mark}

-- plain bytes up to another are cut in one way
plain_cut : (f g s t : List ℕ) → Plain f → Plain g → Front Special s → Front Special t → f ++ s ≡ g ++ t → (g ≡ f) × (t ≡ s)
plain_cut [] [] s t p q m n e = (refl, sym e)
plain_cut [] (d ∷ g) [] t p q m n e = cc
plain_cut [] (d ∷ g) (b ∷ s) t p q m n e = absurd (q.0 (subst Special (cc) m))
plain_cut (b ∷ f) [] s [] p q m n e = cc
plain_cut (b ∷ f) [] s (d ∷ t) p q m n e = absurd (p.0 (subst Special (cc) n))
plain_cut (b ∷ f) (d ∷ g) s t p q m n e =
    let rest = plain_cut f g s t p.1 q.1 m n cc in
    (cc, rest.1)

plain_first : (f s rest : List ℕ) → Plain f → s ≡ f ++ rest → Front Special rest → Front NoQuote s → First f s rest
plain_first f s rest p e m o = record { text = f; written = inl (p, refl); cut = e; only = only }
  where
    only : (g u more : List ℕ) → Field g u → s ≡ u ++ more → Stops more → (g ≡ f) × (more ≡ rest)
    only g u more (inl q) d h = plain_cut f g rest more p q.0 m (stops_mark more h) (sym e ∙ d ∙ ap (λ x. x ++ more) q.1)
    only g u more (inr q) d h = absurd (subst (Front NoQuote) (d ∙ ap (λ x. x ++ more) q) o refl)

passes : (b : ℕ) → is_plain b ≡ true → Special b → ⊥
passes b t h = grind (arith, nat_tests)

fails : (b : ℕ) → is_plain b ≡ false → Special b
fails b t = grind (arith, nat_tests)

-- the bytes that pass at the front are plain, and the next is not
front_more : (b : ℕ) (s : List ℕ) (n : ℕ) (t : Bool) → is_plain b ≡ t → Plain (take n s) × Front Special (drop n s) → Plain (take (cond t (suc n) 0) (b ∷ s)) × Front Special (drop (cond t (suc n) 0) (b ∷ s))
front_more b s n true e rest = ((passes b e, rest.0), rest.1)
front_more b s n false e rest = (tt, fails b e)

front_split : (s : List ℕ) → Plain (take (prefix_len is_plain s) s) × Front Special (drop (prefix_len is_plain s) s)
front_split [] = (tt, tt)
front_split (b ∷ s) = rw (one-add (prefix_len is_plain s)) (front_more b s _ (is_plain b) refl (front_split s))

bare : (s : List ℕ) → (0 < length s → get_or s 0 0 ≡ 34 → ⊥) → Front NoQuote s
bare [] h = tt
bare (b ∷ s) h = h (omega arith)

pub plain_front : (f s : List ℕ) → f ≡ take (prefix_len is_plain s) s → (0 < length s → get_or s 0 0 ≡ 34 → ⊥) → First f s (drop (prefix_len is_plain s) s)
plain_front f s e h =
    let n : ℕ = prefix_len is_plain s in
    let split = front_split s in
    rw e (plain_first (take n s) s (drop n s) split.0 (sym (take-append-drop n s)) split.1 (bare s h))
