-- A quoted field. Assumes nothing.
use Rattle.std.proofs.Common.{Bool, true, false, ◌==◌, ◌≡◌, ℕ, ◌-◌, ◌<◌, cond, List, [], ◌∷◌, ◌++◌, length, get_or, take, drop, sym, refl, ap, ◌∙◌, subst, inl, inr, ⊎_elim, append_assoc, append-nil, arith}
use Rattle.std.proofs.lemmas.List.{take_all}
use Rattle.std.proofs.lemmas.Bool.{cases_eq, ne_eqb}
use Rattle.csv_rows.specs.declared.Fault.TheVariants.{OpenQuote}
use Rattle.csv_rows.specs.Grammar.{Plain, doubled, quoted, Field}
use Rattle.csv_rows.specs.Parts.{Stops, First, NoField}
use Rattle.csv_rows.specs.Reads.{Offence}
use Rattle.csv_rows.proofs.Cuts.{Front, NoQuote, stops_no_quote}

-- x is empty, or begins with a quote that is not doubled
abbrev Lone : List ℕ → Type 0
Lone [] = Unit {0}
Lone (b ∷ x) = (b ≡ 34) × Front NoQuote x

-- the bytes that are read up to a closing quote, and what is left from that quote on; the flag says that a quote has just been read
abbrev read : Bool → List ℕ → List ℕ × List ℕ
read false [] = ([], [])
read true [] = ([], 34 ∷ [])
read false (b ∷ s) = cond (b == 34) (read true s) (b ∷ (read false s).0, (read false s).1)
read true (b ∷ s) = cond (b == 34) (34 ∷ (read false s).0, (read false s).1) ([], 34 ∷ b ∷ s)

-- doubled bytes up to such an end are read as what they double
read_doubled : (f x : List ℕ) → Lone x → read false (doubled f ++ x) ≡ (f, x)
read_doubled [] [] l = refl
read_doubled [] (b ∷ []) l = rw l.0 refl
read_doubled [] (b ∷ d ∷ x) l = rw (l.0, ne_eqb d 34 l.1) refl
read_doubled (b ∷ f) x l =
    let rest = read_doubled f x l in
    ⊎_elim
    (λ q. rw q (ap (λ p. (34 ∷ p.0, p.1)) rest))
    (λ n. rw (ne_eqb b 34 n, ne_eqb b 34 n) (ap (λ p. (b ∷ p.0, p.1)) rest))
    (cases_eq b 34)

-- so they are cut in one way
doubled_cut : (f g x y : List ℕ) → Lone x → Lone y → doubled f ++ x ≡ doubled g ++ y → (g ≡ f) × (x ≡ y)
doubled_cut f g x y l m e =
    let same = sym (read_doubled f x l) ∙ ap (read false) e ∙ read_doubled g y m in
    (ap (λ p. p.0) (sym same), ap (λ p. p.1) same)

plain_no_quote : (g more : List ℕ) → Plain g → Front NoQuote more → Front NoQuote (g ++ more)
plain_no_quote [] more p h = h
plain_no_quote (b ∷ g) more p h = λ q. p.0 (inr (inl q))

-- what s has, where a field is cut from it and the quote before it
quoted_cut : (f s x g u more : List ℕ) → s ≡ doubled f ++ x → Lone x → Field g u → 34 ∷ s ≡ u ++ more → Stops more → (g ≡ f) × (x ≡ 34 ∷ more)
quoted_cut f s x g u more e l (inl q) d h =
    absurd (subst (Front NoQuote) (sym (d ∙ ap (λ y. y ++ more) q.1)) (plain_no_quote g more q.0 (stops_no_quote more h)) refl)
quoted_cut f s x g u more e l (inr q) d h =
    let whole = d ∙ ap (λ y. y ++ more) q in
    let inner : s ≡ (doubled g ++ (34 ∷ [])) ++ more = cc in
    doubled_cut f g x (34 ∷ more) l (refl, stops_no_quote more h) (sym e ∙ inner ∙ append_assoc (doubled g) (34 ∷ []) more)

quoted_first : (f s rest : List ℕ) → s ≡ doubled f ++ 34 ∷ rest → Front NoQuote rest → First f (34 ∷ s) rest
quoted_first f s rest e o = record {
  text = quoted f;
  written = inr refl;
  cut = ap (λ x. 34 ∷ x) (e ∙ sym (append_assoc (doubled f) (34 ∷ []) rest));
  only = λ g u more w d h. let same = quoted_cut f s (34 ∷ rest) g u more e (refl, o) w d h in (same.0, cc);
}

pub never_closed : (f s rest : List ℕ) → s ≡ doubled f ++ rest → length rest < 1 → Offence OpenQuote (34 ∷ s) × NoField (34 ∷ s)
never_closed f s [] e h = (
  (f, ap (λ x. 34 ∷ x) (e ∙ append-nil (doubled f))),
  λ g u more w d k. let same = (quoted_cut f s [] g u more e tt w d k).1 in cc,
)
never_closed f s (b ∷ rest) e h = absurd (omega arith)

pub closed : (f s rest : List ℕ) → s ≡ doubled f ++ rest → 0 < length rest → get_or rest 0 0 ≡ 34 → (1 < length rest → get_or rest 1 0 ≡ 34 → ⊥) → First f (34 ∷ s) (take (length rest - 1) (drop 1 rest))
closed f s [] e h q n = absurd (omega arith)
closed f s (b ∷ []) e h q n = quoted_first f s [] (e ∙ ap (λ x. doubled f ++ x ∷ []) q) tt
closed f s (b ∷ d ∷ rest) e h q n =
    let whole : take (length (b ∷ d ∷ rest) - 1) (d ∷ rest) ≡ d ∷ rest = take_all _ (d ∷ rest) (omega arith) in
    rw whole (quoted_first f s (d ∷ rest) (e ∙ ap (λ x. doubled f ++ x ∷ d ∷ rest) q) (n (omega arith)))
