-- A row, field by field. Assumes nothing.
use Rattle.std.proofs.Common.{◌≡◌, ℕ, cond, eqb, ◌⊎◌, List, [], ◌∷◌, ◌++◌, drop, sym, refl, ap, ◌∙◌, subst, inl, inr, append_assoc, arith}
use Rattle.csv_rows.specs.Grammar.{Field, Ends, RowOf}
use Rattle.csv_rows.specs.Parts.{Stops, First, NoField}

-- what stands after the first field of a row, where the fields gs and then end are left: the row's end, or a comma and a row
abbrev Then : List (List ℕ) → List ℕ → List ℕ → Type 0
Then gs rest end =
    ((e : List ℕ) × Ends e end × (rest ≡ e ++ end) × (gs ≡ [])) ⊎ ((more : List ℕ) × RowOf gs more end × (rest ≡ 44 ∷ more))

-- a row cut after its first field
record Opened (fs : List (List ℕ)) (s end : List ℕ) : Type 0 where
  name : List ℕ
  others : List (List ℕ)
  all : fs ≡ name ∷ others
  text : List ℕ
  rest : List ℕ
  written : Field name text
  cut : s ≡ text ++ rest
  follows : Then others rest end

opened : (fs : List (List ℕ)) (s end : List ℕ) → RowOf fs s end → Opened fs s end
opened [] s end r = absurd r.2
opened (f ∷ []) s end r = record {
  name = f;
  others = [];
  all = refl;
  text = r.0;
  rest = r.1 ++ end;
  written = r.2;
  cut = r.4;
  follows = inl (r.1, r.3, refl, refl);
}
opened (f ∷ g ∷ fs) s end r =
    let parts = r.2 in
    let past = parts.1 ++ (r.1 ++ end) in
    record {
      name = f;
      others = g ∷ fs;
      all = refl;
      text = parts.0;
      rest = 44 ∷ past;
      written = parts.2;
      cut = r.4 ∙ ap (λ x. x ++ (r.1 ++ end)) parts.4 ∙ append_assoc parts.0 (44 ∷ parts.1) (r.1 ++ end);
      follows = inr (past, (parts.1, r.1, parts.3, r.3, refl), refl);
    }

ends_stops : (e rest : List ℕ) → Ends e rest → Stops (e ++ rest)
ends_stops e rest (inl p) = rw p (inr (inl refl))
ends_stops e rest (inr (inl p)) = rw p (inr (inr (refl, (rest, refl))))
ends_stops e rest (inr (inr p)) = rw (p.0, p.1) tt

then_stops : (gs : List (List ℕ)) (rest end : List ℕ) → Then gs rest end → Stops rest
then_stops gs rest end (inl p) = rw p.2 (ends_stops p.0 end p.1)
then_stops gs rest end (inr p) = rw p.2 (inl refl)

-- nothing is a row that does not begin with a field
no_field : (s : List ℕ) → NoField s → (fs : List (List ℕ)) (end : List ℕ) → RowOf fs s end → ⊥
no_field s none fs end r =
    let o = opened fs s end r in
    none o.name o.text o.rest o.written o.cut (then_stops o.others o.rest end o.follows)

module _ {f s rest : List ℕ} (first : First f s rest) where
  after_first : (fs : List (List ℕ)) (end : List ℕ) → RowOf fs s end → (gs : List (List ℕ)) × (fs ≡ f ∷ gs) × Then gs rest end
  after_first fs end r =
      let o = opened fs s end r in
      let same = first.only o.name o.text o.rest o.written o.cut (then_stops o.others o.rest end o.follows) in
      (o.others, o.all ∙ ap (λ x. x ∷ o.others) same.0, subst (λ x. Then o.others x end) same.1 o.follows)

  bad_follow : (Stops rest → ⊥) → (fs : List (List ℕ)) (end : List ℕ) → RowOf fs s end → ⊥
  bad_follow bad fs end r = let a = after_first fs end r in bad (then_stops a.0 rest end a.2)

  last_field : (e end : List ℕ) → Ends e end → rest ≡ e ++ end → RowOf (f ∷ []) s end
  last_field e end h d = (first.text, e, first.written, h, first.cut ∙ ap (λ x. first.text ++ x) d)

heads : {b d : ℕ} {s t : List ℕ} → b ∷ s ≡ d ∷ t → b ≡ d
heads e = cc

no_comma : (e end more : List ℕ) → Ends e end → e ++ end ≡ 44 ∷ more → ⊥
no_comma e end more (inl p) d = let z = heads (sym (ap (λ x. x ++ end) p) ∙ d) in omega arith
no_comma e end more (inr (inl p)) d = let z = heads (sym (ap (λ x. x ++ end) p) ∙ d) in omega arith
no_comma e end more (inr (inr p)) d = let z = sym (ap (λ x. x ++ end) p.0 ∙ p.1) ∙ d in cc

module _ {f s more : List ℕ} (first : First f s (44 ∷ more)) where
  field_more : (gs : List (List ℕ)) (end : List ℕ) → RowOf gs more end → RowOf (f ∷ gs) s end
  field_more [] end r = absurd r.2
  field_more (g ∷ gs) end r = (
    first.text ++ (44 ∷ r.0),
    r.1,
    (first.text, r.0, first.written, r.2, refl),
    r.3,
    first.cut ∙ ap (λ x. first.text ++ (44 ∷ x)) r.4 ∙ sym (append_assoc first.text (44 ∷ r.0) (r.1 ++ end)),
  )

  past_comma : (fs : List (List ℕ)) (end : List ℕ) → RowOf fs s end → (gs : List (List ℕ)) × (fs ≡ f ∷ gs) × RowOf gs more end
  past_comma fs end r = let a = after_first first fs end r in (a.0, a.1, row a.0 a.2)
    where
      row : (gs : List (List ℕ)) → Then gs (44 ∷ more) end → RowOf gs more end
      row gs (inl p) = absurd (no_comma p.0 end more p.1 (sym p.2))
      row gs (inr p) = subst (λ x. RowOf gs x end) (cc) p.1

-- what is left of bytes that begin with a row's end
abbrev past_end : List ℕ → List ℕ
past_end [] = []
past_end (b ∷ x) = cond (eqb b 10) x (drop 1 x)

past_end_is : (e end : List ℕ) → Ends e end → past_end (e ++ end) ≡ end
past_end_is e end (inl p) = ap (λ x. past_end (x ++ end)) p
past_end_is e end (inr (inl p)) = ap (λ x. past_end (x ++ end)) p
past_end_is e end (inr (inr p)) = ap (λ x. past_end (x ++ end)) p.0 ∙ ap past_end p.1 ∙ sym p.1

-- the fields fs and their commas lead from s to rest, and no others do
pub record Sofar (s : List ℕ) (fs : List (List ℕ)) (rest : List ℕ) : Type 0 where
  pub read : List ℕ
  pub cut : s ≡ read ++ rest
  pub builds : (gs : List (List ℕ)) (end : List ℕ) → RowOf gs rest end → RowOf (fs ++ gs) s end
  pub only : (hs : List (List ℕ)) (end : List ℕ) → RowOf hs s end → (gs : List (List ℕ)) × (hs ≡ fs ++ gs) × RowOf gs rest end

pub none_yet : (s : List ℕ) → Sofar s [] s
none_yet s = record { read = []; cut = refl; builds = λ gs end r. r; only = λ hs end r. (hs, refl, r) }

module _ {s rest : List ℕ} {fs : List (List ℕ)} (old : Sofar s fs rest) {f : List ℕ} where
  pub one_more : (more : List ℕ) → First f rest (44 ∷ more) → Sofar s (fs ++ f ∷ []) more
  one_more more first = record {
    read = old.read ++ (first.text ++ 44 ∷ []);
    cut = old.cut ∙ ap (λ x. old.read ++ x) first.cut ∙ simp append_assoc;
    builds = λ gs end r. subst (λ x. RowOf x s end) (sym (append_assoc fs (f ∷ []) gs)) (old.builds (f ∷ gs) end (field_more first gs end r));
    only = λ hs end r.
        let o = old.only hs end r in
        let a = past_comma first o.0 end o.2 in
        (a.0, o.1 ∙ ap (λ x. fs ++ x) a.1 ∙ sym (append_assoc fs (f ∷ []) a.0), a.2);
  }

  pub done : (after e end : List ℕ) → First f rest after → Ends e end → after ≡ e ++ end → RowOf (fs ++ f ∷ []) s end
  done after e end first h d = old.builds (f ∷ []) end (last_field first e end h d)

  pub alone : (after e end : List ℕ) → First f rest after → Ends e end → after ≡ e ++ end → (hs : List (List ℕ)) (other : List ℕ) → RowOf hs s other → (hs ≡ fs ++ f ∷ []) × (other ≡ end)
  alone after e end first h d hs other r =
      let o = old.only hs other r in
      let a = after_first first o.0 other o.2 in
      let l = last a.0 a.2 in
      (o.1 ∙ ap (λ x. fs ++ x) (a.1 ∙ ap (λ x. f ∷ x) l.0), l.1)
    where
      last : (gs : List (List ℕ)) → Then gs after other → (gs ≡ []) × (other ≡ end)
      last gs (inl p) = (p.3, sym (past_end_is p.0 other p.1) ∙ ap past_end (sym p.2 ∙ d) ∙ past_end_is e end h)
      last gs (inr p) = absurd (no_comma e end p.0 h (sym d ∙ p.2))

  pub stuck : (after : List ℕ) → First f rest after → (Stops after → ⊥) → (hs : List (List ℕ)) (end : List ℕ) → RowOf hs s end → ⊥
  stuck after first bad hs end r = let o = old.only hs end r in bad_follow first bad o.0 end o.2

pub no_more : {s rest : List ℕ} {fs : List (List ℕ)} → Sofar s fs rest → NoField rest → (hs : List (List ℕ)) (end : List ℕ) → RowOf hs s end → ⊥
no_more {s} {rest} old none hs end r = let o = old.only hs end r in no_field rest none o.0 end o.2
