-- Names found and added. Assumes nothing.
use Rattle.std.proofs.Common.{◌≡◌, ℕ, Bool, true, false, cond, List, [], ◌∷◌, ◌++◌, length, Some, None, Option, String, sym, refl, ap, ◌∙◌, subst, ⊎_elim, arith}
use Rattle.std.specs.BTreeMap.{BTreeMap, IsOrdered, get_by_text}
use Rattle.std.specs.Map.{update}
use Rattle.std.specs.Str.{bytes_eq}
use Rattle.std.specs.String.{string_cmp}
use Rattle.std.proofs.lemmas.Slice.Eq.{bytes_eq-Decides}
use Rattle.std.proofs.lemmas.List.{get_or_append_left, get_or_push, length-append, length_push}
use Rattle.std.proofs.lemmas.Bool.{cases_lt, cond-false, cond-true, false_from_ne_true}
use Rattle.std.specs.declared.alloc.Global.{Global}
use Rattle.reading.specs.Named.{NamedAt, Lacks, PlaceOf, Distinct, Tells}

same_some : {m n : ℕ} → Some m ≡ Some n → m ≡ n
same_some e = cc

none_some : {n : ℕ} → None ≡ Some n → ⊥
none_some e = let z : ◌≡◌ {A = ℕ} 0 1 = cc in omega arith

-- what the map tells is where the name stands
pub place_from_map : {places : BTreeMap (String Global) ℕ} {names : List (List ℕ)} → Tells places names → (name : List ℕ) (o : Option ℕ) → o ≡ get_by_text places name → PlaceOf names name o
place_from_map tells name (Some k) e = tells.only name k (sym e)
place_from_map {places} tells name None e =
    λ k h. none_some (e ∙ ap (get_by_text places) (sym h.1) ∙ tells.listed k h.0)

-- the same of a name that is asked for by its bytes
pub place_told : {places : BTreeMap (String Global) ℕ} {names : List (List ℕ)} {o : Option ℕ} {bs name : List ℕ} → Tells places names → bs ≡ name → o ≡ get_by_text places bs → PlaceOf names name o
place_told {names = names} {o = o} {bs = bs} tells e told = subst (λ n. PlaceOf names n o) e (place_from_map tells bs o told)

-- a map with the same entries tells the same
pub tells_same : {old new : BTreeMap (String Global) ℕ} {names more : List (List ℕ)} → new.entries ≡ old.entries → more ≡ names → Tells old names → Tells new more
tells_same e m t = rw m (record {
  ordered = rw e t.ordered;
  listed = λ k h. rw e (t.listed k h);
  only = λ name k told. t.only name k (rw e at told);
})

-- no name has two places
pub distinct_from_map : {places : BTreeMap (String Global) ℕ} {names : List (List ℕ)} → Tells places names → Distinct names
distinct_from_map {places} tells j k name at_j at_k =
    let told_j = ap (get_by_text places) (sym at_j.1) ∙ tells.listed j at_j.0 in
    let told_k = ap (get_by_text places) (sym at_k.1) ∙ tells.listed k at_k.0 in
    same_some (sym told_j ∙ told_k)

-- a name keeps its place when others are added
pub named_before : (names more : List (List ℕ)) (k : ℕ) (name : List ℕ) → NamedAt names k name → NamedAt (names ++ more) k name
named_before names more k name h = (omega (arith, h.0, length-append names more), get_or_append_left names more [] k h.0 ∙ h.1)

named_last : (names : List (List ℕ)) (name : List ℕ) (k : ℕ) → k ≡ length names → NamedAt (names ++ name ∷ []) k name
named_last names name k e = (omega (arith, length_push names name), get_or_push names name [] k (sym e))

module _ (old new : BTreeMap (String Global) ℕ) (names : List (List ℕ)) (name : List ℕ) (tells : Tells old names) (lacks : Lacks names name) (ordered : IsOrdered string_cmp new) (sets : (v : List ℕ) → get_by_text new v ≡ update bytes_eq (get_by_text old) name (Some (length names)) v) where
  elsewhere : (v : List ℕ) → (name ≡ v → ⊥) → get_by_text new v ≡ get_by_text old v
  elsewhere v other = sets v ∙ cond-false _ _ _ (false_from_ne_true _ (λ same. other ((bytes_eq-Decides name v).0 same)))

  reads_back : get_by_text new name ≡ Some (length names)
  reads_back = sets name ∙ cond-true _ _ _ ((bytes_eq-Decides name name).1 refl)

  told : (v : List ℕ) (k : ℕ) → NamedAt (names ++ name ∷ []) k v → get_by_text new v ≡ Some k
  told v k h =
      ⊎_elim
      (λ lt.
      let was = sym (get_or_append_left names (name ∷ []) [] k lt) ∙ h.1 in
      elsewhere v (λ e. lacks k (lt, was ∙ sym e)) ∙ ap (get_by_text old) (sym was) ∙ tells.listed k lt)
      (λ ge.
      let here : k ≡ length names = omega (arith, h.0, length_push names name) in
      let same = sym (get_or_push names name [] k (omega arith)) ∙ h.1 in
      ap (get_by_text new) (sym same) ∙ reads_back ∙ ap Some (sym here))
      (cases_lt k (length names))

  back : (v : List ℕ) (k : ℕ) (b : Bool) → bytes_eq name v ≡ b → cond b (Some (length names)) (get_by_text old v) ≡ Some k → NamedAt (names ++ name ∷ []) k v
  back v k true same e =
      subst (NamedAt (names ++ name ∷ []) k) ((bytes_eq-Decides name v).0 same) (named_last names name k (sym (same_some e)))
  back v k false same e = named_before names (name ∷ []) k v (tells.only v k e)

  -- the map tells one name more
  pub tells_more : Tells new (names ++ name ∷ [])
  tells_more = record {
    ordered = ordered;
    listed = λ k lt. told _ k (lt, refl);
    only = λ v k e. back v k (bytes_eq name v) refl (sym (sets v) ∙ e);
  }
