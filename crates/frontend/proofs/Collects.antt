-- What `try_collect` gathers of a chain over a slice that keeps some items and makes a value of each.
use Rattle.std.proofs.Common.{◌≡◌, ℕ, Bool, Bor, Iter, List, [], ◌∷◌, ◌++◌, map, Option, None, Result, Ok, Err, Vec, String, IfOk, vec_items, vec_len, string_bytes, sym, refl, ap, subst, ◌∙◌, append_assoc, append-nil}
use Rattle.std.proofs.iter.Yields.{fronts}
use Rattle.std.proofs.lemmas.Iterator.{YieldsList, YieldsList-from_slice}
use Rattle.std.proofs.lemmas.Iterator.Consumers.{Pushes, YieldsList-at, YieldsList-from_filter}
use Rattle.std.specs.declared.alloc.Global.{Global}
use Rattle.std.specs.declared.iter.Filter.{Filter}
use Rattle.std.specs.declared.iter.Map.{Map}
use Rattle.std.specs.Fn.{Called, CalledAt}
use Rattle.std.specs.Iterator.{AlwaysYields, Drains, Yields}
use Rattle.std.specs.Iterator.Adapters.{filter_source, filter_callee, filter_steps, map_source, map_callee, map_steps}
use Rattle.std.specs.List.{AllZip, FoldsTo, filter}
use Rattle.std.specs.Slice.Iter.{iter_rest}
use denote.Param.Members.{Mut}

-- one item of the chain, which held a value, is added
abbrev pub Takes : {T E Z : Type 0} → Vec T Z → Result T E → Vec T Z → Type 0
Takes {T} p r q = (t : T) × (Ok t ≡ r) × Pushes p t q

-- the values of the items of the chain s are collected, from none on
abbrev pub Gathers : {S T E Z : Type 0} → (S → Option (Result T E) → S → Type 0) → S → Vec T Z → Type 0
Gathers {T = T} {E} {Z} steps s w = (rs : List (Result T E)) × (p : Vec T Z) × Drains steps s rs × ((vec_items p ≡ []) × (vec_len p ≡ 0)) × FoldsTo Takes p rs w

-- a call at an item x makes a value t with R x t, if it makes one, and leaves the closure as it was
abbrev pub Makes : {A B F T E : Type 0} → (A → B) → Mut F (A × Unit {0}) (Result T E) → (B → T → Type 0) → F → Type 0
Makes {A} {F = F} {T} {E} v g R f = (x : A) (r : Result T E) (q : F) → Called g f (x, tt) r q → (q ≡ f) × IfOk r (R (v x))

module _ {S A B F T E Z : Type 0} (steps : S → Option A → S → Type 0) (v : A → B) (g : Mut F (A × Unit {0}) (Result T E)) (R : B → T → Type 0) (f : F) (makes : Makes v g R f) where
  gathered : (all : List B) (s t u : Map S F) (rs : List (Result T E)) (p w : Vec T Z) → map_callee s ≡ f → AlwaysYields steps v (map_source s) all → Yields (map_steps steps g) s rs t → map_steps steps g t None u → FoldsTo Takes p rs w → (ts : List T) × AllZip R all ts × (vec_items w ≡ vec_items p ++ ts)
  gathered [] s t u [] p w a e y n k = ([], tt, ap vec_items (sym k) ∙ sym (append-nil _))
  gathered (b ∷ all) s t u [] p w a e y n k = absurd (e.0 (map_source u) (subst (λ z. steps (map_source z) None (map_source u)) (sym y) n.0))
  gathered [] s t u (r ∷ rs) p w a e y n k = absurd (e y.1.0 (map_source y.0) y.1.1)
  gathered (b ∷ all) s t u (r ∷ rs) p w a e y n k =
      let x = y.1.0 in
      let value = k.1.0 in
      let made = makes x r (map_callee y.0) (subst (λ z. Called g z (x, tt) r (map_callee y.0)) a y.1.2) in
      let here = e.1 x (map_source y.0) y.1.1 in
      let rest = gathered all y.0 t u rs k.0 w made.0 here.1 y.2 n k.2 in (
        value ∷ rest.0,
        (subst (λ z. R z value) here.0 (subst (λ z. IfOk z (R (v x))) (sym k.1.1) made.1), rest.1),
        rest.2 ∙ ap (λ l. l ++ rest.0) k.1.2.0 ∙ append_assoc (vec_items p) (value ∷ []) rest.0,
      )

-- what passes a test, of the items of a slice
pub kept : {A F : Type 0} {s : Filter (Iter A) F} {i : Iter A} (g : Mut F (Bor (Bor A) × Unit {0}) Bool) (test : A → Bool) {f : F} (xs : List A) → iter_rest i ≡ xs → filter_source s ≡ i → filter_callee s ≡ f → ((x : Bor A) (b : Bool) (q : F) → CalledAt g f x b q → (q ≡ f) × (b ≡ test x.now)) → YieldsList (filter_steps fronts g) (λ y. y.now) s (filter test xs)
kept g test xs is source callee tests = YieldsList-from_filter g test (YieldsList-at source (YieldsList-from_slice xs is)) callee tests

module _ {S A B F T E Z : Type 0} {steps : S → Option A → S → Type 0} {v : A → B} {all : List B} {s : Map S F} {t : S} (g : Mut F (A × Unit {0}) (Result T E)) where
  pub each_from_try_collect : (R : B → T → Type 0) {f : F} (r : Result (Vec T Z) E) → IfOk r (Gathers (map_steps steps g) s) → map_source s ≡ t → YieldsList steps v t all → map_callee s ≡ f → Makes v g R f → IfOk r (λ w. AllZip R all (vec_items w))
  each_from_try_collect R {f} (Ok w) d source e callee makes =
      let made = gathered steps v g R f makes all s d.2.1.0 d.2.0 d.0 d.1 w callee (YieldsList-at source e).runs d.2.1.1 d.2.1.2 d.4 in
      subst (AllZip R all) (sym (made.2 ∙ ap (λ l. l ++ made.0) d.3.0)) made.1
  each_from_try_collect R (Err x) d source e callee makes = tt

same_texts : {B : Type 0} (h : B → List ℕ) (all : List B) (ts : List (String Global)) → AllZip (λ b t. string_bytes t ≡ h b) all ts → map string_bytes ts ≡ map h all
same_texts h [] [] each = refl
same_texts h [] (t ∷ ts) each = absurd each
same_texts h (b ∷ all) [] each = absurd each
same_texts h (b ∷ all) (t ∷ ts) each = λ i. each.0 i ∷ same_texts h all ts each.1 i

-- the same, where the values are texts and h says which
pub texts_from_try_collect : {S A B F E Z : Type 0} {steps : S → Option A → S → Type 0} {v : A → B} {all : List B} {s : Map S F} {t : S} (g : Mut F (A × Unit {0}) (Result (String Global) E)) (h : B → List ℕ) {f : F} (r : Result (Vec (String Global) Z) E) → IfOk r (Gathers (map_steps steps g) s) → map_source s ≡ t → YieldsList steps v t all → map_callee s ≡ f → Makes v g (λ b t. string_bytes t ≡ h b) f → IfOk r (λ w. map string_bytes (vec_items w) ≡ map h all)
texts_from_try_collect g h (Ok w) d source e callee makes = same_texts h _ _ (each_from_try_collect g (λ b t. string_bytes t ≡ h b) (Ok w) d source e callee makes)
texts_from_try_collect g h (Err x) d source e callee makes = tt
