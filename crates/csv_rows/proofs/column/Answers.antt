use Rattle.std.proofs.Common.{◌≡◌, ℕ, ◌<◌, List, [], ◌∷◌, map, length, get_or, vec_items, Vec, sym, ◌∙◌, subst, arith, rules, MatchOption, Option, Some, None}
use borrow.Author.Tests.{tests}
use Rattle.std.specs.List.{AllWithin, HoldsAt}
use Rattle.std.proofs.lemmas.Slice.Eq.{slice_eq-Decides}
use Rattle.std.proofs.lemmas.Iterator.{IsFirst-from_position, YieldsList-from_slice}
use Rattle.std.proofs.lemmas.List.{get_or-map, length-map}
use Rattle.std.proofs.lemmas.Bool.Decides.{Decides-eqb}
use Rattle.csv_rows.specs.Reads.{FirstOf}
use Rattle.csv_rows.proofs.column.Goals as goal

cell : {Z : Type 0} (P : List ℕ → Type 0) (xs : List (Vec ℕ Z)) (k : ℕ) → k < length xs → ((d : Vec ℕ Z) → P (vec_items (get_or xs k d))) → P (get_or (map vec_items xs) k [])
cell P [] k lt h = absurd (omega arith)
cell P (v ∷ xs) k lt h = subst P (sym (get_or-map vec_items (v ∷ xs) k v [] lt)) (h v)

first_of : {Z : Type 0} (xs : List (Vec ℕ Z)) (name : List ℕ) (r : Option ℕ) → MatchOption r (AllWithin (λ v. vec_items v ≡ name → ⊥) xs 0 (length xs)) (λ i. (i < length xs) × HoldsAt (λ v. vec_items v ≡ name) xs i × AllWithin (λ v. vec_items v ≡ name → ⊥) xs 0 i) → FirstOf (map vec_items xs) name r
first_of xs name None h = λ k lt.
    let within : k < length xs = omega (arith, length-map xs vec_items) in
    cell (λ x. x ≡ name → ⊥) xs k within (λ d. h k d (omega arith) within)
first_of xs name (Some i) h = (
  omega (arith, h.0, length-map xs vec_items),
  cell (λ x. x ≡ name) xs i h.0 h.1,
  λ k lt. cell (λ x. x ≡ name → ⊥) xs k (omega (arith, h.0)) (λ d. h.2 k d (omega arith) lt),
)

pub returns : goal.returns
returns c =
    let items : List (Vec ℕ _) = vec_items c.args.names.now.fields in
    let name = c.args.name.now in
    let found = IsFirst-from_position _ _ c.position.result (λ v. vec_items v ≡ name) (λ v. vec_items v ≡ name → ⊥) c.position.ensures.ran (YieldsList-from_slice items (c.iter.ensures.rest ∙ c.deref.ensures.value))
    (λ x q k. let h = k in search (rules, slice_eq-Decides Decides-eqb)) (λ x q k. search (rules, tests, slice_eq-Decides Decides-eqb)) in
    record { cases = first_of items name _ (search found) }
