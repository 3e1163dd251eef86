-- The fields of a row or a line, as lists of bytes. Assumes nothing.
use Rattle.std.proofs.Common.{◌+◌, drop, ◌≡◌, ℕ, ◌-◌, ◌<◌, min, Bool, true, false, List, [], ◌∷◌, map, length, get_or, take, Some, vec_items, Vec, sym, refl, ap, ◌∙◌, ⊎_elim, arith}
use Rattle.std.proofs.lemmas.List.{get_or-drop, get_or-map, length-drop, length-map, take_all}
use Rattle.std.proofs.lemmas.Bool.{both_ways, cases_lt, cases_order}
use Rattle.csv_rows.specs.Reads.{FirstOf}
use Rattle.reading.specs.declared.failure.Column.{Column}
use Rattle.reading.specs.Columns.{name_of}
use Rattle.std.specs.Bool.{MatchBool}
use Rattle.std.specs.List.{HoldsAt, AllWithin}
use Rattle.reading.specs.Named.{NamedAt}
use Rattle.reading.specs.Tables.{OnlyAt}

-- a column whose name is field i first
module _ (fs : List (List ℕ)) (column : Column) (i : ℕ) (first : FirstOf fs (name_of column) (Some i)) where
  pub only_one : ((k : ℕ) → k < length fs → i < k → get_or fs k [] ≡ name_of column → ⊥) → OnlyAt fs column i
  only_one none = (
    first.0,
    first.1,
    λ k lt e. ⊎_elim (λ same. same) (⊎_elim (λ less. absurd (first.2 k less e)) (λ more. absurd (none k lt more e))) (cases_order k i),
  )

-- the first bytes of a field, however short it is
pub take_min : (field : List ℕ) (most n : ℕ) → n ≡ min (length field) most → take (n - 0) field ≡ take most field
take_min field most n e =
    ⊎_elim
    (λ lt. ap (λ k. take k field) (omega arith))
    (λ le. take_all (n - 0) field (omega arith) ∙ sym (take_all most field le))
    (cases_lt most (length field))

-- all that stands from a place on
pub take_rest : {X : Type 0} {xs ys : List X} (n : ℕ) → xs ≡ ys → take (length xs - n) (drop n xs) ≡ drop n ys
take_rest {X} {xs} {ys} n e = take_all (length xs - n) (drop n xs) (omega (arith, length-drop n xs)) ∙ ap (drop n) e

-- what a test told
pub when_true : (b : Bool) (P Q : Type 0) → b ≡ true → MatchBool b P Q → P
when_true true P Q e h = h
when_true false P Q e h = absurd (both_ways false refl e)

pub when_false : (b : Bool) (P Q : Type 0) → b ≡ false → MatchBool b P Q → Q
when_false true P Q e h = absurd (both_ways true e refl)
when_false false P Q e h = h

some_item : {X : Type 0} (xs : List X) (k : ℕ) → k < length xs → X
some_item [] k h = absurd (omega (arith, h))
some_item (x ∷ xs) k h = x

module _ {A : Type 0} (items : List (Vec ℕ A)) (i : ℕ) (name : List ℕ) where
  abbrev after : List (Vec ℕ A)
  after = drop (i + 1) items

  read_later : (v : Vec ℕ A) (k : ℕ) → k < length after → get_or (map vec_items items) ((i + 1) + k) [] ≡ vec_items (get_or after k v)
  read_later v k h = get_or-map vec_items items ((i + 1) + k) v [] (omega (arith, h, length-drop (i + 1) items)) ∙ sym (ap vec_items (get_or-drop (i + 1) items k v))

  -- a field further on has the name
  pub named_later : (k : ℕ) × (k < length after) × HoldsAt (λ f. vec_items f ≡ name) after k → (j : ℕ) × (i < j) × NamedAt (map vec_items items) j name
  named_later h =
      let v = some_item after h.0 h.1 in
      ((i + 1) + h.0, omega arith, (omega (arith, h.1, length-drop (i + 1) items, length-map items vec_items), read_later v h.0 h.1 ∙ h.2 v))

  -- or none has it
  pub none_later : AllWithin (λ f. vec_items f ≡ name → ⊥) after 0 (length after) → (j : ℕ) → j < length (map vec_items items) → i < j → get_or (map vec_items items) j [] ≡ name → ⊥
  none_later h j inside past e =
      let at : (i + 1) + (j - (i + 1)) ≡ j = omega arith in
      let low : j - (i + 1) < length after = omega (arith, inside, length-drop (i + 1) items, length-map items vec_items) in
      let v = some_item after (j - (i + 1)) low in
      h (j - (i + 1)) v (omega arith) low (sym (read_later v (j - (i + 1)) low) ∙ ap (λ n. get_or (map vec_items items) n []) at ∙ e)
