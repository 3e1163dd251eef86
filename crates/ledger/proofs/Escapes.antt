-- How an escaped text is written character by character.
use Rattle.std.proofs.Common.{◌≡◌, ℕ, ◌+◌, ◌/◌, ◌%◌, ◌≤◌, Bool, true, false, cond, ltb, List, [], ◌∷◌, ◌++◌, length, sym, refl, ap, ◌∙◌, append_assoc, append-nil, arith, lit≤}
use lib.Utf8.{next, encode, encodes}
use Rattle.std.proofs.lemmas.List.{nil_from_length}
use Rattle.std.proofs.lemmas.Bool.{ne_eqb}
use Rattle.std.proofs.lemmas.Str.{encodes-append}
use Rattle.ledger.specs.Written.{escaped_byte, escaped}

pub escaped-++ : (xs ys : List ℕ) → escaped (xs ++ ys) ≡ escaped xs ++ escaped ys
escaped-++ [] ys = refl
escaped-++ (x ∷ xs) ys = ap (λ (l : List ℕ). escaped_byte x ++ l) (escaped-++ xs ys) ∙ sym (append_assoc (escaped_byte x) (escaped xs) (escaped ys))

pub escaped_more : (cs : List ℕ) (c : ℕ) → escaped (encodes (cs ++ (c ∷ []))) ≡ escaped (encodes cs) ++ escaped (encode c)
escaped_more cs c = ap escaped (encodes-append cs (c ∷ []) ∙ ap (λ (l : List ℕ). encodes cs ++ l) (append-nil (encode c))) ∙ escaped-++ (encodes cs) (encode c)

-- one character more was taken from a text
pub encodes_more : (cs : List ℕ) (c : ℕ) (rest left : List ℕ) {bs : List ℕ} → rest ≡ encode c ++ left → encodes cs ++ rest ≡ bs → encodes (cs ++ (c ∷ [])) ++ left ≡ bs
encodes_more cs c rest left step e =
    ap (λ (l : List ℕ). l ++ left) (encodes-append cs (c ∷ []) ∙ ap (λ (l : List ℕ). encodes cs ++ l) (append-nil (encode c)))
    ∙ append_assoc (encodes cs) (encode c) left
    ∙ ap (λ (l : List ℕ). encodes cs ++ l) (sym step)
    ∙ e

-- all of a text was taken
pub encodes_all : (cs rest : List ℕ) {bs : List ℕ} → length rest ≡ 0 → encodes cs ++ rest ≡ bs → encodes cs ≡ bs
encodes_all cs rest none e = sym (append-nil (encodes cs)) ∙ ap (λ (l : List ℕ). encodes cs ++ l) (sym (nil_from_length _ none)) ∙ e

plain_byte : (b : ℕ) → (b ≡ 9 → ⊥) → (b ≡ 10 → ⊥) → (b ≡ 13 → ⊥) → (b ≡ 92 → ⊥) → escaped_byte b ≡ b ∷ []
plain_byte b t n r k = simp (ne_eqb b 9 t, ne_eqb b 10 n, ne_eqb b 13 r, ne_eqb b 92 k)

plain_more : (low n : ℕ) (bs : List ℕ) → 128 ≤ low → escaped bs ≡ bs → escaped ((low + n) ∷ bs) ≡ (low + n) ∷ bs
plain_more low n bs h e =
    ap (λ (l : List ℕ). l ++ escaped bs) (plain_byte (low + n) (λ i. omega arith) (λ i. omega arith) (λ i. omega arith) (λ i. omega arith)) ∙ ap (λ (l : List ℕ). (low + n) ∷ l) e

next_more : (n : ℕ) (bs : List ℕ) → escaped bs ≡ bs → escaped (next n ∷ bs) ≡ next n ∷ bs
next_more n bs = plain_more 128 (n % 64) bs (lit≤ tt)

plain_cond : (x : Bool) (l m : List ℕ) → escaped l ≡ l → escaped m ≡ m → escaped (cond x l m) ≡ cond x l m
plain_cond true l m p q = p
plain_cond false l m p q = q

-- any other character is written as itself
pub escaped_other : (c : ℕ) → (c ≡ 9 → ⊥) → (c ≡ 10 → ⊥) → (c ≡ 13 → ⊥) → (c ≡ 92 → ⊥) → escaped (encode c) ≡ encode c
unfolding encode
escaped_other c t n r k =
    plain_cond (ltb c 128) _ _ (append-nil (escaped_byte c) ∙ plain_byte c t n r k)
    (plain_cond (ltb c 2048) _ _ (plain_more 192 (c / 64) _ (lit≤ tt) (next_more c [] refl))
    (plain_cond (ltb c 65536) _ _ (plain_more 224 (c / 4096) _ (lit≤ tt) (next_more (c / 64) _ (next_more c [] refl)))
    (plain_more 240 (c / 262144) _ (lit≤ tt) (next_more (c / 4096) _ (next_more (c / 64) _ (next_more c [] refl))))))
