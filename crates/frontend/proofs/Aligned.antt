-- What a format with a width writes of a text.
use Rattle.std.proofs.Common.{◌≡◌, ℕ, ◌-◌, ◌<◌, ◌^◌, zero, suc, List, length, refl, sym, ap, ◌∙◌, arith, append-nil}
use Rattle.std.proofs.lemmas.Bool.{ne_eqb}
use Rattle.std.proofs.Padding.{take_chars_all, repeat_ascii}
use Rattle.std.specs.Fmt.{char_count, padded, styled_text, format_spec}
use Rattle.frontend.specs.Grid.{aligned}
use Rattle.frontend.specs.declared.grid.Align.{Align}
use Rattle.frontend.specs.declared.grid.Align.TheVariants.{Left, Right}

left : (width : ℕ) (text : List ℕ) → length text < 2 ^ 64 → styled_text (format_spec 32 1 0 width (2 ^ 64 - 1)) text ≡ aligned Left width text
unfolding padded
left zero text short = let none : 0 - char_count text ≡ 0 = omega arith in rw none (sym (append-nil text))
left (suc width) text short =
    let lacks = suc width - char_count text in
    let all_after : lacks - 0 ≡ lacks = omega arith in
    rw (ne_eqb (suc width) 0 (omega arith), take_chars_all (2 ^ 64 - 1) text (omega arith), all_after, repeat_ascii lacks 32 (omega arith)) refl

right : (width : ℕ) (text : List ℕ) → length text < 2 ^ 64 → styled_text (format_spec 32 3 0 width (2 ^ 64 - 1)) text ≡ aligned Right width text
unfolding padded
right zero text short = let none : 0 - char_count text ≡ 0 = omega arith in rw none refl
right (suc width) text short =
    let lacks = suc width - char_count text in
    let none_after : lacks - lacks ≡ 0 = omega arith in
    rw (ne_eqb (suc width) 0 (omega arith), take_chars_all (2 ^ 64 - 1) text (omega arith), none_after, repeat_ascii lacks 32 (omega arith), append-nil) refl

pub left_is : (align : Align) (width : ℕ) (text : List ℕ) {options : _} → options ≡ format_spec 32 1 0 width (2 ^ 64 - 1) → align ≡ Left → length text < 2 ^ 64 → styled_text options text ≡ aligned align width text
left_is align width text is side short = ap (λ s. styled_text s text) is ∙ left width text short ∙ ap (λ a. aligned a width text) (sym side)

pub right_is : (align : Align) (width : ℕ) (text : List ℕ) {options : _} → options ≡ format_spec 32 3 0 width (2 ^ 64 - 1) → align ≡ Right → length text < 2 ^ 64 → styled_text options text ≡ aligned align width text
right_is align width text is side short = ap (λ s. styled_text s text) is ∙ right width text short ∙ ap (λ a. aligned a width text) (sym side)
