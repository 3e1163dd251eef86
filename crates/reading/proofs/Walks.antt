-- Rows read one after another, and the lines on which they stand. Assumes nothing.
use Rattle.std.proofs.Common.{◌≡◌, ℕ, ◌+◌, ◌-◌, ◌^◌, ◌<◌, ◌≤◌, min, cond, eqb, List, [], ◌∷◌, ◌++◌, length, take, drop, sym, ap, ◌∙◌, subst, inl, inr, arith}
use Rattle.std.proofs.lemmas.List.{drop_all, drop-take, length-drop, length-take, take-append-drop, take-take}
use Rattle.std.proofs.lemmas.List.Sums.{count_by-le-length, sum_by-append}
use Rattle.csv_rows.specs.Grammar.{RowOf, count_of}
use Rattle.csv_rows.specs.Reads.{RowAt, cells}
use Rattle.csv_rows.specs.declared.Row.{Row}
use Rattle.reading.specs.declared.table.Table.{Table}
use Rattle.reading.specs.Tables.{Lines, end, blank, more, feeds, HasLine, Begins}

-- the line on which the place at of text stands
abbrev pub line_at : List ℕ → ℕ → ℕ
line_at text at = 1 + count_of 10 (take at text)

count_append : (xs ys : List ℕ) → count_of 10 (xs ++ ys) ≡ count_of 10 xs + count_of 10 ys
count_append xs ys = sum_by-append (λ x. cond (eqb x 10) 1 0) xs ys

has_line_at : (text : List ℕ) (at : ℕ) → HasLine text (line_at text at)
has_line_at text at =
    (omega arith, omega (arith, ap (count_of 10) (sym (take-append-drop at text)) ∙ count_append (take at text) (drop at text)))

module _ (text : List ℕ) (at next : ℕ) (forth : at ≤ next) (within : next ≤ length text) where
  counted : count_of 10 (take next text) ≡ count_of 10 (take at text) + count_of 10 (take (next - at) (drop at text))
  counted =
      let to : at + (next - at) ≡ next = omega arith in
      let before = take-take at next text forth in
      let after = ap (λ n. drop at (take n text)) (sym to) ∙ drop-take at (next - at) text in
      ap (count_of 10) (sym (take-append-drop at (take next text)) ∙ (λ i. before i ++ after i)) ∙ count_append (take at text) (take (next - at) (drop at text))

  fed : feeds (drop at text) (drop next text) ≡ count_of 10 (take (next - at) (drop at text))
  fed =
      let long : length (drop at text) - length (drop next text) ≡ next - at = omega (arith, length-drop at text, length-drop next text) in
      ap (λ n. count_of 10 (take n (drop at text))) long

-- the row at at, which stands on the line n, and m, the line below it as the program counts
module _ {text : List ℕ} {at : ℕ} {row : Row} (found : RowAt text at row) (short : length text < 2 ^ 63) (n m : ℕ) (here : n ≡ line_at text at) (to : m ≡ min (n + row.lines) (2 ^ 64 - 1)) where
  pub below_row : m ≡ line_at text row.next
  below_row =
      omega (
        arith,
        found.forward,
        found.within,
        found.lines,
        counted text at row.next (omega (arith, found.forward)) found.within,
        count_by-le-length (λ x. eqb x 10) (take row.next text),
        length-take row.next text,
      )

  down : m ≡ n + feeds (drop at text) (drop row.next text)
  down =
      omega (
        arith,
        below_row,
        counted text at row.next (omega (arith, found.forward)) found.within,
        fed text at row.next (omega (arith, found.forward)) found.within,
      )

  module _ (width : ℕ) {ls : List (ℕ × List (List ℕ))} (rest : Lines width m (drop row.next text) ls) where
    rest_below : Lines width (n + feeds (drop at text) (drop row.next text)) (drop row.next text) ls
    rest_below = subst (λ k. Lines width k (drop row.next text) ls) down rest

    pub past_blank : cells row ≡ [] ∷ [] → Lines width n (drop at text) ls
    past_blank e = blank (subst (λ fs. RowOf fs (drop at text) (drop row.next text)) e found.fields) rest_below

    pub past_line : length (cells row) ≡ width → (cells row ≡ [] ∷ [] → ⊥) → Lines width n (drop at text) ((n, cells row) ∷ ls)
    past_line e some = more found.fields e some rest_below

pub no_lines : (width n at : ℕ) (text : List ℕ) → length text ≤ at → Lines width n (drop at text) []
no_lines width n at text le = subst (λ s. Lines width n s []) (sym (drop_all at text le)) end

pub table_line : (table : Table) → HasLine table.text.now table.line
table_line table = subst (HasLine table.text.now) (sym table.stands) (has_line_at table.text.now table.at)

-- the mark has no line feed
first_line : (text : List ℕ) (start : ℕ) → Begins text start → 1 ≡ line_at text start
first_line text start (inl h) = ap (λ s. 1 + count_of 10 s) (sym (ap (λ n. take n text) h.0 ∙ ap (take 3) h.1.1))
first_line text start (inr h) = ap (λ n. line_at text n) (sym h.0)

-- what stands below the header, which stands at start and ends on the line before n
module _ (text : List ℕ) {start : ℕ} {header : Row} (n : ℕ) (begins : Begins text start) (found : RowAt text start header) (short : length text < 2 ^ 63) (to : n ≡ min (header.lines + 1) (2 ^ 64 - 1)) where
  from_first : n ≡ min (1 + header.lines) (2 ^ 64 - 1)
  from_first = omega arith

  pub stands_below : n ≡ line_at text header.next
  stands_below = below_row found short 1 n (first_line text start begins) from_first
