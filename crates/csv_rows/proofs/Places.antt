-- Where a row and its offences stand in the text. Assumes nothing.
use Rattle.std.proofs.Common.{◌≡◌, ℕ, ◌+◌, ◌-◌, ◌<◌, List, [], ◌∷◌, ◌++◌, length, take, drop, sym, ap, ◌∙◌, subst, inl, inr, append_assoc, take-append-drop, length-append, length-drop, arith}
use Rattle.std.proofs.lemmas.List.Prefix.{end_rest}
use Rattle.csv_rows.specs.declared.Fault.{Fault}
use Rattle.csv_rows.specs.declared.Fault.TheVariants.{QuoteInField, LoneReturn, TextAfterQuote, OpenQuote}
use Rattle.csv_rows.specs.declared.Row.{Row}
use Rattle.csv_rows.specs.Grammar.{Ends, RowOf, count_of}
use Rattle.csv_rows.specs.Parts.{Stops, First, NoField}
use Rattle.csv_rows.specs.Reads.{Offence, NoRowAt, RowAt, cells}
use Rattle.csv_rows.proofs.Rows.{Sofar, done, alone, stuck, no_more}

some : (fault : Fault) (s : List ℕ) → Offence fault s → 0 < length s
some QuoteInField s o = omega (arith, ap length o.1)
some LoneReturn s o = omega (arith, ap length o.1)
some TextAfterQuote s o = omega (arith, ap length o.2)
some OpenQuote s o = omega (arith, ap length o.1)

module _ (text : List ℕ) (at : ℕ) where
  -- what is left is an end of the text, as long as what stands before it leaves it
  left : (read rest : List ℕ) → drop at text ≡ read ++ rest → length text - at ≡ length read + length rest
  left read rest e = sym (length-drop at text) ∙ ap length e ∙ length-append read rest

  place : (read rest : List ℕ) → drop at text ≡ read ++ rest → drop (length text - length rest) text ≡ rest
  place read rest e =
      end_rest text rest (take at text ++ read) (sym (take-append-drop at text) ∙ ap (λ x. take at text ++ x) e ∙ sym (append_assoc (take at text) read rest))

  refused : (fault : Fault) (read rest : List ℕ) → at < length text → drop at text ≡ read ++ rest → Offence fault rest → ((fs : List (List ℕ)) (end : List ℕ) → RowOf fs (drop at text) end → ⊥) → NoRowAt text at fault (length text - length rest)
  refused fault read rest lt e o none = record {
    inside = lt;
    forward = omega (arith, left read rest e);
    within = omega (arith, some fault rest o);
    offence = subst (Offence fault) (sym (place read rest e)) o;
    none = none;
  }

  -- only the end of the text ends a row with no byte
  forward : (t e rest : List ℕ) → at < length text → drop at text ≡ t ++ (e ++ rest) → Ends e rest → at < length text - length rest
  forward t e rest lt d (inl p) = omega (arith, left t (e ++ rest) d, length-append e rest, ap length p)
  forward t e rest lt d (inr (inl p)) = omega (arith, left t (e ++ rest) d, length-append e rest, ap length p)
  forward t e rest lt d (inr (inr p)) = omega (arith, ap length p.1)

module _ {text : List ℕ} {at : ℕ} {fs : List (List ℕ)} {rest : List ℕ} (lt : at < length text) (old : Sofar (drop at text) fs rest) where
  pub no_field : Offence OpenQuote rest × NoField rest → NoRowAt text at OpenQuote (length text - length rest)
  no_field told = refused text at OpenQuote old.read rest lt old.cut told.0 (no_more old told.1)

  module _ {f after : List ℕ} (first : First f rest after) where
    pub no_end : (fault : Fault) → Offence fault after × (Stops after → ⊥) → NoRowAt text at fault (length text - length after)
    no_end fault told =
        refused text at fault (old.read ++ first.text) after lt (old.cut ∙ ap (λ x. old.read ++ x) first.cut ∙ sym (append_assoc old.read first.text after)) told.0 (stuck old after first told.1)

    pub row_ends : (row : Row) (more : List ℕ) → (e : List ℕ) × Ends e more × (after ≡ e ++ more) → cells row ≡ fs ++ f ∷ [] → row.next ≡ length text - length more → row.lines ≡ count_of 10 (take (row.next - at) (drop at text)) → RowAt text at row
    row_ends row more told fields next lines =
        let all : RowOf (cells row) (drop at text) more = rw fields (done old after told.0 more first told.1 told.2) in
        let ends : drop row.next text ≡ more = rw next (place text at (all.0 ++ all.1) more (all.4 ∙ sym (append_assoc all.0 all.1 more))) in
        record {
          inside = lt;
          forward = rw next (forward text at all.0 all.1 more lt all.4 all.3);
          within = omega arith;
          fields = rw ends all;
          only = rw (ends, fields) (alone old after told.0 more first told.1 told.2);
          lines = lines;
        }
