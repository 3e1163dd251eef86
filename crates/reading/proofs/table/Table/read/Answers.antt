use Rattle.std.proofs.Common.{◌≡◌, [], ◌∷◌, vec_items, sym, ◌∙◌, arith}
use Rattle.std.proofs.lemmas.List.{length-map}
use Rattle.std.proofs.lemmas.Bool.{both_ways}
use Rattle.csv_rows.specs.Reads.{cells}
use Rattle.reading.proofs.Walks.{below_row, past_blank, past_line, no_lines, table_line}
use Rattle.reading.proofs.table.Table.read.Goals as goal

pub invariant_of-self : goal.invariant_of-self
invariant_of-self c =
    let table = c.rows.self in
    let found = rw c.in-Some.is at c.in_ok-row.ensures in
    record {
      short = table.short;
      within = found.within;
      stands = below_row found table.short table.line _ table.stands c.saturating_add-self.ensures;
    }

pub rows-preserved : goal.rows-preserved
rows-preserved c =
    let inv = c.rows.invariant in
    let table = c.rows.self in
    let found = rw c.in-Some.is at c.in_ok-row.ensures in (
      inv.0,
      inv.1,
      omega (arith, found.forward, inv.2),
      λ ls h. inv.3 ls (past_blank found table.short _ _ table.stands c.saturating_add-self.ensures _ h (c.is_blank.ensures.0 c.if-is_blank.true)),
    )

pub returns-in-Some-clause-cases : goal.returns-in-Some-clause-cases
returns-in-Some-clause-cases c =
    let inv = c.rows.invariant in
    let table = c.rows.self in
    let row = c.in-Some.row in
    let found = rw c.in-Some.is at c.in_ok-row.ensures in
    let wide = length-map (vec_items row.fields) vec_items ∙ sym row.fields.ok.0 ∙ sym c.len-found.ensures ∙ c.if-found-self.false in
    let some : cells row ≡ [] ∷ [] → ⊥ = λ e. both_ways _ c.if-is_blank.false (c.is_blank.ensures.1 e) in
    record {
      forward = omega (arith, found.forward, inv.2);
      on = rw inv.0 at (table_line table);
      first = λ ls h. inv.3 _ (past_line found table.short _ _ table.stands c.saturating_add-self.ensures _ h wide some);
    }

pub returns-clause-cases : goal.returns-clause-cases
returns-clause-cases c =
    let ends = rw c.in_default.is at c.in_ok-row.ensures in
    c.rows.invariant.3 [] (no_lines _ _ c.rows.self.at c.rows.self.text.now ends)
