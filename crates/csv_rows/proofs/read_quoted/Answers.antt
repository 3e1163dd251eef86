use Rattle.std.proofs.Common.{vec_items, arith}
use Rattle.std.proofs.lemmas.Grind.{common_steps}
use Rattle.csv_rows.proofs.Quotes.{never_closed, closed}
use Rattle.csv_rows.proofs.read_quoted.Goals as goal

pub returns-in-empty : goal.returns-in-empty
returns-in-empty c = record { cases = never_closed (vec_items c.bytes.bytes) _ _ c.bytes.invariant c.in-empty.len_below }

pub returns-in-34-2 : goal.returns-in-34-2
returns-in-34-2 c = record {
  cases = closed (vec_items c.bytes.bytes) _ c.bytes.rest.now c.bytes.invariant (grind (arith, common_steps)) (grind (arith, common_steps)) (λ h q. grind (arith, common_steps));
}
