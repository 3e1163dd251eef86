use Rattle.std.proofs.Common.{[], ◌∷◌, refl, inl, inr, arith}
use Rattle.std.proofs.lemmas.Grind.{common_steps}
use Rattle.csv_rows.proofs.after_field.Goals as goal

pub returns-in-13 : goal.returns-in-13
returns-in-13 c = record { cases = (13 ∷ 10 ∷ [], inr (inl refl), grind (arith, common_steps)) }

pub returns-in-10 : goal.returns-in-10
returns-in-10 c = record { cases = (10 ∷ [], inl refl, grind (arith, common_steps)) }
