use Rattle.std.proofs.Common.{arith}
use Rattle.std.proofs.lemmas.Grind.{common_steps}
use Rattle.std.proofs.lemmas.List.Sums.{prefix_len-le-length}
use Rattle.csv_rows.specs.Parts.{is_plain}
use Rattle.csv_rows.proofs.Plains.{plain_front}
use Rattle.csv_rows.proofs.read_field.Goals as goal

pub split_at-requires : goal.split_at-requires
split_at-requires c = omega (arith, prefix_len-le-length is_plain c.args.text.now)

pub returns : goal.returns
returns c = record { cases = rw (c.split_at.ensures.back, c.plain_len.ensures) (plain_front _ c.args.text.now (grind (arith, common_steps)) (λ h q. grind (arith, common_steps))) }
