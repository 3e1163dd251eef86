use Rattle.std.proofs.Common.{ap, ◌∙◌, rules}
use Rattle.std.proofs.ByRecursion.{All-more}
use Rattle.std.proofs.lemmas.List.{take_all}
use Rattle.reading.specs.Numbers.{Digit, decimal}
use Rattle.reading.proofs.Decimals.{no_digit, too_large, decimal_more}
use Rattle.reading.proofs.number.number.Goals as goal

pub returns-in_default : goal.returns-in_default
returns-in_default c = record { cases = no_digit c.args.field.now c.args.most c.bytes.b-index c.bytes.n c.bytes-test.true c.bytes.invariant.0 (λ d. search rules) }

pub returns-in_default-2 : goal.returns-in_default-2
returns-in_default-2 c = record { cases = no_digit c.args.field.now c.args.most c.bytes.b-index c.bytes.n c.bytes-test.true c.bytes.invariant.0 (λ d. search rules) }

pub returns-in_err-checked_mul : goal.returns-in_err-checked_mul
returns-in_err-checked_mul c = record {
  cases = rw c.from_residual.ensures (too_large c.args.field.now c.args.most c.bytes.b-index c.bytes.n c.bytes-test.true c.bytes.invariant.0 (search rules));
}

pub returns-in_err-n : goal.returns-in_err-n
returns-in_err-n c = record {
  cases = rw c.from_residual-in_err-n.ensures (too_large c.args.field.now c.args.most c.bytes.b-index c.bytes.n c.bytes-test.true c.bytes.invariant.0 (search rules));
}

pub returns-then-n-most : goal.returns-then-n-most
returns-then-n-most c = record {
  cases = too_large c.args.field.now c.args.most c.bytes.b-index c.bytes.n c.bytes-test.true c.bytes.invariant.0 (search rules);
}

pub bytes-preserved : goal.bytes-preserved
bytes-preserved c =
    let more = decimal_more c.args.field.now c.bytes.b-index c.bytes-test.true in
    (search rules, c.if-n-most.false, All-more Digit _ _ 0 c.bytes-test.true c.bytes.invariant.2 (search rules))

pub returns : goal.returns
returns c =
    let whole = take_all c.bytes.b-index c.args.field.now c.bytes-test.false in
    record {
      cases = (record { some = search rules; digits = rw whole at c.bytes.invariant.2; value = c.bytes.invariant.0 ∙ ap decimal whole }, c.bytes.invariant.1);
    }
