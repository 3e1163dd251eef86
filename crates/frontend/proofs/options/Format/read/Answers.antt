use Rattle.std.proofs.Common.{inl, rules}
use Rattle.frontend.proofs.options.Format.read.Goals as goal

pub returns-in_ok-from_str-in-Err : goal.returns-in_ok-from_str-in-Err
returns-in_ok-from_str-in-Err c =
    record {
      made = search rules;
      succeeds = λ f e. let none = c.try_from.ensures.succeeds f e in search rules;
      told = inl (c.in_ok-from_str-in-Err.field-0, search rules, search rules);
    }
