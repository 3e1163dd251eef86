use Rattle.std.proofs.Common.{rules}
use Rattle.frontend.proofs.text.member_row.Goals as goal

pub returns : goal.returns
returns c =
    record {
      made = record {
        out = c.spot_of.result;
        first = c.spot_of-2.result;
        last = c.spot_of-3.result;
        out_is = search rules;
        first_is = search rules;
        last_is = search rules;
        cells_are = search rules;
      };
    }
