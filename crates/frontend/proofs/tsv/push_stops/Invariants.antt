use Rattle.std.proofs.Common.{◌≡◌, ◌++◌, take, vec_items, string_bytes}
use Rattle.frontend.specs.Lines.{stop_lines}
use Rattle.frontend.proofs.tsv.push_stops.Given as goal

abbrev pub invariant-loop-member : goal.invariant-loop-member
invariant-loop-member l =
    string_bytes l.page ≡ string_bytes l.initial.page ++ stop_lines (take l.member-index (vec_items l.books.members))
