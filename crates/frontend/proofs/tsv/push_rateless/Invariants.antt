use Rattle.std.proofs.Common.{◌≡◌, ◌++◌, take, vec_items, string_bytes}
use Rattle.frontend.specs.Lines.{rateless_lines}
use Rattle.frontend.proofs.tsv.push_rateless.Given as goal

abbrev pub invariant-loop-machine : goal.invariant-loop-machine
invariant-loop-machine l =
    string_bytes l.page ≡ string_bytes l.initial.page ++ rateless_lines (take l.machine-index (vec_items l.books.machines))
