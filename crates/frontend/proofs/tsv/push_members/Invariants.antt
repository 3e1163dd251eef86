use Rattle.std.proofs.Common.{take, vec_items, string_bytes}
use Rattle.frontend.specs.Lines.{MembersAdded}
use Rattle.frontend.proofs.tsv.push_members.Given as goal

abbrev pub invariant-loop-member : goal.invariant-loop-member
invariant-loop-member l =
    MembersAdded l.books (take l.member-index (vec_items l.books.members)) (string_bytes l.initial.page) (string_bytes l.page)
