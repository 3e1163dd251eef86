use Rattle.std.proofs.Common.{◌≡◌, ◌≤◌, take}
use Rattle.csv_rows.specs.Grammar.{count_of}
use Rattle.csv_rows.proofs.line_feeds.Given as goal

abbrev pub invariant-bytes : goal.invariant-bytes
invariant-bytes l = (l.n ≡ count_of 10 (take l.b-index l.text)) × (l.n ≤ l.b-index)
