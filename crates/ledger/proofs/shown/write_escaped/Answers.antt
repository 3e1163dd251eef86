use Rattle.std.proofs.Common.{sym, ap, arith}
use lib.Utf8.{encode}
use Rattle.std.proofs.Output.{has_written_of_eq}
use Rattle.ledger.specs.Written.{escaped}
use Rattle.ledger.proofs.Escapes.{escaped_other}
use Rattle.ledger.proofs.shown.write_escaped.Goals as goal

pub returns-in-9 : goal.returns-in-9
unfolding encode
returns-in-9 g c = record { prints = λ p ok. has_written_of_eq g.W.Write.write_str_gives _ _ _ _ (ap (λ n. escaped (encode n)) (sym c.in-9.is)) (c.write_str.ensures.writes p ok) }

pub returns-in-10 : goal.returns-in-10
unfolding encode
returns-in-10 g c = record { prints = λ p ok. has_written_of_eq g.W.Write.write_str_gives _ _ _ _ (ap (λ n. escaped (encode n)) (sym c.in-10.is)) (c.write_str-in-10.ensures.writes p ok) }

pub returns-in-13 : goal.returns-in-13
unfolding encode
returns-in-13 g c = record { prints = λ p ok. has_written_of_eq g.W.Write.write_str_gives _ _ _ _ (ap (λ n. escaped (encode n)) (sym c.in-13.is)) (c.write_str-in-13.ensures.writes p ok) }

pub returns-in-92 : goal.returns-in-92
unfolding encode
returns-in-92 g c = record { prints = λ p ok. has_written_of_eq g.W.Write.write_str_gives _ _ _ _ (ap (λ n. escaped (encode n)) (sym c.in-92.is)) (c.write_str-in-92.ensures.writes p ok) }

pub returns-in_default : goal.returns-in_default
returns-in_default g c =
    record {
      prints = λ p ok.
          has_written_of_eq g.W.Write.write_str_gives _ _ _ _ (sym (escaped_other c.args.c (λ e. omega arith) (λ e. omega arith) (λ e. omega arith) (λ e. omega arith))) (c.write_char.ensures.writes p ok);
    }
