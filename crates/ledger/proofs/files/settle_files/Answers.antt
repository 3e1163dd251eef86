use Rattle.std.proofs.Common.{subst, rules}
use Rattle.reading.specs.Books.{CreditsOf, LogOf, members_of}
use Rattle.ledger.specs.Billed.{Settled}
use Rattle.ledger.proofs.files.settle_files.Goals as goal

pub returns : goal.returns
returns c =
    let payers = c.in_ok-payers.payers in
    let log = c.in_ok-log.log in
    let credits_are : CreditsOf c.args.credits.now payers = search rules in
    let log_is : LogOf c.args.usage.now (members_of payers) log = search rules in
    record { payers = payers; log = log; credits_are = credits_are; log_is = log_is; settled = subst (λ l. Settled l log c.in_ok-settle_all.field-0) c.into_list.ensures c.in_ok-settle_all.ensures }
