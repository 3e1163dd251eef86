use Rattle.std.proofs.Common.{◌≡◌, vec_items, refl, sym, ◌∙◌, inr, rules}
use Rattle.std.proofs.lemmas.Iterator.{YieldsList-from_slice, cases_from_any}
use borrow.Author.Tests.{tests}
use Rattle.csv_rows.specs.Reads.{cells}
use Rattle.reading.proofs.Rows.{take_rest, when_true, when_false, named_later, none_later, only_one}
use Rattle.reading.proofs.table.place.Goals as goal

pub returns-then-any : goal.returns-then-any
returns-then-any c =
    let fields = vec_items c.args.header.now.fields in
    let i = c.in-Some.i in
    let name = c.as_bytes-name.result.now in
    let is = c.as_bytes-name.ensures.value ∙ c.name.ensures.value in
    let first = rw is at c.in-Some.ensures.cases in
    let rest = c.iter.ensures.rest ∙ take_rest _ c.deref.ensures.value in
    let told = cases_from_any _ _ c.any.result (λ f. vec_items f ≡ name) (λ f. vec_items f ≡ name → ⊥) c.any.ensures.ran (YieldsList-from_slice _ rest) (λ x q k. search (rules, tests)) (λ x q k. search (rules, tests)) in
    let later = named_later fields i name (when_true _ _ _ c.if-any.true told) in
    (refl, inr (refl, (i, later.0, later.1, (first.0, first.1), (later.2.0, later.2.1 ∙ is))))

pub returns : goal.returns
returns c =
    let fields = vec_items c.args.header.now.fields in
    let i = c.in-Some.i in
    let name = c.as_bytes-name.result.now in
    let is = c.as_bytes-name.ensures.value ∙ c.name.ensures.value in
    let first = rw is at c.in-Some.ensures.cases in
    let rest = c.iter.ensures.rest ∙ take_rest _ c.deref.ensures.value in
    let told = cases_from_any _ _ c.any.result (λ f. vec_items f ≡ name) (λ f. vec_items f ≡ name → ⊥) c.any.ensures.ran (YieldsList-from_slice _ rest) (λ x q k. search (rules, tests)) (λ x q k. search (rules, tests)) in
    only_one (cells c.args.header.now) c.args.column i first (λ k lt gt e. none_later fields i name (when_false _ _ _ c.if-any.false told) k lt gt (e ∙ sym is))
