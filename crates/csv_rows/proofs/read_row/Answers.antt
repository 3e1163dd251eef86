use Rattle.std.proofs.Common.{refl, vec_items}
use Rattle.std.proofs.lemmas.List.{take_rest, map_push}
use Rattle.csv_rows.proofs.Rows.{none_yet, one_more}
use Rattle.csv_rows.proofs.Places.{no_field, no_end, row_ends}
use Rattle.csv_rows.proofs.read_row.Goals as goal

pub fields-init : goal.fields-init
fields-init c = rw (c.new-fields.ensures.items, take_rest c.args.text.now c.args.at) (none_yet _)

pub returns-in_default : goal.returns-in_default
returns-in_default c =
    let told = rw c.in_default.is at c.in_ok-bytes.ensures.cases in
    record { cases = no_field c.if-at-text.false c.fields.invariant told }

pub returns-in-Err : goal.returns-in-Err
returns-in-Err c =
    let first = rw c.in-Some.is at c.in_ok-bytes.ensures.cases in
    record { cases = no_end c.if-at-text.false c.fields.invariant first c.in-Err.fault c.in-Err.ensures.cases }

pub fields-preserved : goal.fields-preserved
fields-preserved c =
    let first = rw c.in-Some.is at c.in_ok-bytes.ensures.cases in
    let told = rw c.in-Ok-Comma.field-0-is at c.in-Ok-Comma.ensures.cases in
    let next = rw told at first in
    rw (c.in_ok-push.ensures.items, map_push vec_items _ _) (one_more c.fields.invariant _ next)

pub returns-in-Ok-End : goal.returns-in-Ok-End
returns-in-Ok-End c =
    let first = rw c.in-Some.is at c.in_ok-bytes.ensures.cases in
    let told = rw c.in-Ok-End.field-0-is at c.in-Ok-End.ensures.cases in
    record { cases = row_ends c.if-at-text.false c.fields.invariant first _ c.in-Ok-End.more.now told (rw c.in_ok-push.ensures.items (map_push vec_items _ _)) refl c.line_feeds-lines.ensures.value }
