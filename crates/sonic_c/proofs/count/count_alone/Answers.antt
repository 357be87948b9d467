use Rattle.std.proofs.Common.{refl}
use Rattle.std.proofs.lemmas.Result.{err_from_is_err_and}
use Rattle.sonic_c.proofs.BegunLemmas.{whole_utf8}
use Rattle.sonic_c.proofs.ContainerLemmas.{items_whole, past_items}
use Rattle.sonic_c.proofs.count.count_alone.Goals as goal
use Rattle.sonic_find.proofs.DocumentLemmas.{reason_broken}
use Rattle.sonic_find.specs.Documents.{no_root}
use Rattle.sonic_parser.proofs.FaultLemmas.{stop_weaker}
use Rattle.sonic_text.proofs.Stops.{fault_within}
use Rattle.std.proofs.Common.{true}

pub count_items-requires-clause-checks : goal.count_items-requires-clause-checks
count_items-requires-clause-checks c = rw c.cursor_at-cursor.ensures refl

pub count_items-requires-clause-start : goal.count_items-requires-clause-start
count_items-requires-clause-start c = rw c.cursor_at-cursor.ensures refl

pub count_items-requires-clause-bracket : goal.count_items-requires-clause-bracket
count_items-requires-clause-bracket c = rw c.cursor_at-cursor.ensures (rw c.requires.start at c.kind_begun-kind.ensures)

pub returns-in_err-count-clause-err : goal.returns-in_err-count-clause-err
returns-in_err-count-clause-err c =
    let p = err_from_is_err_and c.from_residual.result c.from_residual.ensures.1 in
    let e = rw c.cursor_at-cursor.ensures at c.in_err-count.ensures.err in
    rw (p.1, p.2) (stop_weaker c.in_err-count.field-0.0 (λ s f. no_root f) e)

pub returns-in_err-count-clause-stop : goal.returns-in_err-count-clause-stop
returns-in_err-count-clause-stop c =
    let p = err_from_is_err_and c.from_residual.result c.from_residual.ensures.1 in
    let e = rw c.cursor_at-cursor.ensures at c.in_err-count.ensures.err in
    rw (p.1, p.2) (stop_weaker c.in_err-count.field-0.0 (λ s f. fault_within f) e)

pub pass_rest-requires : goal.pass_rest-requires
pass_rest-requires c = rw (c.in_ok-count.ensures.moved, c.cursor_at-cursor.ensures) at c.place.ensures.inside

pub returns-in_err-pass_rest-clause-err : goal.returns-in_err-pass_rest-clause-err
returns-in_err-pass_rest-clause-err c =
    let p = err_from_is_err_and c.from_residual-in_err-pass_rest.result c.from_residual-in_err-pass_rest.ensures.1 in
    let has = rw c.cursor_at-cursor.ensures at c.in_ok-count.ensures.ok in
    let rest = rw c.place.ensures.place at c.in_err-pass_rest.ensures.err in
    rw (p.1, p.2) (past_items has rest true)

pub returns-in_err-check-clause-err : goal.returns-in_err-check-clause-err
returns-in_err-check-clause-err c =
    let p = err_from_is_err_and c.from_residual-in_err-check.result c.from_residual-in_err-check.ensures.1 in
    let has = rw c.cursor_at-cursor.ensures at c.in_ok-count.ensures.ok in
    let rest = rw c.place.ensures.place at c.in_ok-pass_rest.ensures.ok in
    let broken = c.in_err-check.ensures.err in
    rw (p.1, p.2) (reason_broken (record { end = c.count_items.new.cursor.place; root = items_whole has; place = rest }) refl broken.0 broken.1)

pub returns-clause-ok : goal.returns-clause-ok
returns-clause-ok c = record {
  end = c.count_items.new.cursor.place;
  items = rw c.cursor_at-cursor.ensures at c.in_ok-count.ensures.ok;
  after = rw c.place.ensures.place at c.in_ok-pass_rest.ensures.ok;
}

pub returns-clause-utf8 : goal.returns-clause-utf8
returns-clause-utf8 c = whole_utf8 c.in_ok-check.ensures.ok
