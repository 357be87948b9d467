use Rattle.sonic_find.proofs.table.add_rows.Goals as goal
use Rattle.std.proofs.Common.{◌∙◌, ap, length, arith, refl}
use Rattle.std.proofs.lemmas.Result.{err_from_is_err_and}
use Rattle.sonic_find.proofs.ColumnLemmas.Table.{rows_next, rows_end}
use Rattle.sonic_find.proofs.MarkLemmas.Kept.{keeps_later}
use Rattle.sonic_find.proofs.TableLemmas.Rows.{no_rows, item_faults}
use Rattle.sonic_find.proofs.WalkLemmas.Step.{separated_later}
use Rattle.sonic_find.specs.Internal.Walk.{WalkState}
use Rattle.sonic_find.specs.Tables.{is_empty}

pub returns-then-not-enter-clause-ok : goal.returns-then-not-enter-clause-ok
returns-then-not-enter-clause-ok c = record {
  kind = c.args.kind;
  rows = no_rows c.requires.empty.0 c.requires.empty.1;
  all = rw c.requires.empty.0 (is_empty c.requires.bracket (c.if-not-enter.ensures.empty refl));
}

pub returns-in_err-next_item-clause-err : goal.returns-in_err-next_item-clause-err
returns-in_err-next_item-clause-err c =
    let p = err_from_is_err_and c.from_residual-in_err-next_item.result c.from_residual-in_err-next_item.ensures.1 in
    let text = ap (λ (w : WalkState). w.text) c.items.invariant.same in
    let rule = ap (λ (w : WalkState). w.rule) c.items.invariant.same in
    let rows = rw (text, rule) at (c.in_ok-pass_rows.ensures.rows c.args.walk.now.place (rw (text, rule) c.items.invariant.rows)) in
    let fault = rw (c.in_ok-pass_rows.ensures.moved, text) at c.in_err-next_item.ensures.err in
    rw (p.1, p.2) (item_faults rows.fit rows.is fault)

pub returns-then-not-branch-clause-ok : goal.returns-then-not-branch-clause-ok
returns-then-not-branch-clause-ok c =
    let text = ap (λ (w : WalkState). w.text) c.items.invariant.same in
    let rule = ap (λ (w : WalkState). w.rule) c.items.invariant.same in
    let rows = rw (text, rule) at (c.in_ok-pass_rows.ensures.rows c.args.walk.now.place (rw (text, rule) c.items.invariant.rows)) in
    rows_end rows (rw (c.in_ok-pass_rows.ensures.moved, text) at (c.in_ok-next_item.ensures.end c.if-not-branch.true))

pub items-smaller : goal.items-smaller
items-smaller c =
    let text = ap (λ (w : WalkState). w.text) c.in_ok-pass_rows.ensures.moved in
    let longer = c.in_ok-pass_rows.ensures.later in
    let next = rw text at (separated_later _ _ (c.in_ok-next_item.ensures.item c.if-not-branch.false)) in
    let still = ap length (ap (λ (w : WalkState). w.text) c.next_item.ensures.moved ∙ text) in
    omega (arith, longer, next.0, next.1, still)

pub items-preserved : goal.items-preserved
items-preserved c =
    let text = ap (λ (w : WalkState). w.text) c.items.invariant.same in
    let rule = ap (λ (w : WalkState). w.rule) c.items.invariant.same in
    let rows = rw (text, rule) at (c.in_ok-pass_rows.ensures.rows c.args.walk.now.place (rw (text, rule) c.items.invariant.rows)) in
    let next = rw (c.in_ok-pass_rows.ensures.moved, text) at (c.in_ok-next_item.ensures.item c.if-not-branch.false) in
    let later = separated_later _ _ (c.in_ok-next_item.ensures.item c.if-not-branch.false) in
    record {
      same = rw (c.next_item.ensures.moved, c.in_ok-pass_rows.ensures.moved, c.items.invariant.same) refl;
      rows = rows_next rows next;
      slots = ap (λ (w : WalkState). length w.findings.slots) c.next_item.ensures.moved ∙ c.in_ok-pass_rows.ensures.slots;
      marks = rw c.next_item.ensures.moved (keeps_later c.in_ok-pass_rows.ensures.marks (omega (arith, later.0)));
      columns = rw (text, rule) at c.in_ok-pass_rows.ensures.columns;
    }
