use Rattle.sonic_find.proofs.path.lead_on.Goals as goal
use Rattle.std.proofs.Common.{arith, ap, length, ◌∙◌, ◌≡◌, sym}
use Rattle.std.proofs.lemmas.Result.{err_from_is_err_and}
use Rattle.sonic_find.proofs.GetLemmas.{key_dead, value_dead, separator_dead, next_unnamed, named_key, tried_goes_on, past_items, past_fails, past_lacks, tried_whole}
use Rattle.sonic_find.proofs.PathLemmas.Lead.{count_below}
use Rattle.sonic_find.proofs.WalkLemmas.Step.{separated_later}
use Rattle.sonic_find.specs.Cursors.{CursorState}
use Rattle.sonic_parser.proofs.FaultLemmas.{stop_weaker}
use Rattle.sonic_text.proofs.Values.{value-longer}

pub returns-in_err-try_item-clause-err : goal.returns-in_err-try_item-clause-err
returns-in_err-try_item-clause-err c =
    let p = err_from_is_err_and c.from_residual-in_err-try_item.result c.from_residual-in_err-try_item.ensures.1 in
    let text : c.items.cursor.text ≡ c.args.cursor.now.text = ap (λ (s : CursorState). s.text) c.items.invariant.moved in
    let f = rw text at c.in_err-try_item.ensures.err in
    rw (p.1, p.2) (key_dead c.items.invariant.before f.0 f.1)

pub skip-requires : goal.skip-requires
skip-requires c =
    let moved : c.try_item.new.cursor ≡ record c.args.cursor.now { place = c.try_item.new.cursor.place } = rw c.items.invariant.moved at c.in_ok-try_item.ensures.moved in
    let tried = rw (c.items.invariant.moved, c.if-branch.false) at c.in_ok-try_item.ensures.item in
    rw moved (λ e. tried_whole c.items.invariant.before tried (c.requires e))

pub returns-in_err-skip-clause-err : goal.returns-in_err-skip-clause-err
returns-in_err-skip-clause-err c =
    let p = err_from_is_err_and c.from_residual-in_err-skip.result c.from_residual-in_err-skip.ensures.1 in
    let moved : c.try_item.new.cursor ≡ record c.args.cursor.now { place = c.try_item.new.cursor.place } = rw c.items.invariant.moved at c.in_ok-try_item.ensures.moved in
    let tried = rw (c.items.invariant.moved, c.if-branch.false) at c.in_ok-try_item.ensures.item in
    let text : c.try_item.new.cursor.text ≡ c.args.cursor.now.text = ap (λ (s : CursorState). s.text) moved in
    let fault = rw text at c.in_err-skip.ensures.err in
    rw (p.1, p.2) (stop_weaker c.in_err-skip.field-0.0 (λ s f. value_dead c.items.invariant.before tried f) fault)

pub returns-in_err-next_item-clause-err : goal.returns-in_err-next_item-clause-err
returns-in_err-next_item-clause-err c =
    let p = err_from_is_err_and c.from_residual-in_err-next_item.result c.from_residual-in_err-next_item.ensures.1 in
    let tried = rw (c.items.invariant.moved, c.if-branch.false) at c.in_ok-try_item.ensures.item in
    let first : c.items.cursor.text ≡ c.args.cursor.now.text = ap (λ (s : CursorState). s.text) c.items.invariant.moved in
    let text : c.try_item.new.cursor.text ≡ c.args.cursor.now.text = ap (λ (s : CursorState). s.text) c.in_ok-try_item.ensures.moved ∙ first in
    let value = rw text at c.in_ok-skip.ensures.value in
    let after : c.skip.new.self.text ≡ c.args.cursor.now.text = ap (λ (s : CursorState). s.text) c.in_ok-skip.ensures.moved ∙ text in
    rw (p.1, p.2) (separator_dead c.items.invariant.before tried value (rw (after, c.kind_of_node-kind.ensures) at c.in_err-next_item.ensures.err))

pub overflow_add-passed : goal.overflow_add-passed
overflow_add-passed c =
    let next = separated_later _ _ (c.in_ok-next_item.ensures.item c.if-not-branch.false) in
    omega (arith, count_below c.items.invariant.before.fit, c.in_ok-try_item.ensures.later, value-longer c.in_ok-skip.ensures.value, next.0, c.in_ok-next_item.ensures.fits)

pub items-smaller : goal.items-smaller
items-smaller c =
    let next = separated_later _ _ (c.in_ok-next_item.ensures.item c.if-not-branch.false) in
    let tried = ap (λ (s : CursorState). length s.text) c.in_ok-try_item.ensures.moved in
    let skipped = ap (λ (s : CursorState). length s.text) c.in_ok-skip.ensures.moved in
    let long = ap (λ (s : CursorState). length s.text) c.in_ok-next_item.ensures.moved in
    omega (arith, c.in_ok-try_item.ensures.later, value-longer c.in_ok-skip.ensures.value, next.0, next.1, tried, skipped, long)

pub items-preserved : goal.items-preserved
items-preserved c =
    let tried = rw (c.items.invariant.moved, c.if-branch.false) at c.in_ok-try_item.ensures.item in
    let first : c.items.cursor.text ≡ c.args.cursor.now.text = ap (λ (s : CursorState). s.text) c.items.invariant.moved in
    let text : c.try_item.new.cursor.text ≡ c.args.cursor.now.text = ap (λ (s : CursorState). s.text) c.in_ok-try_item.ensures.moved ∙ first in
    let value = rw text at c.in_ok-skip.ensures.value in
    let after : c.skip.new.self.text ≡ c.args.cursor.now.text = ap (λ (s : CursorState). s.text) c.in_ok-skip.ensures.moved ∙ text in
    record {
      moved = rw c.items.invariant.moved at (rw c.in_ok-try_item.ensures.moved at (rw c.in_ok-skip.ensures.moved at c.in_ok-next_item.ensures.moved));
      before = next_unnamed c.items.invariant.before tried value (rw after at (c.in_ok-next_item.ensures.item c.if-not-branch.false));
    }

pub returns-in-Array-clause-err : goal.returns-in-Array-clause-err
returns-in-Array-clause-err c =
    let tried = rw (c.items.invariant.moved, c.if-branch.false) at c.in_ok-try_item.ensures.item in
    let first : c.items.cursor.text ≡ c.args.cursor.now.text = ap (λ (s : CursorState). s.text) c.items.invariant.moved in
    let text : c.try_item.new.cursor.text ≡ c.args.cursor.now.text = ap (λ (s : CursorState). s.text) c.in_ok-try_item.ensures.moved ∙ first in
    let value = rw text at c.in_ok-skip.ensures.value in
    let after : c.skip.new.self.text ≡ c.args.cursor.now.text = ap (λ (s : CursorState). s.text) c.in_ok-skip.ensures.moved ∙ text in
    let end = rw (after, c.kind_of_node-kind.ensures) at (c.in_ok-next_item.ensures.end c.if-not-branch.true) in
    rw c.place-place.ensures.place (past_fails c.in-Array.is (sym c.kind_of_node-kind.ensures) (past_items c.items.invariant.before tried value end))

pub returns-in-Object-clause-lacks : goal.returns-in-Object-clause-lacks
returns-in-Object-clause-lacks c =
    let tried = rw (c.items.invariant.moved, c.if-branch.false) at c.in_ok-try_item.ensures.item in
    let first : c.items.cursor.text ≡ c.args.cursor.now.text = ap (λ (s : CursorState). s.text) c.items.invariant.moved in
    let text : c.try_item.new.cursor.text ≡ c.args.cursor.now.text = ap (λ (s : CursorState). s.text) c.in_ok-try_item.ensures.moved ∙ first in
    let value = rw text at c.in_ok-skip.ensures.value in
    let after : c.skip.new.self.text ≡ c.args.cursor.now.text = ap (λ (s : CursorState). s.text) c.in_ok-skip.ensures.moved ∙ text in
    let end = rw (after, c.kind_of_node-kind.ensures) at (c.in_ok-next_item.ensures.end c.if-not-branch.true) in
    λ _. (omega (arith, end.1), past_lacks c.in-Object.is (sym c.kind_of_node-kind.ensures) (past_items c.items.invariant.before tried value end))

pub try_item-requires : goal.try_item-requires
try_item-requires c = rw c.items.invariant.moved (λ k e. named_key c.items.invariant.before k (c.requires e))

pub next_item-requires : goal.next_item-requires
next_item-requires c =
    let tried = rw (c.items.invariant.moved, c.if-branch.false) at c.in_ok-try_item.ensures.item in
    let first : c.items.cursor.text ≡ c.args.cursor.now.text = ap (λ (s : CursorState). s.text) c.items.invariant.moved in
    let text : c.try_item.new.cursor.text ≡ c.args.cursor.now.text = ap (λ (s : CursorState). s.text) c.in_ok-try_item.ensures.moved ∙ first in
    let value = rw text at c.in_ok-skip.ensures.value in
    let moved : c.skip.new.self ≡ record c.args.cursor.now { place = c.skip.new.self.place } = rw c.items.invariant.moved at (rw c.in_ok-try_item.ensures.moved at c.in_ok-skip.ensures.moved) in
    rw (moved, c.kind_of_node-kind.ensures) (λ e. tried_goes_on c.items.invariant.before tried value (c.requires e))
