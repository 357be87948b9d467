use Rattle.sonic_lazy_tests.proofs.reference.seek.Goals as goal
use Rattle.std.proofs.Common.{◌∙◌, ap, sym, length, arith, refl}
use Rattle.std.proofs.lemmas.Result.{err_from_is_err_and}
use Rattle.sonic_find.proofs.PathLemmas.Lead.{none_unopened, none_empty, first_unnamed, named_leads, none_leads, one_more_unnamed, count_below, not_named, past_value, past_byte, past_key}
use Rattle.sonic_parser.proofs.FaultLemmas.{stop_weaker}
use Rattle.sonic_find.proofs.WalkLemmas.Step.{separated_later}
use Rattle.sonic_pointer.specs.Nodes.{node_of}
use Rattle.sonic_text.proofs.Items.{head_never_both, closing_no_comma}
use Rattle.sonic_text.proofs.Values.{head-later}
use Rattle.sonic_text.specs.Values.{first_item, next_item}

pub returns-then-byte_at-opening-clause-no : goal.returns-then-byte_at-opening-clause-no
returns-then-byte_at-opening-clause-no c = λ e.
    let byte = rw (c.text.ensures, c.offset.ensures.place) at c.byte_at.ensures.value in
    let bracket = rw c.kind_of-kind.ensures at c.opening.ensures in
    λ v. none_unopened (λ same. c.if-byte_at-opening.true (byte ∙ (same ∙ sym bracket))) (node_of c.args.node.now) v refl

pub returns-then-not-enter-clause-no : goal.returns-then-not-enter-clause-no
returns-then-not-enter-clause-no c = λ e v.
    let end = rw c.kind_of-kind.ensures at (c.if-not-enter.ensures.empty refl) in
    none_empty end.0 (node_of c.args.node.now) v refl

pub items-init : goal.items-init
items-init c =
    let byte = rw (c.text.ensures, c.offset.ensures.place) at c.byte_at.ensures.value in
    let bracket = rw c.kind_of-kind.ensures at (sym byte ∙ (c.if-byte_at-opening.false ∙ c.opening.ensures)) in
    let entered = rw c.kind_of-kind.ensures at (c.if-not-enter.ensures.item refl) in
    record {
      cursor = c.enter.ensures.moved;
      none = rw c.enter.ensures.moved (first_unnamed (node_of c.args.node.now) (first_item bracket entered.value_start entered.item refl));
    }

pub returns-in_err-is_named-clause-err : goal.returns-in_err-is_named-clause-err
returns-in_err-is_named-clause-err c =
    let p = err_from_is_err_and c.from_residual.result c.from_residual.ensures.1 in
    let none = rw c.items.invariant.cursor at c.items.invariant.none in
    let e = rw c.items.invariant.cursor at c.in_err-is_named.ensures.err in
    rw (p.1, p.2) (none_leads none (λ v x. head_never_both e.0 x.head e.1) (past_key e.0 none.fit e.1))

pub returns-then-branch-clause-yes : goal.returns-then-branch-clause-yes
returns-then-branch-clause-yes c = λ e.
    let item = c.in_ok-is_named.ensures.item in
    rw c.items.invariant.cursor at (named_leads c.items.invariant.none (rw (item.2 c.if-branch.true) at item.1))

pub returns-in_err-skip_value-clause-err : goal.returns-in_err-skip_value-clause-err
returns-in_err-skip_value-clause-err c =
    let p = err_from_is_err_and c.from_residual-in_err-skip_value.result c.from_residual-in_err-skip_value.ensures.1 in
    let none = rw c.items.invariant.cursor at c.items.invariant.none in
    let item = rw c.items.invariant.cursor at c.in_ok-is_named.ensures.item in
    let e = rw (c.in_ok-is_named.ensures.moved, c.items.invariant.cursor, c.requires.reads) at c.in_err-skip_value.ensures.err in
    rw (p.1, p.2) (stop_weaker c.in_err-skip_value.field-0.0 (λ s f. none_leads none (not_named item.1 (item.3 c.if-branch.false)) (past_value none.fit item.1 f)) e)

pub returns-in_err-next_item-clause-err : goal.returns-in_err-next_item-clause-err
returns-in_err-next_item-clause-err c =
    let p = err_from_is_err_and c.from_residual-in_err-next_item.result c.from_residual-in_err-next_item.ensures.1 in
    let none = rw c.items.invariant.cursor at c.items.invariant.none in
    let item = rw c.items.invariant.cursor at c.in_ok-is_named.ensures.item in
    let value = rw (c.in_ok-is_named.ensures.moved, c.items.invariant.cursor, c.requires.reads) at c.in_ok-skip_value.ensures.ok.value in
    let e = rw (c.in_ok-skip_value.ensures.moved, c.in_ok-is_named.ensures.moved, c.items.invariant.cursor) at c.in_err-next_item.ensures.err in
    rw (p.1, p.2) (none_leads none (not_named item.1 (item.3 c.if-branch.false)) (past_byte none.fit item.1 value e.0.0))

pub returns-then-not-branch-clause-no : goal.returns-then-not-branch-clause-no
returns-then-not-branch-clause-no c = λ e.
    let none = rw c.items.invariant.cursor at c.items.invariant.none in
    let item = rw c.items.invariant.cursor at c.in_ok-is_named.ensures.item in
    let value = rw (c.in_ok-is_named.ensures.moved, c.items.invariant.cursor, c.requires.reads) at c.in_ok-skip_value.ensures.ok.value in
    let end = rw (c.in_ok-skip_value.ensures.moved, c.in_ok-is_named.ensures.moved, c.items.invariant.cursor) at (c.in_ok-next_item.ensures.end c.if-not-branch.true) in
    none_leads none (not_named item.1 (item.3 c.if-branch.false)) (past_byte none.fit item.1 value (λ comma. closing_no_comma c.kind_of-kind.result (sym end.0 ∙ comma)))

pub overflow_add-passed : goal.overflow_add-passed
overflow_add-passed c =
    let few = count_below c.items.invariant.none.fit in
    let later = head-later c.in_ok-is_named.ensures.item.1.head in
    let next = separated_later _ _ (c.in_ok-next_item.ensures.item c.if-not-branch.false) in
    omega (arith, few, later, c.in_ok-skip_value.ensures.ok.later, next.0, c.in_ok-next_item.ensures.fits)

pub items-smaller : goal.items-smaller
items-smaller c =
    let later = head-later c.in_ok-is_named.ensures.item.1.head in
    let next = separated_later _ _ (c.in_ok-next_item.ensures.item c.if-not-branch.false) in
    let named = ap (λ p. length p.text) c.in_ok-is_named.ensures.moved in
    let skipped = ap (λ p. length p.text) c.in_ok-skip_value.ensures.moved in
    let long = ap (λ p. length p.text) c.in_ok-next_item.ensures.moved in
    omega (arith, later, c.in_ok-skip_value.ensures.ok.later, next.0, next.1, named, skipped, long)

pub items-preserved : goal.items-preserved
items-preserved c =
    let none = rw c.items.invariant.cursor at c.items.invariant.none in
    let item = rw c.items.invariant.cursor at c.in_ok-is_named.ensures.item in
    let value = rw (c.in_ok-is_named.ensures.moved, c.items.invariant.cursor, c.requires.reads) at c.in_ok-skip_value.ensures.ok.value in
    let comma = rw (c.in_ok-skip_value.ensures.moved, c.in_ok-is_named.ensures.moved, c.items.invariant.cursor) at (c.in_ok-next_item.ensures.item c.if-not-branch.false) in
    let next = next_item none.fit item.1.head value comma.0 comma.1 refl in
    record {
      cursor = rw (c.in_ok-next_item.ensures.moved, c.in_ok-skip_value.ensures.moved, c.in_ok-is_named.ensures.moved, c.items.invariant.cursor) refl;
      none = rw (c.in_ok-next_item.ensures.moved, c.in_ok-skip_value.ensures.moved, c.in_ok-is_named.ensures.moved, c.items.invariant.cursor)
          (one_more_unnamed none item.1 (item.3 c.if-branch.false) next refl);
    }
