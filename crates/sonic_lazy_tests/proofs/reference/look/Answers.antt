use Rattle.sonic_lazy_tests.proofs.reference.look.Goals as goal
use Rattle.std.proofs.Common.{◌≡◌, ◌∙◌, inl, inr, true, ap, sym, length, arith, refl}
use Rattle.std.proofs.lemmas.Result.{err_from_is_err_and}
use Rattle.sonic_find.proofs.PathLemmas.Lead.{none_unopened, none_empty, count_below, past_byte}
use Rattle.sonic_find.proofs.WalkLemmas.Step.{separated_later}
use Rattle.sonic_find.proofs.MarkLemmas.Seen.{nothing_seen}
use Rattle.sonic_lazy_tests.proofs.reference.WayLemmas.{IsWayAfter, seen_after, all_passed, leads_there, comes_twice, leads_no_way}
use Rattle.sonic_parser.proofs.FaultLemmas.{stop_weaker}
use Rattle.sonic_pointer.specs.Nodes.{node_of}
use Rattle.sonic_text.proofs.Items.{closing_no_comma}
use Rattle.sonic_text.proofs.Values.{head-later, value_never_both}
use Rattle.sonic_text.specs.Faults.IsFault.{in_value, in_key, after_item}
use Rattle.sonic_text.specs.Values.{first_item, next_item}

pub returns-then-byte_at-opening-clause-nowhere : goal.returns-then-byte_at-opening-clause-nowhere
returns-then-byte_at-opening-clause-nowhere c = λ e.
    let byte = rw (c.text.ensures, c.offset.ensures.place) at c.byte_at.ensures.value in
    let bracket = rw c.kind_of-kind.ensures at c.opening.ensures in
    λ v. none_unopened (λ same. c.if-byte_at-opening.true (byte ∙ (same ∙ sym bracket))) (node_of c.args.node.now) v refl

pub returns-then-not-enter-clause-nowhere : goal.returns-then-not-enter-clause-nowhere
returns-then-not-enter-clause-nowhere c = λ e v.
    let end = rw c.kind_of-kind.ensures at (c.if-not-enter.ensures.empty refl) in
    none_empty end.0 (node_of c.args.node.now) v refl

pub items-init : goal.items-init
items-init c =
    let byte = rw (c.text.ensures, c.offset.ensures.place) at c.byte_at.ensures.value in
    let bracket = rw c.kind_of-kind.ensures at (sym byte ∙ (c.if-byte_at-opening.false ∙ c.opening.ensures)) in
    let entered = rw c.kind_of-kind.ensures at (c.if-not-enter.ensures.item refl) in
    record {
      cursor = c.enter.ensures.moved;
      fit = rw c.enter.ensures.moved (first_item bracket entered.value_start entered.item refl);
      seen = nothing_seen _ _ _ _;
      within = λ v e. absurd cc;
    }

pub returns-in_err-named-clause-err : goal.returns-in_err-named-clause-err
returns-in_err-named-clause-err c =
    let p = err_from_is_err_and c.from_residual.result c.from_residual.ensures.1 in
    let fit = rw c.items.invariant.cursor at c.items.invariant.fit in
    let e = rw c.items.invariant.cursor at c.in_err-named.ensures.err in
    rw (p.1, p.2) (value_never_both c.requires.whole.1 (in_key (rw e.0 at fit) e.1))

pub returns-in_err-skip_value-clause-err : goal.returns-in_err-skip_value-clause-err
returns-in_err-skip_value-clause-err c =
    let p = err_from_is_err_and c.from_residual-in_err-skip_value.result c.from_residual-in_err-skip_value.ensures.1 in
    let fit = rw c.items.invariant.cursor at c.items.invariant.fit in
    let item = rw c.items.invariant.cursor at c.in_ok-named.ensures.item in
    let e = rw (c.in_ok-named.ensures.moved, c.items.invariant.cursor, c.requires.reads) at c.in_err-skip_value.ensures.err in
    rw (p.1, p.2) (stop_weaker c.in_err-skip_value.field-0.0 (λ s f. value_never_both c.requires.whole.1 (in_value fit item.1.head f)) e)

pub returns-in_err-next_item-clause-err : goal.returns-in_err-next_item-clause-err
returns-in_err-next_item-clause-err c =
    let p = err_from_is_err_and c.from_residual-in_err-next_item.result c.from_residual-in_err-next_item.ensures.1 in
    let fit = rw c.items.invariant.cursor at c.items.invariant.fit in
    let item = rw c.items.invariant.cursor at c.in_ok-named.ensures.item in
    let value = rw (c.in_ok-named.ensures.moved, c.items.invariant.cursor, c.requires.reads) at c.in_ok-skip_value.ensures.ok.value in
    let e = rw (c.in_ok-skip_value.ensures.moved, c.in_ok-named.ensures.moved, c.items.invariant.cursor, c.kind_of-kind.ensures) at c.in_err-next_item.ensures.err in
    rw (p.1, p.2) (value_never_both c.requires.whole.1 (after_item fit item.1.head value e.0 e.1))

pub returns-then-not-branch-clause-on : goal.returns-then-not-branch-clause-on
returns-then-not-branch-clause-on c = λ v e.
    let fit = rw c.items.invariant.cursor at c.items.invariant.fit in
    let item = rw c.items.invariant.cursor at c.in_ok-named.ensures.item in
    let value = rw (c.in_ok-named.ensures.moved, c.items.invariant.cursor, c.requires.reads) at c.in_ok-skip_value.ensures.ok.value in
    let end = rw (c.in_ok-skip_value.ensures.moved, c.in_ok-named.ensures.moved, c.items.invariant.cursor) at (c.in_ok-next_item.ensures.end c.if-not-branch.true) in
    let most = all_passed (past_byte fit item.1 value (λ comma. closing_no_comma c.kind_of-kind.result (sym end.0 ∙ comma))) in
    let after = c.after_item-way.ensures in
    let follows : c.in_ok-named.named ≡ true → IsWayAfter c.args.rule c.offset-head.result c.offset-value.result c.items.way c.after_item-way.result =
    λ named. record { last = after.last named; first = after.first named; second = after.second named; more = after.more named } in
    let there = rw (c.offset-head.ensures.place, c.offset-value.ensures.place) at follows in
    let seen = rw c.items.invariant.cursor at c.items.invariant.seen in
    let now = seen_after _ c.requires.counts there after.other fit item.1 item.2 item.3 seen in
    leads_there c.after_item-way.result c.requires.whole.1 most now v cc

pub returns-then-not-branch-clause-twice : goal.returns-then-not-branch-clause-twice
returns-then-not-branch-clause-twice c = λ q e.
    let fit = rw c.items.invariant.cursor at c.items.invariant.fit in
    let item = rw c.items.invariant.cursor at c.in_ok-named.ensures.item in
    let after = c.after_item-way.ensures in
    let follows : c.in_ok-named.named ≡ true → IsWayAfter c.args.rule c.offset-head.result c.offset-value.result c.items.way c.after_item-way.result =
    λ named. record { last = after.last named; first = after.first named; second = after.second named; more = after.more named } in
    let there = rw (c.offset-head.ensures.place, c.offset-value.ensures.place) at follows in
    let seen = rw c.items.invariant.cursor at c.items.invariant.seen in
    let now = seen_after _ c.requires.counts there after.other fit item.1 item.2 item.3 seen in
    comes_twice c.after_item-way.result c.requires.whole.1 now q cc

pub returns-then-not-branch-clause-nowhere : goal.returns-then-not-branch-clause-nowhere
returns-then-not-branch-clause-nowhere c = λ e.
    let fit = rw c.items.invariant.cursor at c.items.invariant.fit in
    let item = rw c.items.invariant.cursor at c.in_ok-named.ensures.item in
    let value = rw (c.in_ok-named.ensures.moved, c.items.invariant.cursor, c.requires.reads) at c.in_ok-skip_value.ensures.ok.value in
    let end = rw (c.in_ok-skip_value.ensures.moved, c.in_ok-named.ensures.moved, c.items.invariant.cursor) at (c.in_ok-next_item.ensures.end c.if-not-branch.true) in
    let most = all_passed (past_byte fit item.1 value (λ comma. closing_no_comma c.kind_of-kind.result (sym end.0 ∙ comma))) in
    let after = c.after_item-way.ensures in
    let follows : c.in_ok-named.named ≡ true → IsWayAfter c.args.rule c.offset-head.result c.offset-value.result c.items.way c.after_item-way.result =
    λ named. record { last = after.last named; first = after.first named; second = after.second named; more = after.more named } in
    let there = rw (c.offset-head.ensures.place, c.offset-value.ensures.place) at follows in
    let seen = rw c.items.invariant.cursor at c.items.invariant.seen in
    let now = seen_after _ c.requires.counts there after.other fit item.1 item.2 item.3 seen in
    leads_no_way c.after_item-way.result most now cc

pub overflow_add-passed : goal.overflow_add-passed
overflow_add-passed c =
    let few = count_below c.items.invariant.fit in
    let later = head-later c.in_ok-named.ensures.item.1.head in
    let next = separated_later _ _ (c.in_ok-next_item.ensures.item c.if-not-branch.false) in
    omega (arith, few, later, c.in_ok-skip_value.ensures.ok.later, next.0, c.in_ok-next_item.ensures.fits)

pub items-smaller : goal.items-smaller
items-smaller c =
    let later = head-later c.in_ok-named.ensures.item.1.head in
    let next = separated_later _ _ (c.in_ok-next_item.ensures.item c.if-not-branch.false) in
    let named = ap (λ p. length p.text) c.in_ok-named.ensures.moved in
    let skipped = ap (λ p. length p.text) c.in_ok-skip_value.ensures.moved in
    let long = ap (λ p. length p.text) c.in_ok-next_item.ensures.moved in
    omega (arith, later, c.in_ok-skip_value.ensures.ok.later, next.0, next.1, named, skipped, long)

pub items-preserved : goal.items-preserved
items-preserved c =
    let fit = rw c.items.invariant.cursor at c.items.invariant.fit in
    let item = rw c.items.invariant.cursor at c.in_ok-named.ensures.item in
    let value = rw (c.in_ok-named.ensures.moved, c.items.invariant.cursor, c.requires.reads) at c.in_ok-skip_value.ensures.ok.value in
    let comma = rw (c.in_ok-skip_value.ensures.moved, c.in_ok-named.ensures.moved, c.items.invariant.cursor) at (c.in_ok-next_item.ensures.item c.if-not-branch.false) in
    let next = next_item fit item.1.head value comma.0 comma.1 refl in
    let after = c.after_item-way.ensures in
    let follows : c.in_ok-named.named ≡ true → IsWayAfter c.args.rule c.offset-head.result c.offset-value.result c.items.way c.after_item-way.result =
    λ named. record { last = after.last named; first = after.first named; second = after.second named; more = after.more named } in
    let there = rw (c.offset-head.ensures.place, c.offset-value.ensures.place) at follows in
    let seen = rw c.items.invariant.cursor at c.items.invariant.seen in
    let now = seen_after _ c.requires.counts there after.other fit item.1 item.2 item.3 seen in
    record {
      cursor = rw (c.in_ok-next_item.ensures.moved, c.in_ok-skip_value.ensures.moved, c.in_ok-named.ensures.moved, c.items.invariant.cursor) refl;
      fit = rw (c.in_ok-next_item.ensures.moved, c.in_ok-skip_value.ensures.moved, c.in_ok-named.ensures.moved, c.items.invariant.cursor) next;
      seen = rw (c.in_ok-next_item.ensures.moved, c.in_ok-skip_value.ensures.moved, c.in_ok-named.ensures.moved, c.items.invariant.cursor) now;
      within = λ v e. elim (after.either v e) [
        | inl same ↦ rw (c.in_ok-next_item.ensures.moved, c.in_ok-skip_value.ensures.moved, same) c.offset-value.ensures.inside
        | inr before ↦ rw (c.in_ok-next_item.ensures.moved, c.in_ok-skip_value.ensures.moved, c.in_ok-named.ensures.moved) (c.items.invariant.within v before)
      ];
    }
