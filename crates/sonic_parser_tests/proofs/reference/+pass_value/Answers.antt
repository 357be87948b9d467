use Rattle.std.proofs.Common.{ap, length, arith, refl}
use Rattle.std.proofs.lemmas.Result.{err_from_is_err_and}
use Rattle.sonic_text.specs.Values.{empty}
use Rattle.sonic_text.proofs.Places.{after_space_later}
use Rattle.sonic_parser.proofs.FaultLemmas.{stop_weaker}
use Rattle.sonic_parser_tests.proofs.DescentLemmas.{first_expected, next_expected, value_later, next_later, bracket_ends, key_breaks, value_breaks, separator_breaks}
use Rattle.sonic_parser_tests.proofs.reference.+pass_value.Goals as goal

pub returns-then-not-enter-clause-value : goal.returns-then-not-enter-clause-value
returns-then-not-enter-clause-value t c =
    let end = c.if-not-enter.ensures.empty refl in
    empty c.in-Some.kind c.in-Some.ensures end.0 end.1

pub items-init : goal.items-init
items-init t c =
    let entered = c.if-not-enter.ensures.item refl in
    record { cursor = c.if-not-enter.ensures.moved; expected = first_expected c.in-Some.kind c.in-Some.ensures entered.value_start entered.item }

pub returns-in_err-pass_head-clause-err : goal.returns-in_err-pass_head-clause-err
returns-in_err-pass_head-clause-err t c =
    let p = err_from_is_err_and c.from_residual-in_err-pass_head.result c.from_residual-in_err-pass_head.ensures.1 in
    let e = rw c.items.invariant.cursor at c.in_err-pass_head.ensures.err in
    rw (p.1, p.2) (key_breaks c.items.invariant.expected e.0 e.1)

pub pass_value-requires : goal.pass_value-requires
pass_value-requires t c =
    let head = rw c.items.invariant.cursor at c.in_ok-pass_head.ensures.head in
    let later = value_later c.items.invariant.expected head in
    let named = ap (λ p. length p.text) c.in_ok-pass_head.ensures.moved in
    let gone = ap (λ p. length p.text) c.items.invariant.cursor in
    (omega (arith, later, c.items.invariant.expected.within, named, gone), tt)

pub returns-in_err-pass_value-clause-err : goal.returns-in_err-pass_value-clause-err
returns-in_err-pass_value-clause-err t c =
    let p = err_from_is_err_and c.from_residual-in_err-pass_value.result c.from_residual-in_err-pass_value.ensures.1 in
    let head = rw c.items.invariant.cursor at c.in_ok-pass_head.ensures.head in
    let e = rw (c.in_ok-pass_head.ensures.moved, c.items.invariant.cursor) at c.in_err-pass_value.ensures.err in
    rw (p.1, p.2) (stop_weaker c.in_err-pass_value.field-0.0 (λ s f. value_breaks c.items.invariant.expected head f) e)

pub returns-in_err-next_item-clause-err : goal.returns-in_err-next_item-clause-err
returns-in_err-next_item-clause-err t c =
    let p = err_from_is_err_and c.from_residual-in_err-next_item.result c.from_residual-in_err-next_item.ensures.1 in
    let head = rw c.items.invariant.cursor at c.in_ok-pass_head.ensures.head in
    let value = rw (c.in_ok-pass_head.ensures.moved, c.items.invariant.cursor) at c.in_ok-pass_value.ensures.value in
    let e = rw (c.in_ok-pass_value.ensures.moved, c.in_ok-pass_head.ensures.moved, c.items.invariant.cursor) at c.in_err-next_item.ensures.err in
    rw (p.1, p.2) (separator_breaks c.items.invariant.expected head value e)

pub returns-then-not-branch-clause-later : goal.returns-then-not-branch-clause-later
returns-then-not-branch-clause-later t c =
    let head = rw c.items.invariant.cursor at c.in_ok-pass_head.ensures.head in
    let later = value_later c.items.invariant.expected head in
    let end = c.in_ok-next_item.ensures.end c.if-not-branch.true in
    let space = after_space_later c.pass_value.new.parser.text c.pass_value.new.parser.place in
    omega (arith, later, c.in_ok-pass_value.ensures.later, space, end.1)

pub returns-then-not-branch-clause-value : goal.returns-then-not-branch-clause-value
returns-then-not-branch-clause-value t c =
    let head = rw c.items.invariant.cursor at c.in_ok-pass_head.ensures.head in
    let value = rw (c.in_ok-pass_head.ensures.moved, c.items.invariant.cursor) at c.in_ok-pass_value.ensures.value in
    let end = rw (c.in_ok-pass_value.ensures.moved, c.in_ok-pass_head.ensures.moved, c.items.invariant.cursor) at (c.in_ok-next_item.ensures.end c.if-not-branch.true) in
    bracket_ends c.items.invariant.expected head value end

pub items-smaller : goal.items-smaller
items-smaller t c =
    let head = rw c.items.invariant.cursor at c.in_ok-pass_head.ensures.head in
    let value = rw (c.in_ok-pass_head.ensures.moved, c.items.invariant.cursor) at c.in_ok-pass_value.ensures.value in
    let comma = rw (c.in_ok-pass_value.ensures.moved, c.in_ok-pass_head.ensures.moved, c.items.invariant.cursor) at (c.in_ok-next_item.ensures.item c.if-not-branch.false) in
    let next = next_later head value comma in
    let gone = ap (λ p. length p.text) c.items.invariant.cursor in
    let named = ap (λ p. length p.text) c.in_ok-pass_head.ensures.moved in
    let passed = ap (λ p. length p.text) c.in_ok-pass_value.ensures.moved in
    let moved = ap (λ p. length p.text) c.in_ok-next_item.ensures.moved in
    omega (arith, next.0, next.1, gone, named, passed, moved)

pub items-preserved : goal.items-preserved
items-preserved t c =
    let head = rw c.items.invariant.cursor at c.in_ok-pass_head.ensures.head in
    let value = rw (c.in_ok-pass_head.ensures.moved, c.items.invariant.cursor) at c.in_ok-pass_value.ensures.value in
    let comma = rw (c.in_ok-pass_value.ensures.moved, c.in_ok-pass_head.ensures.moved, c.items.invariant.cursor) at (c.in_ok-next_item.ensures.item c.if-not-branch.false) in
    record {
      cursor = rw (c.in_ok-next_item.ensures.moved, c.in_ok-pass_value.ensures.moved, c.in_ok-pass_head.ensures.moved, c.items.invariant.cursor) refl;
      expected = next_expected c.items.invariant.expected head value comma;
    }
