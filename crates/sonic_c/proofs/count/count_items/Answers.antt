use Rattle.std.proofs.Common.{refl, sym, arith}
use Rattle.std.proofs.lemmas.Result.{err_from_is_err_and}
use Rattle.sonic_c.proofs.ContainerLemmas.{passed_item, first_bracket}
use Rattle.sonic_c.proofs.count.count_items.Goals as goal
use Rattle.sonic_c.specs.Containers.{none_passed}
use Rattle.sonic_parser.proofs.FaultLemmas.{stop_weaker}
use Rattle.sonic_text.proofs.Within.{value_within}

pub items-init : goal.items-init
items-init c = record { moved = refl; passed = none_passed refl refl c.requires.start c.requires.bracket; bound = omega arith }

pub pass_item-requires-clause-checks : goal.pass_item-requires-clause-checks
pass_item-requires-clause-checks c = rw c.items.invariant.moved c.requires.checks

pub pass_item-requires-clause-bracket : goal.pass_item-requires-clause-bracket
pass_item-requires-clause-bracket c = rw c.items.invariant.moved (λ e. first_bracket e c.items.invariant.passed)

pub returns-in_err-found-clause-err : goal.returns-in_err-found-clause-err
returns-in_err-found-clause-err c =
    let p = err_from_is_err_and c.from_residual.result c.from_residual.ensures.1 in
    let e = rw c.items.invariant.moved at c.in_err-found.ensures.err in
    rw (p.1, p.2) (stop_weaker c.in_err-found.field-0.0 (λ s f. (f c.items.count c.items.invariant.passed).0) e)

pub returns-in_default-clause-ok : goal.returns-in_default-clause-ok
returns-in_default-clause-ok c =
    let closed = rw c.items.invariant.moved at c.in_ok-found.ensures.closed in
    closed c.in_default.is c.items.count c.items.invariant.passed

pub overflow_add-count : goal.overflow_add-count
overflow_add-count c =
    let later = rw c.in-Some.is at c.in_ok-found.ensures.later in
    let fits = rw c.in-Some.is at c.in_ok-found.ensures.fits in
    omega (arith, later, fits, c.items.invariant.bound)

pub items-preserved : goal.items-preserved
items-preserved c =
    let item = rw (c.in-Some.is, c.items.invariant.moved) at c.in_ok-found.ensures.item in
    let end = rw c.in-Some.is at c.in_ok-found.ensures.end in
    let later = rw c.in-Some.is at c.in_ok-found.ensures.later in
    record {
      moved = rw c.items.invariant.moved at c.in_ok-found.ensures.moved;
      passed = passed_item (item c.items.count c.items.invariant.passed) (sym end);
      bound = omega (arith, later, c.items.invariant.bound);
    }

pub items-smaller : goal.items-smaller
items-smaller c =
    let item = rw (c.in-Some.is, c.items.invariant.moved) at c.in_ok-found.ensures.item in
    let here = item c.items.count c.items.invariant.passed in
    let end = rw c.in-Some.is at c.in_ok-found.ensures.end in
    let later = rw c.in-Some.is at c.in_ok-found.ensures.later in
    omega (arith, later, end, value_within here.found.value)
