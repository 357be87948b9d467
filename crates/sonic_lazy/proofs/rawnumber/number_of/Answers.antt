use Rattle.std.proofs.Common.{arith, refl}
use Rattle.std.proofs.lemmas.Result.{err_from_is_err_and}
use Rattle.sonic_lazy.proofs.RawNumberLemmas.{alone_span, alone_quoted, invalid_no_number}
use Rattle.sonic_lazy.specs.RawNumbers.{a_number, a_quoted_number, other_type, other_string}
use Rattle.sonic_lazy.proofs.rawnumber.number_of.Goals as goal

pub returns-in_err-start-clause-err : goal.returns-in_err-start-clause-err
returns-in_err-start-clause-err c =
    let p = err_from_is_err_and c.from_residual.result c.from_residual.ensures.1 in
    rw (p.1, p.2) (invalid_no_number c.args.text.now c.in_err-start.field-0.0 (rw c.unscanned.ensures.text at c.in_err-start.ensures.err))

pub bounds-text-start : goal.bounds-text-start
bounds-text-start c =
    let span = alone_span (rw c.unscanned.ensures.text at c.in_ok-start.ensures.ok) in
    omega (arith, span.0, span.1)

pub slice_bounds-whole_number-count : goal.slice_bounds-whole_number-count
slice_bounds-whole_number-count c =
    let l = alone_quoted (rw c.unscanned.ensures.text at c.in_ok-start.ensures.ok) c.if-first-eq34.true in
    omega (arith, l)

pub slice_bounds-whole_number-start : goal.slice_bounds-whole_number-start
slice_bounds-whole_number-start c =
    let alone = rw c.unscanned.ensures.text at c.in_ok-start.ensures.ok in
    let l = alone_quoted alone c.if-first-eq34.true in
    omega (arith, l, (alone_span alone).1)

pub returns-in-Some-clause-ok : goal.returns-in-Some-clause-ok
returns-in-Some-clause-ok c =
    let alone = rw c.unscanned.ensures.text at c.in_ok-start.ensures.ok in
    let some = c.in-Some.ensures.some in
    a_quoted_number alone c.if-first-eq34.true some.0 some.1

pub returns-in-None-clause-err : goal.returns-in-None-clause-err
returns-in-None-clause-err c =
    let alone = rw c.unscanned.ensures.text at c.in_ok-start.ensures.ok in
    rw c.stop_at.ensures (other_string alone c.if-first-eq34.true (c.in-None.ensures.none refl) refl)

pub slice_bounds-whole_number-count-2 : goal.slice_bounds-whole_number-count-2
slice_bounds-whole_number-count-2 c =
    let l = (alone_span (rw c.unscanned.ensures.text at c.in_ok-start.ensures.ok)).0 in
    omega (arith, l)

pub slice_bounds-whole_number-start-2 : goal.slice_bounds-whole_number-start-2
slice_bounds-whole_number-start-2 c =
    let span = alone_span (rw c.unscanned.ensures.text at c.in_ok-start.ensures.ok) in
    omega (arith, span.0, span.1)

pub overflow_sub-end-in-None-whole_number : goal.overflow_sub-end-in-None-whole_number
overflow_sub-end-in-None-whole_number c =
    let l = (alone_span (rw c.unscanned.ensures.text at c.in_ok-start.ensures.ok)).0 in
    omega (arith, l)

pub returns-in-Some-whole_number-clause-ok : goal.returns-in-Some-whole_number-clause-ok
returns-in-Some-whole_number-clause-ok c =
    let alone = rw c.unscanned.ensures.text at c.in_ok-start.ensures.ok in
    let some = c.in-Some-whole_number.ensures.some in
    a_number alone some.0 some.1

pub returns-in-None-whole_number-clause-err : goal.returns-in-None-whole_number-clause-err
returns-in-None-whole_number-clause-err c =
    let alone = rw c.unscanned.ensures.text at c.in_ok-start.ensures.ok in
    rw (c.stop_at-in-None-whole_number.ensures, c.type_of-found.ensures) (other_type alone c.if-first-eq34.false (c.in-None-whole_number.ensures.none refl) refl)
