use Rattle.std.proofs.Common.{arith}
use Rattle.std.proofs.lemmas.Result.{err_from_is_err_and}
use Rattle.sonic_c.proofs.walk.pass_item.Goals as goal
use Rattle.sonic_parser.proofs.FaultLemmas.{stop_weaker}

pub returns-then-not-branch-clause-closed : goal.returns-then-not-branch-clause-closed
returns-then-not-branch-clause-closed c = λ none n passed. c.in_ok-go_on.ensures.closed c.if-not-branch.true n passed

pub returns-in_err-item-clause-err : goal.returns-in_err-item-clause-err
returns-in_err-item-clause-err c =
    let p = err_from_is_err_and c.from_residual-in_err-item.result c.from_residual-in_err-item.ensures.1 in
    let e = rw c.in_ok-go_on.ensures.moved at c.in_err-item.ensures.err in
    rw (p.1, p.2) (stop_weaker c.in_err-item.field-0.0 (λ s f n passed. f n (c.in_ok-go_on.ensures.item c.if-not-branch.false n passed)) e)

pub returns-in_err-item-clause-stop : goal.returns-in_err-item-clause-stop
returns-in_err-item-clause-stop c =
    let p = err_from_is_err_and c.from_residual-in_err-item.result c.from_residual-in_err-item.ensures.1 in
    rw (p.1, p.2) (rw c.in_ok-go_on.ensures.moved at c.in_err-item.ensures.stop)

pub returns-clause-item : goal.returns-clause-item
returns-clause-item c = λ n passed. record {
  place = c.go_on.new.cursor.place;
  before = c.in_ok-go_on.ensures.item c.if-not-branch.false n passed;
  found = rw c.in_ok-go_on.ensures.moved at c.in_ok-item.ensures.item;
}

pub returns-clause-later : goal.returns-clause-later
returns-clause-later c = omega (arith, c.in_ok-go_on.ensures.later c.if-not-branch.false, c.in_ok-item.ensures.later)
