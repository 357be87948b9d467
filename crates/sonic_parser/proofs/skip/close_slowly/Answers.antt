use Rattle.sonic_parser.proofs.skip.close_slowly.Goals as goal

pub returns-in-Ended-clause-err : goal.returns-in-Ended-clause-err
returns-in-Ended-clause-err c = λ root start.
    let reached = rw c.in-Ended.is at (c.in_ok-next.ensures.ok root (c.items.invariant.reached root start)) in
    (rw c.deref.ensures.value at c.separator_stop.ensures) c.args.lossy root reached

pub returns-in-Closed-clause-ok : goal.returns-in-Closed-clause-ok
returns-in-Closed-clause-ok c = λ root start.
    (rw c.in-Closed.is at (c.in_ok-next.ensures.ok root (c.items.invariant.reached root start))).1
