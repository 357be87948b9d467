use Rattle.sonic_c.proofs.ContainerLemmas.{reach_first, closed_first, reach_next, closed_next, stopped_next, separator_within}
use Rattle.sonic_c.proofs.walk.go_on.Goals as goal
use Rattle.sonic_find.proofs.WalkLemmas.Step.{separated_later}
use Rattle.sonic_text.proofs.Values.{items-later}

pub returns-then-first-clause-item : goal.returns-then-first-clause-item
returns-then-first-clause-item c = λ more n passed. reach_first c.if-first.true passed (c.enter.ensures.item more)

pub returns-then-first-clause-closed : goal.returns-then-first-clause-closed
returns-then-first-clause-closed c = λ none n passed. closed_first c.if-first.true passed (c.enter.ensures.empty none)

pub returns-then-first-clause-later : goal.returns-then-first-clause-later
returns-then-first-clause-later c = λ more. items-later (c.enter.ensures.item more)

pub returns-in-Ok-clause-item : goal.returns-in-Ok-clause-item
returns-in-Ok-clause-item c = λ more n passed. reach_next c.if-first.false passed (c.in-Ok.ensures.item more)

pub returns-in-Ok-clause-closed : goal.returns-in-Ok-clause-closed
returns-in-Ok-clause-closed c = λ none n passed. closed_next c.if-first.false passed (c.in-Ok.ensures.end none)

pub returns-in-Ok-clause-later : goal.returns-in-Ok-clause-later
returns-in-Ok-clause-later c = λ more. (separated_later c.args.cursor.now.text c.args.cursor.now.place (c.in-Ok.ensures.item more)).0

pub returns-in-Err-clause-err : goal.returns-in-Err-clause-err
returns-in-Err-clause-err c = λ n passed. stopped_next c.if-first.false passed c.in-Err.ensures.err

pub returns-in-Err-clause-stop : goal.returns-in-Err-clause-stop
returns-in-Err-clause-stop c = separator_within c.args.cursor.now.text c.args.kind c.args.cursor.now.place c.in-Err.stop c.in-Err.ensures.err
