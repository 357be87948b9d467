use Rattle.std.proofs.Common.{◌≡◌}
use Rattle.sonic_find.specs.Paths.EvaluatesBy.{found_here, cut_here}
use Rattle.sonic_lazy_tests.proofs.reference.value_here.Goals as goal

pub returns-in-Ok-clause-found : goal.returns-in-Ok-clause-found
returns-in-Ok-clause-found c = λ i j e rule.
    let start : c.args.place ≡ i = cc e in
    let end : c.in-Ok.end ≡ j = cc e in
    rw (← start, ← end) (found_here c.in-Ok.ensures.ok)

pub returns-in-Err-At-clause-cut : goal.returns-in-Err-At-clause-cut
returns-in-Err-At-clause-cut c = λ s e rule.
    let stop : c.in-Err-At.stop ≡ s = cc e in
    rw (← stop) (cut_here (rw c.in-Err-At.field-0-is at c.in-Err-At.ensures.err))
