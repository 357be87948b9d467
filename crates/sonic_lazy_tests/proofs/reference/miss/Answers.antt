use Rattle.std.proofs.Common.{◌≡◌, ◌-◌, sym, arith}
use Rattle.sonic_text.proofs.Values.{value-longer}
use Rattle.sonic_find.specs.Paths.EvaluatesBy.{leads_nowhere, cut_before}
use Rattle.sonic_lazy_tests.proofs.reference.miss.Goals as goal

pub overflow_sub-last : goal.overflow_sub-last
overflow_sub-last c = omega (arith, value-longer c.in-Ok.ensures.ok)

pub returns-in-Some-clause-fails : goal.returns-in-Some-clause-fails
returns-in-Some-clause-fails c = λ s e rest.
    let reported = rw c.kind_of.ensures at (c.in-Some.ensures.fails (c.in-Ok.end - 1)) in
    let stop : record { place = c.in-Ok.end - 1; code = c.in-Some.code } ≡ s = cc e in
    rw (← stop) (leads_nowhere c.in-Ok.ensures.ok (c.requires.whole c.in-Ok.end c.in-Ok.ensures.ok) (sym reported))

pub returns-in-None-clause-lacks : goal.returns-in-None-clause-lacks
returns-in-None-clause-lacks c = λ q e rest.
    let reported = rw c.kind_of.ensures at (c.in-None.ensures.lacks (c.in-Ok.end - 1)) in
    let place : c.in-Ok.end - 1 ≡ q = cc e in
    rw (← place) (leads_nowhere c.in-Ok.ensures.ok (c.requires.whole c.in-Ok.end c.in-Ok.ensures.ok) (sym reported))

pub returns-in-Err-At-clause-cut : goal.returns-in-Err-At-clause-cut
returns-in-Err-At-clause-cut c = λ s e rest.
    let stop : c.in-Err-At.stop ≡ s = cc e in
    rw (← stop) (cut_before (rw c.in-Err-At.field-0-is at c.in-Err-At.ensures.err) c.requires.nowhere)
