use Rattle.sonic_find.proofs.provisional.follow_whole.Goals as goal
use Rattle.std.proofs.Common.{◌≡◌, ◌∙◌, ap, sym}
use Rattle.std.proofs.lemmas.Result.{err_from_is_err_and}
use Rattle.sonic_find.proofs.MarkLemmas.Collect.{fault_cuts, none_settled, each_settled, noted_stops}
use Rattle.sonic_find.proofs.MarkLemmas.Kept.{mark_one, number_within}
use Rattle.sonic_find.specs.Internal.View.{point_at, marked_at}
use Rattle.sonic_find.specs.declared.marks.Mark.{Mark}
use Rattle.sonic_parser.proofs.FaultLemmas.{stop_weaker}

pub returns-in_err-mark_value-clause-err : goal.returns-in_err-mark_value-clause-err
returns-in_err-mark_value-clause-err c =
    let p = err_from_is_err_and c.from_residual.result c.from_residual.ensures.1 in
    let point = point_at c.args.walk.now c.args.level.now.view.now in
    let level = c.requires.level in
    rw (p.1, p.2)
    (stop_weaker c.in_err-mark_value.field-0.0
    (λ s f. fault_cuts point level.rule level.children c.requires.some (λ i node is. level.kind i node is ∙ c.requires.object) f) c.in_err-mark_value.ensures.err)

pub mark-mark-requires : goal.mark-mark-requires
mark-mark-requires c = number_within c.number.result c.in_ok-mark_value.ensures.marked.are c.number.ensures

pub collect-nearest-requires-clause-says : goal.collect-nearest-requires-clause-says
collect-nearest-requires-clause-says c =
    let x = c.in_ok-mark_value.ensures.marked in
    let one : x.mark ≡ c.mark-mark.result = mark_one x.are x.is record { number = c.number.result; is = c.number.ensures; mark = c.mark-mark.ensures } in
    rw one at x.says

pub collect-nearest-requires-clause-whole : goal.collect-nearest-requires-clause-whole
collect-nearest-requires-clause-whole c =
    let x = c.in_ok-mark_value.ensures.marked in
    let one : x.mark ≡ c.mark-mark.result = mark_one x.are x.is record { number = c.number.result; is = c.number.ensures; mark = c.mark-mark.ensures } in
    rw one at x.whole

pub returns-then-goes_on-clause-settled : goal.returns-then-goes_on-clause-settled
returns-then-goes_on-clause-settled c =
    let each = sym (ap (λ walk. walk.each) c.collect-nearest.ensures.kept) ∙ (sym c.goes_on.ensures ∙ c.if-goes_on.true) in
    rw c.in_ok-mark_value.ensures.moved at (each_settled (marked_at c.mark_value.new.walk c.args.level.now.view.now c.mark-mark.result) each c.collect-nearest.ensures.all)

pub returns-in-None-clause-settled : goal.returns-in-None-clause-settled
returns-in-None-clause-settled c =
    let all = rw c.in-None.is at c.collect-nearest.ensures.all in
    rw c.in_ok-mark_value.ensures.moved at (none_settled (marked_at c.mark_value.new.walk c.args.level.now.view.now c.mark-mark.result) all)

pub returns-in-Some-clause-err : goal.returns-in-Some-clause-err
returns-in-Some-clause-err c =
    let x = c.in_ok-mark_value.ensures.marked in
    let one : x.mark ≡ c.mark-mark.result = mark_one x.are x.is record { number = c.number.result; is = c.number.ensures; mark = c.mark-mark.ensures } in
    let place : c.mark-mark.result.value.start ≡ c.args.walk.now.place = sym (ap (λ (m : Mark). m.value.start) one) ∙ x.begins in
    let fails = rw (c.in_ok-mark_value.ensures.moved, place) at (rw c.in-Some.is at c.collect-nearest.ensures.fails) in
    let all = rw c.in_ok-mark_value.ensures.moved at (rw c.in-Some.is at c.collect-nearest.ensures.all) in
    let stops = rw (c.collect-nearest.ensures.kept, c.in_ok-mark_value.ensures.moved) at (sym c.goes_on.ensures ∙ c.if-goes_on.false) in
    noted_stops (point_at c.args.walk.now c.args.level.now.view.now) stops c.requires.marks.unmixed c.requires.comes fails all
