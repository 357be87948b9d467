use Rattle.std.proofs.Common.{◌≡◌, arith, length}
use Rattle.std.proofs.lemmas.List.{nil_from_length}
use Rattle.std.proofs.lemmas.Result.{err_from_is_err_and}
use Rattle.sonic_text.proofs.Places.{after_space_later}
use Rattle.sonic_value.proofs.Folds.{tree_object}
use Rattle.sonic_value.proofs.OpenLemmas.{ended_stops, ended_goes_on, ended_whole, ended_level}
use Rattle.sonic_value.proofs.ReaderLemmas.{same_source}
use Rattle.sonic_value.proofs.fill.leave.Goals as goal
use Rattle.sonic_value.specs.declared.value.Value.{Object}

pub returns-in_err-next_item-clause-err : goal.returns-in_err-next_item-clause-err
returns-in_err-next_item-clause-err c =
    let p = err_from_is_err_and c.from_residual.result c.from_residual.ensures.1 in
    let source : c.levels.reader.source ≡ c.args.reader.now.source = same_source c.levels.invariant.kept in
    let fault = rw source at c.in_err-next_item.ensures.err in
    rw (p.1, p.2) (λ depth_left schema i m. ended_stops (c.levels.invariant.ended depth_left schema i m) _ fault)

pub returns-then-branch-clause-ok : goal.returns-then-branch-clause-ok
returns-then-branch-clause-ok c = λ depth_left schema i m.
    let source : c.levels.reader.source ≡ c.args.reader.now.source = same_source c.levels.invariant.kept in
    let comma = rw source at (c.in_ok-next_item.ensures.item c.if-branch.true) in
    ended_goes_on (c.levels.invariant.ended depth_left schema i m) comma

pub levels-preserved : goal.levels-preserved
levels-preserved c =
    let source : c.levels.reader.source ≡ c.args.reader.now.source = same_source c.levels.invariant.kept in
    let end = rw source at (c.in_ok-next_item.ensures.end c.if-branch.false) in
    let items = rw c.in-Some.is at c.pop.ensures.items in
    record {
      kept = rw source at c.in_ok-next_item.ensures.moved;
      later = omega (arith, c.levels.invariant.later, end.1, after_space_later c.args.reader.now.source.text c.levels.reader.place);
      ended = λ depth_left schema i m. ended_level (c.levels.invariant.ended depth_left schema i m) (Object c.levels.members) (tree_object c.levels.members) items end c.put-members.ensures;
    }

pub returns-in-None-clause-ok : goal.returns-in-None-clause-ok
returns-in-None-clause-ok c = λ depth_left schema i m.
    let source : c.levels.reader.source ≡ c.args.reader.now.source = same_source c.levels.invariant.kept in
    let end = rw source at (c.in_ok-next_item.ensures.end c.if-branch.false) in
    let cases = rw c.in-None.is at c.pop.ensures.cases in
    let none : length c.levels.opened.items ≡ 0 = omega (arith, c.levels.opened.ok.0, cases.0) in
    rw (tree_object c.levels.members) (ended_whole (c.levels.invariant.ended depth_left schema i m) (nil_from_length c.levels.opened.items none) end)
