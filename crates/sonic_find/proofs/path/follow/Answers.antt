use Rattle.sonic_find.proofs.path.follow.Goals as goal
use Rattle.std.proofs.Common.{◌≡◌}
use Rattle.std.proofs.lemmas.List.{at_drop_more}
use Rattle.std.proofs.lemmas.Result.{err_from_is_err_and}
use Rattle.sonic_find.proofs.GetLemmas.{no_node, rest_stopped, leads_whole}
use Rattle.sonic_find.specs.Paths.EvaluatesBy.{goes_on}
use Rattle.sonic_parser.proofs.FaultLemmas.{stop_weaker}
use Rattle.sonic_pointer.specs.Nodes.{path_of}

pub returns-in_err-lead_on-clause-err : goal.returns-in_err-lead_on-clause-err
returns-in_err-lead_on-clause-err c =
    let p = err_from_is_err_and c.from_residual.result c.from_residual.ensures.1 in
    let more = at_drop_more path_of c.args.path.now c.loop-node.node-index no_node c.loop-node-test.true in
    let up = rw more at c.loop-node.invariant.rest in
    let dead = rw c.loop-node.invariant.moved at c.in_err-lead_on.ensures.err in
    rw (p.1, p.2) (stop_weaker c.in_err-lead_on.field-0.0 (λ s f. rest_stopped up (f _)) dead)

pub returns-then-not-branch-clause-lacks : goal.returns-then-not-branch-clause-lacks
returns-then-not-branch-clause-lacks c = λ e.
    let more = at_drop_more path_of c.args.path.now c.loop-node.node-index no_node c.loop-node-test.true in
    let up = rw more at c.loop-node.invariant.rest in
    let lacks = rw c.loop-node.invariant.moved at (c.in_ok-lead_on.ensures.lacks c.if-not-branch.true) in
    (lacks.0, up _ (lacks.1 _))

pub loop-node-preserved : goal.loop-node-preserved
loop-node-preserved c =
    let more = at_drop_more path_of c.args.path.now c.loop-node.node-index no_node c.loop-node-test.true in
    let up = rw more at c.loop-node.invariant.rest in
    let moved : c.lead_on.new.cursor ≡ record c.args.cursor.now { place = c.lead_on.new.cursor.place } = rw c.loop-node.invariant.moved at c.in_ok-lead_on.ensures.moved in
    let leads = rw c.loop-node.invariant.moved at (c.in_ok-lead_on.ensures.leads c.if-not-branch.false) in
    let skippable = rw c.loop-node.invariant.moved at c.loop-node.invariant.skippable in
    record { moved = moved; skippable = rw moved (λ e. leads_whole leads (skippable e)); rest = λ o e. up o (goes_on leads e) }
