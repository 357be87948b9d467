use Rattle.std.proofs.lemmas.List.{at_drop_all, at_drop_more}
use Rattle.std.proofs.lemmas.Option.{slice_get_within}
use Rattle.sonic_pointer.specs.Nodes.{path_of}
use Rattle.sonic_find.proofs.GetLemmas.{no_node}
use Rattle.sonic_index.proofs.PathLemmas.{reached_found, reached_next, reached_none, reached_root}
use Rattle.sonic_index.proofs.index.JsonIndex.find.Goals as goal

pub loop-node-init : goal.loop-node-init
loop-node-init c =
    let v = c.self.inside.cells in
    rw (c.bytes-text.ensures, c.as_slice-cells.ensures.value) (reached_root v.items (path_of c.args.path.now) c.self.invariant.entries c.self.invariant.valid)

pub child-requires-clause-within : goal.child-requires-clause-within
child-requires-clause-within c = slice_get_within c.as_slice-cells.result.now c.loop-node.at c.loop-node.invariant.cell c.loop-node.invariant.read

pub returns-in_err-at-clause-none : goal.returns-in_err-at-clause-none
returns-in_err-at-clause-none c =
    let more = at_drop_more path_of c.args.path.now c.loop-node.node-index no_node c.loop-node-test.true in
    let reached = rw (c.bytes-text.ensures, c.as_slice-cells.ensures.value, more) at c.loop-node.invariant in
    let nowhere = rw (c.bytes-text.ensures, c.as_slice-cells.ensures.value) at c.in_err-at.ensures.none in
    rw (c.from_residual.ensures, ← c.self.view_is) (reached_none c.self.invariant.entries reached nowhere)

pub loop-node-preserved : goal.loop-node-preserved
loop-node-preserved c =
    let more = at_drop_more path_of c.args.path.now c.loop-node.node-index no_node c.loop-node-test.true in
    let reached = rw more at c.loop-node.invariant in
    reached_next reached c.in_ok-at.ensures.some

pub returns-clause-some : goal.returns-clause-some
returns-clause-some c =
    let all = at_drop_all path_of c.args.path.now c.loop-node.node-index c.loop-node-test.false in
    let reached = rw (c.bytes-text.ensures, c.as_slice-cells.ensures.value, all) at c.loop-node.invariant in
    rw (← c.self.view_is) (reached_found c.self.invariant.entries reached)
