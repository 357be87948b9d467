use Rattle.std.proofs.Common.{◌≡◌, ◌-◌, ◌+◌, length, ap, ◌∙◌, inl, inr, arith}
use Rattle.std.proofs.lemmas.List.{length-map}
use Rattle.sonic_pointer.specs.Nodes.{owned_node}
use Rattle.sonic_pointer.specs.Internal.Tries.{parent_of}
use Rattle.sonic_pointer.proofs.ChainLemmas.{grown_skip, grown_next, next_inside, next_rest, next_node, parent_more}
use Rattle.sonic_pointer.proofs.insert.push_chain.Goals.{then-above-len, else-above-len}
use Rattle.sonic_pointer.proofs.insert.push_chain.Goals as goal

pub nodes-preserved-then-above-point : goal.nodes-preserved-then-above-point
nodes-preserved-then-above-point c =
    let i = c.nodes.invariant in
    let low = c.if-above-point.true in
    let inside = next_inside c.args.nodes.items _ _ c.nodes.above c.in-Some.node i.rest c.in-Some.ensures.steps.0 in
    let none : c.nodes.above - c.args.point.depth ≡ c.nodes.above + 1 - c.args.point.depth = omega arith in
    record {
      rest = next_rest c.args.nodes.items _ _ c.nodes.above c.in-Some.node i.rest c.in-Some.ensures.steps.0;
      within = omega arith;
      grown = grown_skip i.grown low;
      parent = i.parent ∙ ap (parent_of c.args.point.at (length c.args.vertices.now.items + 1)) none;
      room = i.room;
    }

pub nodes-preserved : goal.nodes-preserved
nodes-preserved c =
    let i = c.nodes.invariant in
    let high = c.if-above-point.false in
    let inside = next_inside c.args.nodes.items _ _ c.nodes.above c.in-Some.node i.rest c.in-Some.ensures.steps.0 in
    let many = length-map c.args.nodes.items owned_node in
    let long = i.grown.long in
    let own = c.len-own.ensures in
    let all = c.len-len.ensures in
    record {
      rest = next_rest c.args.nodes.items _ _ c.nodes.above c.in-Some.node i.rest c.in-Some.ensures.steps.0;
      within = omega arith;
      grown = rw c.push_reserved.ensures.items (grown_next i.grown c.if-above-len.vertex c.nodes.parent (owned_node c.in-Some.node) (c.len-own.result + 1 + 1) (omega arith) (omega arith) i.parent
          (next_node c.args.nodes.items _ _ c.nodes.above c.in-Some.node i.rest c.in-Some.ensures.steps.0) (omega arith)
          (elim c.if-above-len.branch [
            | then-above-len w ↦ inl (let a = w.if-above-len.true in omega arith, w.vertex-is ∙ w.with_child-vertex.ensures)
            | else-above-len w ↦ inr (let a = w.if-above-len.false in omega arith, w.vertex-is ∙ w.with_order-vertex.ensures)
          ]));
      parent = parent_more c.args.point.at (length c.args.vertices.now.items + 1) (c.nodes.above + 1 - c.args.point.depth) (c.nodes.above - c.args.point.depth) (c.len-own.result + 1) (omega arith) (omega arith);
      room = let a = c.push_reserved.ensures.capacity in let b = i.room in omega arith;
    }
