use Rattle.sonic_patch.proofs.StackLemmas.{begin_taken, leaf_taken}
use Rattle.sonic_patch.proofs.marks.take_in.Goals as goal

pub returns-in_ok-push-in-Leaf-clause-slots : goal.returns-in_ok-push-in-Leaf-clause-slots
returns-in_ok-push-in-Leaf-clause-slots c = λ tag t cells s.
    let label = c.in_ok-label-in-Leaf.ensures in
    let mark = c.in_ok-mark-in-Leaf.ensures in
    rw c.in_ok-push-in-Leaf.ensures.items
    (leaf_taken c.in_ok-shape-in-Leaf.shape c.in-Leaf.is label.more mark.more label.mark c.in_ok-shape-in-Leaf.ensures mark.number s tag t)

pub returns-in_ok-push-in-Begin-clause-slots : goal.returns-in_ok-push-in-Begin-clause-slots
returns-in_ok-push-in-Begin-clause-slots c = λ tag t cells s.
    let label = c.in_ok-label-in-Begin.ensures in
    rw c.in_ok-push-in-Begin.ensures.items (begin_taken c.in-Begin.is label.more label.mark s tag t)
