use Rattle.std.proofs.Common.{rules}
use Rattle.std.proofs.lemmas.Result.{IfOk-weaker}
use Rattle.sonic_patch.proofs.WordLemmas.{begins_told, leaves_told}
use Rattle.sonic_patch.proofs.in_order.same_events.Goals as goal

pub returns-in_ok-same_leaves-in-Leaf-Leaf : goal.returns-in_ok-same_leaves-in-Leaf-Leaf
returns-in_ok-same_leaves-in-Leaf-Leaf c = λ yes.
    leaves_told c.in-Leaf-Leaf.is-0 c.in-Leaf-Leaf.is-1 (c.in_ok-same_keys-in-Leaf-Leaf.ensures c.if-branch.true) (c.in_ok-same_leaves-in-Leaf-Leaf.ensures yes)

pub returns-in-Begin-Begin : goal.returns-in-Begin-Begin
returns-in-Begin-Begin c =
    IfOk-weaker c.same_keys-in-Begin-Begin.result _ _ (λ same h yes. begins_told c.in-Begin-Begin.is-0 c.in-Begin-Begin.is-1 (search rules) (h yes)) c.same_keys-in-Begin-Begin.ensures
