use Rattle.std.proofs.Common.{◌≡◌, refl}
use Rattle.sonic_patch.proofs.SameLemmas.{same_self}
use Rattle.sonic_patch.proofs.ShapeLemmas.{decided, mark_still}
use Rattle.sonic_patch.proofs.compared.decide.Goals as goal

pub returns-then-branch : goal.returns-then-branch
returns-then-branch c = λ x y m n.
    let one : x ≡ y = c.in_ok-in_order.ensures c.if-branch.true x y m n in
    ((λ yes. rw one (same_self y)), (λ e. refl))

pub returns : goal.returns
returns c = λ x y m n.
    decided c.in_ok-other.ensures.kept (mark_still c.in_ok-other.ensures.more (c.in_ok-one.ensures.mark x m)) (c.in_ok-other.ensures.mark y n)
