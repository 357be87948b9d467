use Rattle.std.proofs.Common.{List, subst}
use Rattle.sonic_patch.specs.Internal.Marks.{Pair}
use Rattle.sonic_patch.specs.Internal.Stacks.{IsShapeOf}
use Rattle.sonic_patch.proofs.StackLemmas.{ended}
use Rattle.sonic_patch.proofs.marks.end.Goals as goal

pub returns-clause-slots : goal.returns-clause-slots
returns-clause-slots c = λ cells s.
    let taken = c.in_ok-label.ensures c.args.numbers.now.given cells s in
    let is : IsShapeOf c.args.kind c.take_open.new.pairs.items c.in_ok-shape.shape =
    subst (λ (ps : List Pair). IsShapeOf c.args.kind ps c.in_ok-shape.shape) c.as_slice.ensures.value c.in_ok-shape.ensures in
    rw c.in_ok-push.ensures.items (ended c.args.kind c.in_ok-shape.shape c.in_ok-mark.ensures.more taken is c.in_ok-mark.ensures.number)
