use Rattle.std.proofs.Common.{◌≡◌, ◌∙◌, ◌<◌, ap, arith, refl, length, true, false}
use Rattle.sonic_text.specs.Strings.{strict}
use Rattle.sonic_parser.specs.Descents.{IsNextOrClosed}
use Rattle.sonic_patch.specs.Internal.Tags.{end_tag}
use Rattle.sonic_patch.specs.Internal.Walks.{RemainsAfterItem, RemainsFromItem}
use Rattle.sonic_patch.proofs.WalkLemmas.{container_left, item_next}
use Rattle.sonic_patch.proofs.walk.Walk.next.Goals as goal

pub returns-then-not-self-clause-next : goal.returns-then-not-self-clause-next
returns-then-not-self-clause-next c = λ rest r.
    let item : RemainsFromItem c.args.self.now.inner rest = rw c.if-not-self.true at r.1 in
    c.in_ok-item.ensures.event r.0 rest item

pub returns-then-branch-clause-next : goal.returns-then-branch-clause-next
returns-then-branch-clause-next c = λ rest r.
    let some : 0 < length c.args.self.now.inner.opened = omega (arith, c.if-depth-eq0.false, c.depth.ensures) in
    let ended : RemainsAfterItem c.args.self.now.inner rest = rw c.if-not-self.false at r.1 in
    let cursor = c.in_ok-next.ensures.moved in
    let step : IsNextOrClosed c.kind-kind.result c.args.self.now.inner c.next.new.self true = rw c.if-branch.true at c.in_ok-next.ensures.ok in
    let item = item_next c.kind-kind.result some ended cursor step in
    c.in_ok-item-2.ensures.event (ap (λ w. w.lossy) cursor ∙ r.0) rest item

pub returns-clause-next : goal.returns-clause-next
returns-clause-next c = λ rest r.
    let some : 0 < length c.args.self.now.inner.opened = omega (arith, c.if-depth-eq0.false, c.depth.ensures) in
    let ended : RemainsAfterItem c.args.self.now.inner rest = rw c.if-not-self.false at r.1 in
    let cursor = c.in_ok-next.ensures.moved in
    let step : IsNextOrClosed c.kind-kind.result c.args.self.now.inner c.next.new.self false = rw c.if-branch.false at c.in_ok-next.ensures.ok in
    let left = container_left some c.kind-kind.ensures ended cursor step in
    let lossy : c.next.new.self.lossy ≡ strict = ap (λ w. w.lossy) cursor ∙ r.0 in
    record {
      tag = end_tag c.kind-kind.result;
      others = left.others;
      are = left.are;
      tells = refl;
      remain = (lossy, rw c.if-not-self.false left.remain);
    }
