use Rattle.std.proofs.Common.{rules, arith, ◌≡◌, ◌∙◌, ap, sym, None}
use Rattle.sonic_value.proofs.CloneLemmas.{open_more, open_less, waiting_more, some_left}
use Rattle.sonic_value.specs.Internal.Clones.{made_tree, next_tree, waiting_sizes, IsCopyOpen, IsPutIn}
use Rattle.sonic_value.specs.Internal.Keeping.{kept}
use Rattle.sonic_value.specs.Views.{tree}
use Rattle.sonic_value.proofs.value.copy.copy.Goals as goal

pub items-smaller-in-Some : goal.items-smaller-in-Some
items-smaller-in-Some c =
    let more = ap waiting_sizes c.in_ok-push.ensures.items ∙ waiting_more c.items.opened.items c.copy_scalars.new.self in
    omega (arith, more, c.in_ok-copy_scalars.ensures.less, c.in-Some.ensures.less, c.in_ok-level.ensures.less)

pub items-preserved-in-Some : goal.items-preserved-in-Some
items-preserved-in-Some c =
    let level : IsCopyOpen c.args.utf8 (kept c.args.utf8 (tree c.args.value.now)) c.items.opened.items (made_tree c.args.utf8 c.copy_scalars.new.self) =
    rw c.in_ok-copy_scalars.ensures.same c.items.invariant in
    rw (c.in_ok-push.ensures.items, c.in_ok-level.ensures.same) (open_more _ _ _ c.items.opened.items c.copy_scalars.new.self level (sym c.in-Some.ensures.next))

-- a copy of the next item is put into the container around it
put_next : (c : goal.In_ok-level-2) → IsCopyOpen c.args.utf8 (kept c.args.utf8 (tree c.args.value.now)) c.pop.new.self.items (made_tree c.args.utf8 c.in-Some-pop.outer)
    × IsPutIn c.args.utf8 c.in-Some-pop.outer c.in_ok-level-2.level
put_next c =
    let u = c.args.utf8 in
    let items = rw c.in-Some-pop.is at c.pop.ensures.items in
    let before = open_less u (kept u (tree c.args.value.now)) (made_tree u c.items.level) c.pop.new.self.items c.in-Some-pop.outer (rw items at c.items.invariant) in
    let none : next_tree c.copy_scalars.new.self ≡ None = search rules in
    let made = c.close-made.ensures none u ∙ c.in_ok-copy_scalars.ensures.same ∙ sym before.1.2 in
    (before.0, c.in_ok-level-2.ensures before.1.0 before.1.1 made)

pub items-smaller : goal.items-smaller
items-smaller c =
    let more = ap waiting_sizes (rw c.in-Some-pop.is at c.pop.ensures.items) ∙ waiting_more c.pop.new.self.items c.in-Some-pop.outer in
    omega (arith, more, (put_next c).1.less, some_left c.items.level)

pub items-preserved : goal.items-preserved
items-preserved c = let (more, put) = put_next c in rw put.same more
