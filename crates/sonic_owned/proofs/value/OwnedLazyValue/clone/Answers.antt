use Rattle.std.proofs.Common.{rules, arith, ◌≡◌, ap, sym, ◌∙◌, ◌++◌, ◌∷◌, [], Some, None}
use Rattle.sonic_owned.proofs.CopyLemmas.{open_more, open_less, pushed, waiting_more, some_copying}
use Rattle.sonic_owned.specs.Internal.Copies.{copied_form, waiting_bulks, AreOpen}
use Rattle.sonic_owned.specs.Views.{form}
use Rattle.sonic_owned.proofs.value.OwnedLazyValue.clone.Goals as goal

-- a level waits
waits : (c : goal.In_ok-or) → c.push.new.self.items ≡ c.levels.opened.items ++ c.next.new.self ∷ []
waits c = rw (pushed c.push.result _ _ (sym c.or.ensures ∙ c.in_ok-or.was)) at c.push.ensures.items

pub levels-smaller-in-Some : goal.levels-smaller-in-Some
levels-smaller-in-Some c =
    let more = ap waiting_bulks (waits c) ∙ waiting_more c.levels.opened.items c.next.new.self in
    let less = rw c.in-Some.is at c.in_ok-inner.ensures.less in
    omega (arith, more, less)

pub levels-preserved-in-Some : goal.levels-preserved-in-Some
levels-preserved-in-Some c =
    let level : AreOpen (form c.args.self.now) c.levels.opened.items (copied_form c.next.new.self) = rw c.in_ok-inner.ensures.same c.levels.invariant in
    let next = rw c.in-Some.is at c.in_ok-inner.ensures.next in
    rw (waits c) (open_more _ _ c.levels.opened.items c.next.new.self level (sym next))

-- a level is whole, and a copy of it is next in the one around it
pub put-requires : goal.put-requires
put-requires c =
    let items = rw c.in-Some-pop.is at c.pop.ensures.items in
    let (more, next) = open_less (form c.args.self.now) (copied_form c.levels.level) c.pop.new.self.items c.in-Some-pop.outer (rw items at c.levels.invariant) in
    let end : c.in_ok-inner.field-0 ≡ None = search rules in
    let made = c.close-made.ensures (sym (rw end at c.in_ok-inner.ensures.next)) ∙ c.in_ok-inner.ensures.same in
    next ∙ ap (λ x. Some x) (sym made)

pub levels-smaller : goal.levels-smaller
levels-smaller c =
    let more = ap waiting_bulks (rw c.in-Some-pop.is at c.pop.ensures.items) ∙ waiting_more c.pop.new.self.items c.in-Some-pop.outer in
    omega (arith, more, c.in_ok-put.ensures.less, some_copying c.levels.level)

pub levels-preserved : goal.levels-preserved
levels-preserved c =
    let items = rw c.in-Some-pop.is at c.pop.ensures.items in
    let (more, next) = open_less (form c.args.self.now) (copied_form c.levels.level) c.pop.new.self.items c.in-Some-pop.outer (rw items at c.levels.invariant) in
    rw c.in_ok-put.ensures.same more
