use Rattle.std.proofs.Common.{ap, refl, ◌∙◌}
use Rattle.sonic_lazy.specs.Iterators.{IteratorState}
use Rattle.sonic_owned.proofs.Folds.{members-roll}
use Rattle.sonic_owned.proofs.OpenLemmas.{none_first, member_first, all_first}
use Rattle.sonic_owned.proofs.value.load.open_members.Goals as goal

pub members-init : goal.members-init
members-init c =
    let zero = ap (λ (it : IteratorState). it.given) c.requires in
    record { going = rw c.requires refl; first = rw (zero, c.new-members.ensures.items) none_first }

pub members-preserved-in_ok-push : goal.members-preserved-in_ok-push
members-preserved-in_ok-push c =
    let given = rw c.in-Ok.is at c.in-Some.ensures.next.item in
    let shown = rw c.members.invariant.going at given.shown in
    let key = c.in-Ok-new.ensures.ok ∙ c.as_str.ensures.value in
    record {
      going = rw (given.moved, c.members.invariant.going) refl;
      first = rw (given.moved, c.in_ok-push.ensures.items) (member_first c.members.members.items _ c.in-Ok-from_lazy.value c.members.invariant.first shown key c.in-Ok-from_lazy.ensures.ok);
    }

pub members-preserved : goal.members-preserved
members-preserved c =
    let given = rw c.in-Ok.is at c.in-Some.ensures.next.item in
    let shown = rw c.members.invariant.going at given.shown in
    let key = c.in-Ok-new.ensures.ok ∙ c.as_str.ensures.value in
    record {
      going = rw (given.moved, c.members.invariant.going) refl;
      first = rw (given.moved, c.in_ok-push.ensures.items) (member_first c.members.members.items _ c.in-Ok-from_lazy.value c.members.invariant.first shown key c.in-Ok-from_lazy.ensures.ok);
    }

pub returns : goal.returns
returns c = rw (members-roll _) (all_first c.members.invariant.going c.members.invariant.first c.in_default.ensures.next.none)
