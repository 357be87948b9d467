use Rattle.std.proofs.Common.{ap, refl}
use Rattle.sonic_lazy.specs.Iterators.{IteratorState}
use Rattle.sonic_owned.proofs.Folds.{elements-roll}
use Rattle.sonic_owned.proofs.OpenLemmas.{none_first, element_first, all_first}
use Rattle.sonic_owned.proofs.value.load.open_elements.Goals as goal

pub elements-init : goal.elements-init
elements-init c =
    let zero = ap (λ (it : IteratorState). it.given) c.requires in
    record { going = rw c.requires refl; first = rw (zero, c.new-elements.ensures.items) none_first }

pub elements-preserved : goal.elements-preserved
elements-preserved c =
    let given = rw c.in-Ok.is at c.in-Some.ensures.next.item in
    let shown = rw c.elements.invariant.going at given.shown in
    record {
      going = rw (given.moved, c.elements.invariant.going) refl;
      first = rw (given.moved, c.in_ok-push.ensures.items) (element_first c.elements.elements.items c.in-Ok-from_lazy.element c.elements.invariant.first shown c.in-Ok-from_lazy.ensures.ok);
    }

pub returns : goal.returns
returns c = rw (elements-roll _) (all_first c.elements.invariant.going c.elements.invariant.first c.in_default.ensures.next.none)
