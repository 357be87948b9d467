use Rattle.std.proofs.Common.{ap, arith, refl}
use Rattle.std.proofs.lemmas.List.{length-map}
use Rattle.sonic_edits.proofs.ElementLemmas.{none_first, element_first, all_first, more_first}
use Rattle.sonic_edits.proofs.elements.first_elements.Goals as goal
use Rattle.sonic_lazy.specs.Iterators.{IteratorState}
use Rattle.sonic_lazy.specs.LazyValues.{raw_bytes}

pub elements-init : goal.elements-init
elements-init c =
    let zero = ap (λ (it : IteratorState). it.given) c.requires in
    record { going = rw c.requires refl; first = rw (zero, c.new-elements.ensures.items) none_first }

pub elements-preserved : goal.elements-preserved
elements-preserved c =
    let given = rw c.in-Ok.is at c.in-Some.ensures.next.item in
    let shown = rw c.elements.invariant.going at given.shown in
    record {
      going = rw (given.moved, c.elements.invariant.going) refl;
      first = rw (given.moved, c.in_ok-push.ensures.items) (element_first c.elements.elements.items c.in-Ok.element c.elements.invariant.first shown);
    }

pub returns-then-len-eq-MAX_ELEMENTS-clause-none : goal.returns-then-len-eq-MAX_ELEMENTS-clause-none
returns-then-len-eq-MAX_ELEMENTS-clause-none c =
    let given = rw c.in-Ok.is at c.in-Some.ensures.next.item in
    let shown = rw c.elements.invariant.going at given.shown in
    λ _ texts all. let more = more_first c.in-Ok.element texts c.elements.invariant.first shown all in
    omega (arith, more, length-map c.elements.elements.items raw_bytes, c.if-len-eq-MAX_ELEMENTS.true, c.len.ensures)

pub returns-clause-some : goal.returns-clause-some
returns-clause-some c = all_first c.elements.invariant.going c.elements.invariant.first c.in_default.ensures.next.none
