use Rattle.std.proofs.Common.{rules, refl, ◌≡◌, Err}
use Rattle.sonic_examples.proofs.ElementLemmas.{none_first, one_more_first, all_first, error_after, plain_only}
use Rattle.sonic_examples.proofs.items.elements.Goals as goal

pub elements-init : goal.elements-init
elements-init c = record {
  going = rw c.to_array_iter-elements.ensures refl;
  first = rw (c.to_array_iter-elements.ensures, c.new-values.ensures.items) none_first;
}

pub elements-preserved : goal.elements-preserved
elements-preserved c =
    let given = rw c.in_ok-element.was at c.in-Some.ensures.next.item in
    let shown = rw c.elements.invariant.going at given.shown in
    record {
      going = rw (given.moved, c.elements.invariant.going) refl;
      first = rw (given.moved, c.in-Ok.ensures.items) (one_more_first c.elements.values.items c.elements.invariant.first shown);
    }

pub returns-in_err-element-clause-err : goal.returns-in_err-element-clause-err
returns-in_err-element-clause-err c =
    let stuck = rw c.in_err-element.was at c.in-Some.ensures.next.error in
    let error = error_after c.elements.invariant.going c.elements.invariant.first stuck.error in
    let returned : c.from_residual.result ≡ Err c.in_err-element.field-0.0 = search rules in
    rw returned error

pub returns-in_err-element-clause-complete : goal.returns-in_err-element-clause-complete
returns-in_err-element-clause-complete c closes =
    let stuck = rw c.in_err-element.was at c.in-Some.ensures.next.error in
    let plain = plain_only closes (error_after c.elements.invariant.going c.elements.invariant.first stuck.error) in
    search rules

pub returns-clause-ok : goal.returns-clause-ok
returns-clause-ok c = all_first c.elements.invariant.going c.elements.invariant.first c.in_default.ensures.next.none
