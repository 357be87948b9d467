use Rattle.std.proofs.Common.{ap, arith, refl, ◌≡◌, ◌+◌, length, length-append, ◌∷◌, []}
use Rattle.std.proofs.lemmas.Result.{err_from_is_err_and}
use Rattle.std.proofs.lemmas.List.{map-append}
use Rattle.sonic_patch.proofs.ElementLemmas.{none_first, element_first, all_first, fault_first}
use Rattle.sonic_patch.proofs.RefusalLemmas.{refuses_weaker}
use Rattle.sonic_patch.proofs.read.read_elements.Goals as goal
use Rattle.sonic_patch.specs.Internal.Elements.{IsFaultIn, IsFaultOf}
use Rattle.sonic_lazy.specs.Iterators.{IteratorState}
use Rattle.sonic_lazy.specs.LazyValues.{raw_bytes}
use Rattle.sonic_patch.specs.Views.{operation_of}

pub elements-init : goal.elements-init
elements-init c =
    let zero = ap (λ (it : IteratorState). it.given) c.requires.fresh in
    record {
      going = rw c.requires.fresh refl;
      first = rw (zero, c.new-operations.ensures.items) none_first;
      count = rw (zero, c.new-operations.ensures.items) refl;
    }

pub returns-in_err-operation-clause-err : goal.returns-in_err-operation-clause-err
returns-in_err-operation-clause-err c =
    let given = rw c.in-Ok.is at c.in-Some.ensures.next.item in
    let shown = rw c.elements.invariant.going at given.shown in
    let p = err_from_is_err_and c.from_residual.result c.from_residual.ensures.1 in
    rw (p.1, p.2) (refuses_weaker {At = IsFaultOf c.len.result (raw_bytes c.in-Ok.element)} {By = IsFaultIn c.args.elements.text} _ (λ n fault h.
    let number : n ≡ c.elements.elements.given = omega (arith, h.0, c.len.ensures, c.elements.invariant.count) in
    rw number (fault_first c.requires.starts c.elements.invariant.first shown h.1)) c.in_err-operation.ensures.err)

pub elements-preserved : goal.elements-preserved
elements-preserved c =
    let given = rw c.in-Ok.is at c.in-Some.ensures.next.item in
    let shown = rw c.elements.invariant.going at given.shown in
    let items = c.elements.operations.items in
    let op = c.in_ok-operation.operation in
    let count : length c.push.new.self.items ≡ c.elements.elements.given + 1 =
    omega (arith, ap length c.in-Ok-push.ensures.items, length-append items (op ∷ []), c.elements.invariant.count) in
    record {
      going = rw (given.moved, c.elements.invariant.going) refl;
      first = rw (given.moved, c.in-Ok-push.ensures.items, map-append operation_of items (op ∷ [])) (element_first c.elements.invariant.first shown c.in_ok-operation.ensures.ok);
      count = rw given.moved count;
    }

pub returns-clause-ok : goal.returns-clause-ok
returns-clause-ok c = all_first c.elements.invariant.going c.elements.invariant.first c.in_default.ensures.next.none
