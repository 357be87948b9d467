use Rattle.sonic_find.proofs.each.tell_all.Goals as goal
use Rattle.std.proofs.Common.{◌≡◌, ◌∙◌, ◌<◌, sym, inl, inr, length, arith}
use Rattle.std.proofs.lemmas.Bool.{cases_order}
use Rattle.std.proofs.lemmas.List.{length-set}
use Rattle.std.proofs.lemmas.Option.{slice_get_within, get_or_from_slice_get, same_Some}
use Rattle.std.specs.Prelude.{Some, slice_get}
use Rattle.sonic_find.proofs.WalkLemmas.List.{set_here, set_elsewhere}

pub loop-i-preserved : goal.loop-i-preserved
loop-i-preserved g c =
    let slots = c.loop-i.slots in
    let i = c.loop-i.i in
    record {
      long = length-set slots i c.tell.result ∙ c.loop-i.invariant.long;
      done = λ k x y l was now. elim (cases_order k i) [
        | inl same ↦
            let here : slice_get slots i ≡ Some x = rw same at (c.loop-i.invariant.rest k (omega (arith, same)) ∙ was) in
            let old = c.index-slots-i.is ∙ get_or_from_slice_get slots i x c.index-slots-i.result here in
            let within : i < length slots = omega (arith, c.loop-i-test.true, c.loop-i.invariant.long) in
            let new : c.tell.result ≡ y = same_Some c.tell.result y (sym (set_here slots i c.tell.result within) ∙ rw same at now) in
            rw (old, new) at c.tell.ensures
        | inr (inl less) ↦ c.loop-i.invariant.done k x y less was (sym (set_elsewhere slots i k c.tell.result (λ e. omega (arith, e, less))) ∙ now)
        | inr (inr more) ↦ absurd (omega (arith, l, more))
      ];
      rest = λ k later. set_elsewhere slots i k c.tell.result (λ e. omega (arith, e, later)) ∙ c.loop-i.invariant.rest k (omega (arith, later));
    }

pub returns : goal.returns
returns g c = record {
  long = c.loop-i.invariant.long;
  each = λ k x y was now.
      c.loop-i.invariant.done k x y (omega (arith, slice_get_within c.args.slots.now k x was, c.loop-i-test.false)) was now;
}
