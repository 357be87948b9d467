use Rattle.std.proofs.Common.{◌≡◌, ◌∙◌, ap, arith, refl}
use Rattle.sonic_text.specs.Strings.{strict}
use Rattle.sonic_text.proofs.Values.{value-longer}
use Rattle.sonic_parser.specs.declared.descent.Step.TheVariants.{Passed, Entered}
use Rattle.sonic_parser.specs.Descents.{IsDescentStep}
use Rattle.sonic_patch.specs.Internal.Tags.{leaf_tag, begin_tag}
use Rattle.sonic_patch.proofs.WalkLemmas.{means_renamed, value_entered, value_passed}
use Rattle.sonic_patch.proofs.walk.Walk.item.Goals as goal

pub returns-in-Entered-clause-event : goal.returns-in-Entered-clause-event
returns-in-Entered-clause-event c = λ s rest x.
    let head = c.in_ok-key.ensures.ok s rest x in
    let step : IsDescentStep c.pass_key.new.walk c.value.new.self (Entered c.in-Entered.kind) = rw c.in-Entered.is at c.in_ok-kind.ensures.ok in
    let before : c.pass_key.new.walk.lossy ≡ strict = ap (λ w. w.lossy) c.in_ok-key.ensures.moved ∙ s in
    let now : c.value.new.self.lossy ≡ strict = ap (λ w. w.lossy) c.in_ok-kind.ensures.moved ∙ before in
    let entered = value_entered before head.2 c.in_ok-kind.ensures.moved step in
    record {
      tag = begin_tag head.0 c.in-Entered.kind;
      others = entered.others;
      are = entered.are;
      tells = (head.1, refl);
      remain = (now, entered.remain);
    }

pub returns-in-Passed-clause-event : goal.returns-in-Passed-clause-event
returns-in-Passed-clause-event c = λ s rest x.
    let head = c.in_ok-key.ensures.ok s rest x in
    let step : IsDescentStep c.pass_key.new.walk c.value.new.self Passed = rw c.in-Passed.is at c.in_ok-kind.ensures.ok in
    let before : c.pass_key.new.walk.lossy ≡ strict = ap (λ w. w.lossy) c.in_ok-key.ensures.moved ∙ s in
    let now : c.value.new.self.lossy ≡ strict = ap (λ w. w.lossy) c.in_ok-kind.ensures.moved ∙ before in
    let passed = value_passed before head.2 c.in_ok-kind.ensures.moved step (c.in_ok-kind.ensures.parts c.in-Passed.is) in
    let text : c.text.result.now ≡ c.pass_key.new.walk.text = c.text.ensures ∙ ap (λ w. w.text) c.in_ok-kind.ensures.moved in
    let means = means_renamed text c.offset-start.ensures.place c.offset-end.ensures.place passed.means in
    let leaf = c.leaf_at.ensures passed.tree means passed.is_bare in
    record {
      tag = leaf_tag head.0 passed.tree;
      others = passed.others;
      are = passed.are;
      tells = (head.1, leaf);
      remain = (now, passed.remain);
    }

pub returns-in-Passed-clause-later : goal.returns-in-Passed-clause-later
returns-in-Passed-clause-later c =
    let step : IsDescentStep c.pass_key.new.walk c.value.new.self Passed = rw c.in-Passed.is at c.in_ok-kind.ensures.ok in
    let longer = value-longer step.1 in
    omega (arith, c.in_ok-key.ensures.later)

pub leaf_at-requires-clause-order : goal.leaf_at-requires-clause-order
leaf_at-requires-clause-order c =
    let step : IsDescentStep c.pass_key.new.walk c.value.new.self Passed = rw c.in-Passed.is at c.in_ok-kind.ensures.ok in
    let longer = value-longer step.1 in
    omega (arith, c.offset-start.ensures.place, c.offset-end.ensures.place)
