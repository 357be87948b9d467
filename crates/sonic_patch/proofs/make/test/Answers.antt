use Rattle.std.proofs.Common.{◌≡◌, ◌∙◌}
use Rattle.sonic_owned.proofs.LedPartLemmas.{leads_sound}
use Rattle.sonic_owned.proofs.ValueLemmas.{value_sound}
use Rattle.sonic_owned.specs.Forms.{text}
use Rattle.sonic_owned.specs.Seen.{view_form}
use Rattle.sonic_owned.specs.Views.{form}
use Rattle.sonic_patch.proofs.StepLemmas.{text_value, points_by, compared_same, compared_other, test_made, test_other}
use Rattle.sonic_patch.proofs.make.test.Goals as goal
use Rattle.sonic_patch.specs.Internal.Resolved.{IsLed}
use Rattle.sonic_patch.specs.Views.{tokens_of}

pub same-requires-clause-left : goal.same-requires-clause-left
same-requires-clause-left c =
    let led : IsLed (tokens_of c.args.path.now) (form c.args.value.now) c.in-Some.led = rw (c.in-Some.is, c.as_slice.ensures.value) at c.in_ok-led.ensures.some in
    text_value (view_form c.in-Some.led.part) c.as_str.result.now (leads_sound led.leads (value_sound c.args.value.now)) (c.as_str.ensures.value ∙ c.in_ok-found.ensures)

pub same-requires-clause-right : goal.same-requires-clause-right
same-requires-clause-right c = text_value (form c.args.wanted.now) c.as_str-2.result.now (value_sound c.args.wanted.now) (c.as_str-2.ensures.value ∙ c.in_ok-other.ensures)

pub returns-then-branch-clause-made : goal.returns-then-branch-clause-made
returns-then-branch-clause-made c =
    let led : IsLed (tokens_of c.args.path.now) (form c.args.value.now) c.in-Some.led = rw (c.in-Some.is, c.as_slice.ensures.value) at c.in_ok-led.ensures.some in
    let found : c.as_str.result.now ≡ text (view_form c.in-Some.led.part) = c.as_str.ensures.value ∙ c.in_ok-found.ensures in
    let other : c.as_str-2.result.now ≡ text (form c.args.wanted.now) = c.as_str-2.ensures.value ∙ c.in_ok-other.ensures in
    test_made (tokens_of c.args.path.now) (value_sound c.args.value.now) (value_sound c.args.wanted.now) (points_by (value_sound c.args.value.now) led.path led.leads)
    (compared_same c.as_str.result.now c.as_str-2.result.now (view_form c.in-Some.led.part) (form c.args.wanted.now) c.in_ok-same.field-0 c.in_ok-same.ensures found other c.if-branch.true)

pub returns-clause-unmade : goal.returns-clause-unmade
returns-clause-unmade c =
    let led : IsLed (tokens_of c.args.path.now) (form c.args.value.now) c.in-Some.led = rw (c.in-Some.is, c.as_slice.ensures.value) at c.in_ok-led.ensures.some in
    let found : c.as_str.result.now ≡ text (view_form c.in-Some.led.part) = c.as_str.ensures.value ∙ c.in_ok-found.ensures in
    let other : c.as_str-2.result.now ≡ text (form c.args.wanted.now) = c.as_str-2.ensures.value ∙ c.in_ok-other.ensures in
    test_other (tokens_of c.args.path.now) (form c.args.value.now) (form c.args.wanted.now) (value_sound c.args.value.now) (value_sound c.args.wanted.now)
    (points_by (value_sound c.args.value.now) led.path led.leads)
    (compared_other c.as_str.result.now c.as_str-2.result.now (view_form c.in-Some.led.part) (form c.args.wanted.now) c.in_ok-same.field-0 c.in_ok-same.ensures found other c.if-branch.false)
