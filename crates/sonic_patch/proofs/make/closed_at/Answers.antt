use Rattle.sonic_owned.proofs.ValueLemmas.{value_sound}
use Rattle.sonic_owned.specs.Seen.{view_form}
use Rattle.sonic_patch.proofs.StepLemmas.{points_by}
use Rattle.sonic_patch.proofs.make.closed_at.Goals as goal

pub returns-clause-found : goal.returns-clause-found
returns-clause-found c =
    let led = rw (c.in-Some.is, c.as_slice.ensures.value) at c.in_ok-led.ensures.some in
    (view_form c.in-Some.led.part, points_by (value_sound c.args.value.now) led.path led.leads, c.in_ok-made.ensures)
