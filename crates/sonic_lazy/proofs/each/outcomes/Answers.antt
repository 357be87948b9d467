use Rattle.std.proofs.Common.{◌∙◌, ap, refl, false}
use Rattle.std.proofs.lemmas.List.{take_more, map-append}
use Rattle.std.proofs.lemmas.Option.{slice_get-get_or}
use Rattle.std.specs.Prelude.{Some}
use Rattle.sonic_find.specs.declared.outcome.PathOutcome.{PathOutcome}
use Rattle.sonic_find.specs.declared.outcome.PathOutcome.TheVariants.{Found}
use Rattle.sonic_parser.specs.declared.value_span.ValueSpan.{ValueSpan}
use Rattle.sonic_lazy.proofs.ShownLemmas.{show_more}
use Rattle.sonic_lazy.proofs.each.outcomes.Goals as goal
use Rattle.sonic_lazy.specs.Shown.{no_more_outcomes}

pub loop-slot-init : goal.loop-slot-init
loop-slot-init g c = rw c.in_ok-outcomes.ensures.items no_more_outcomes

pub outcome_at-requires : goal.outcome_at-requires
outcome_at-requires g c κs =
    let first : PathOutcome ValueSpan = Found (record { start = 0; end = 0; escaped = false }) in
    let held = slice_get-get_or c.args.found.now c.loop-slot.slot-index first c.loop-slot-test.true in
    ((refl, tt), (λ x e. c.requires.parts c.loop-slot.slot-index x (held ∙ ap Some e), λ x e. c.requires.escaped c.loop-slot.slot-index x (held ∙ ap Some e)))

pub loop-slot-preserved : goal.loop-slot-preserved
loop-slot-preserved g c =
    let first : PathOutcome ValueSpan = Found (record { start = 0; end = 0; escaped = false }) in
    rw (take_more c.args.found.now c.loop-slot.slot-index first c.loop-slot-test.true, map-append, c.in_ok-push.ensures.items)
    (show_more c.loop-slot.invariant c.outcome_at.ensures)
