use Rattle.std.proofs.Common.{◌∙◌, ap, refl, false}
use Rattle.std.proofs.lemmas.Option.{slice_get-get_or}
use Rattle.std.specs.Prelude.{Some}
use Rattle.sonic_find.specs.declared.outcome.PathOutcome.TheVariants.{Found}
use Rattle.sonic_lazy.proofs.many.values.Goals as goal

pub value_at-requires : goal.value_at-requires
value_at-requires g c κs =
    let first = Found (record { start = 0; end = 0; escaped = false }) in
    let held = slice_get-get_or c.args.found.now c.loop-slot.slot-index first c.loop-slot-test.true in
    ((refl, tt), (λ x e. c.requires.parts c.loop-slot.slot-index x (held ∙ ap Some e), λ x e. c.requires.escaped c.loop-slot.slot-index x (held ∙ ap Some e)))
