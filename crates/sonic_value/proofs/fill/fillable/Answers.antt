use Rattle.std.proofs.Common.{refl}
use Rattle.sonic_text.specs.declared.kind.Kind.TheVariants.{Object}
use Rattle.sonic_value.specs.Schemas.{no_object_met}
use Rattle.sonic_value.proofs.fill.fillable.Goals as goal

pub returns-in-None-clause-none : goal.returns-in-None-clause-none
returns-in-None-clause-none c = λ none. no_object_met (c.in-None.ensures.none refl Object)
