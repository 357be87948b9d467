use Rattle.std.proofs.Common.{refl}
use Rattle.std.proofs.lemmas.Bool.{false≢true}
use Rattle.sonic_value.proofs.UnfilledLemmas.{object_scalar}
use Rattle.sonic_value.proofs.schema.fill_document.Goals as goal
use Rattle.sonic_value.specs.Schemas.{no_object}
use Rattle.sonic_value.specs.Views.{tree}

pub returns-then-not-is_object-clause-err : goal.returns-then-not-is_object-clause-err
returns-then-not-is_object-clause-err c = no_object (λ o. false≢true (c.if-not-is_object.ensures.1 (object_scalar (tree c.args.schema) o))) refl
