use Rattle.std.proofs.Common.{refl}
use Rattle.std.proofs.lemmas.Bool.{false≢true}
use Rattle.sonic_c.proofs.FillLemmas.{unread_told}
use Rattle.sonic_c.proofs.fill.schema_of.Goals as goal
use Rattle.sonic_c.specs.Fills.{not_object}
use Rattle.sonic_c.specs.Internal.Texts.{refuses}
use Rattle.sonic_value.proofs.UnfilledLemmas.{object_scalar}
use Rattle.sonic_value.specs.Schemas.{IsObject}
use Rattle.sonic_value.specs.Views.{tree}

pub returns-in-Err-clause-refused : goal.returns-in-Err-clause-refused
returns-in-Err-clause-refused c = unread_told c.in-Err.ensures.err c.tell_as.ensures

pub returns-then-not-is_object-clause-refused : goal.returns-then-not-is_object-clause-refused
returns-then-not-is_object-clause-refused c =
    let other : IsObject (tree c.in-Ok.schema) → ⊥ = λ o. false≢true (c.if-not-is_object.ensures.1 (object_scalar (tree c.in-Ok.schema) o)) in
    refuses (not_object (tree c.in-Ok.schema) c.in-Ok.ensures.ok other refl c.at_line.ensures)
