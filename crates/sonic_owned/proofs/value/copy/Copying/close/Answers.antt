use Rattle.std.proofs.Common.{ap, sym, ◌∙◌}
use Rattle.sonic_owned.proofs.CopyLemmas.{array_closed, object_closed}
use Rattle.sonic_owned.specs.Internal.Copies.{copied_form, next_form}
use Rattle.sonic_owned.proofs.value.copy.Copying.close.Goals as goal

pub returns-in-Array : goal.returns-in-Array
returns-in-Array c = λ none. array_closed c.in-Array.field-0.now c.in-Array.elements (ap next_form (sym c.in-Array.is) ∙ none) ∙ ap copied_form (sym c.in-Array.is)

pub returns-in-Object : goal.returns-in-Object
returns-in-Object c = λ none. object_closed c.in-Object.field-0.now c.in-Object.members (ap next_form (sym c.in-Object.is) ∙ none) ∙ ap copied_form (sym c.in-Object.is)
