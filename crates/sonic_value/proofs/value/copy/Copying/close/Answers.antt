use Rattle.std.proofs.Common.{ap, sym, ◌∙◌}
use Rattle.sonic_value.proofs.CloneLemmas.{array_closed, object_closed}
use Rattle.sonic_value.specs.Internal.Clones.{made_tree, next_tree}
use Rattle.sonic_value.proofs.value.copy.Copying.close.Goals as goal

pub returns-in-Array : goal.returns-in-Array
returns-in-Array c = λ none u. array_closed c.in-Array.field-0.now c.in-Array.elements (ap next_tree (sym c.in-Array.is) ∙ none) u ∙ ap (made_tree u) (sym c.in-Array.is)

pub returns-in-Object : goal.returns-in-Object
returns-in-Object c = λ none u. object_closed c.in-Object.field-0.now c.in-Object.members (ap next_tree (sym c.in-Object.is) ∙ none) u ∙ ap (made_tree u) (sym c.in-Object.is)
