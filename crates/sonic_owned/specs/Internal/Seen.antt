-- What one step of a path comes to.
use Rattle.std.specs.Prelude.{◌∷◌, ◌≡◌, Some}
use Rattle.sonic_owned.specs.Forms.{Form, raw}
use Rattle.sonic_text.specs.Paths.{Node, Path}
use Rattle.sonic_owned.specs.Leading.{LeadsTo, item_in}
use Rattle.sonic_owned.specs.Views.{form}
use Rattle.sonic_owned.specs.declared.value.pointer.Step.{Step}
use Rattle.sonic_owned.specs.declared.value.pointer.Step.TheVariants as step

-- no path goes on from a form by this node
abbrev pub Nowhere : Node → Form → Type 0
Nowhere node f = (rest : Path) (g : Form) → ¬ LeadsTo (node ∷ rest) f g

-- by the node the form leads on to an item, it isn't opened, or it leads nowhere
abbrev pub IsStep : Node → Form → Step → Type 0
IsStep node f (step.Item value) = item_in node f ≡ Some (form value.now)
IsStep node f (step.Unopened text) = f ≡ raw text.now.text
IsStep node f step.Nowhere = Nowhere node f
