-- Where tokens lead in a value, by its nodes.
use Rattle.std.specs.Prelude.{◌≡◌, List, ◌++◌, Some, None, option_map}
use Rattle.sonic_owned.specs.Forms.{Form, FormMeans}
use Rattle.sonic_owned.specs.Leading.{LeadsTo}
use Rattle.sonic_owned.specs.Seen.{view_form}
use Rattle.sonic_patch.specs.Pointers.{Token}
use Rattle.sonic_patch.specs.Resolution.{path_in}
use Rattle.sonic_patch.specs.declared.resolve.Led.{Led}
use Rattle.sonic_pointer.specs.Nodes.{path_of}
use Rattle.sonic_text.specs.Paths.{Path}
use Rattle.sonic_text.specs.Trees.{Tree}

-- of the tokens all but the rest are the path, which leads from the first form to the second
pub record LeadsUpTo (ts : List Token) (f : Form) (path : Path) (rest : List Token) (g : Form) : Type 0 where
  pub leads : LeadsTo path f g
  pub paths : (v u : Tree) → FormMeans f v → FormMeans g u → path_in ts v ≡ option_map (λ more. path ++ more) (path_in rest u)

-- the tokens lead nowhere in the form's tree
abbrev pub LeadNowhere : List Token → Form → Type 0
LeadNowhere ts f = (v : Tree) → FormMeans f v → path_in ts v ≡ None

-- they lead there by these nodes
pub record IsLed (ts : List Token) (f : Form) (led : Led) : Type 0 where
  pub leads : LeadsTo (path_of led.nodes.items) f (view_form led.part)
  pub path : (v : Tree) → FormMeans f v → path_in ts v ≡ Some (path_of led.nodes.items)
