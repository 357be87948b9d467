-- Edits as their paths and their changes.
use Rattle.std.specs.Prelude.{List, [], ◌∷◌, ◌≤◌, ⊤, length}
use Rattle.std.specs.declared.alloc.Global.{Global}
use Rattle.std.specs.declared.vec.Vec.{Vec}
use Rattle.sonic_edits.specs.declared.edit.Edit as declared
use Rattle.sonic_owned.specs.Changes.{change_of}
use Rattle.sonic_owned.specs.Forms.{Form}
use Rattle.sonic_owned.specs.TreeEdits.{Change, Edit}
use Rattle.sonic_pointer.specs.Nodes.{path_of}
use Rattle.sonic_pointer.specs.declared.node.PointerNode.{PointerNode}
use Rattle.sonic_text.specs.Paths.{Path}

-- where an edit is made
abbrev pub place_of : declared.Edit → Path
place_of e = e.path

-- and the change, by the forms of its values
abbrev pub kind_of_change : declared.Edit → Change Form
kind_of_change e = change_of e.change

-- the edits that make each change at its path
abbrev pub joined : List Path → List (Change Form) → List (Edit Form)
joined [] cs = []
joined (p ∷ ps) [] = []
joined (p ∷ ps) (c ∷ cs) = record { path = p; change = c } ∷ joined ps cs

-- no path has more than 255 nodes
abbrev pub AreShort : List Path → Type 0
AreShort [] = ⊤
AreShort (p ∷ ps) = (length p ≤ 255) × AreShort ps

-- the path of nodes that are lent
abbrev pub nodes_of : Vec PointerNode Global → Path
nodes_of nodes = path_of nodes.items
