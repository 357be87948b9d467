-- Edits that are decided for a value.
use Rattle.std.specs.Prelude.{◌≡◌, [], ◌++◌, Option, option_map}
use Rattle.sonic_owned.specs.Changes.{change_of}
use Rattle.sonic_owned.specs.Forms.{Form, FormMeans}
use Rattle.sonic_owned.specs.TreeEdits.{Edit, edit_at}
use Rattle.sonic_owned.specs.declared.edit.Change.{Change}
use Rattle.sonic_patch.specs.declared.plan.Plan.{Plan}
use Rattle.sonic_pointer.specs.Nodes.{path_of}
use Rattle.sonic_text.specs.Paths.{Path}
use Rattle.sonic_text.specs.Trees.{Tree}

-- the edit of a plan
abbrev pub edit_of : Plan → Edit Form
edit_of plan = edit_at (path_of plan.nodes.items) (change_of plan.change)

-- an edit at the part to which a path leads
abbrev pub after : Path → Edit Form → Edit Form
after path e = edit_at (path ++ e.path) e.change

-- an edit of the value itself
abbrev pub edit_here : Change → Edit Form
edit_here change = edit_at [] (change_of change)

-- the plan is what is decided for the form's tree
abbrev pub IsPlanned : (Tree → Option (Edit Form)) → Form → Option Plan → Type 0
IsPlanned decide f plan = (v : Tree) → FormMeans f v → decide v ≡ option_map edit_of plan
