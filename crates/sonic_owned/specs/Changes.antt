-- What the changes of the program are.
use Rattle.sonic_owned.specs.Forms.{Form}
use Rattle.sonic_owned.specs.TreeEdits as edits
use Rattle.sonic_owned.specs.Views.{form}
use Rattle.sonic_owned.specs.declared.edit.Change.{Change}
use Rattle.sonic_owned.specs.declared.edit.Change.TheVariants.{Set, Push, Pair, Take, Insert, RemoveElement, RemoveMember}
use Rattle.sonic_text.specs.Paths.{key, index}

-- a change by the forms of its values
abbrev pub change_of : Change → edits.Change Form
change_of (Set value) = edits.set (form value)
change_of (Push value) = edits.push (form value)
change_of (Pair name value) = edits.pair name (form value)
change_of Take = edits.take
change_of (Insert i value) = edits.insert i (form value)
change_of (RemoveElement i) = edits.remove (index i)
change_of (RemoveMember name) = edits.remove (key name)
