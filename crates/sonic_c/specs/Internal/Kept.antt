-- What is kept of paths.
use Rattle.std.specs.Prelude.{◌≡◌, length}
use Rattle.sonic_c.specs.Kept.{PathList}
use Rattle.sonic_c.specs.declared.kept.Kept.TheInside.{Inside}

-- the list that is meant
abbrev pub list_of : Inside → PathList
list_of kept = record { rule = kept.rule; paths = kept.tree }

-- there is a slot for each path, for its span and for what it is told
abbrev pub HasSlots : Inside → Type 0
HasSlots kept = (length kept.slots.items ≡ length kept.tree) × (length kept.told.items ≡ length kept.tree)
