-- How much a form holds: what falls while one is passed, item by item.
use Rattle.std.specs.Prelude.{ℕ, ◌+◌, List}
use Rattle.sonic_owned.specs.Forms.{Form, raw, level, Members, no_member, member}
use Rattle.sonic_owned.specs.Views.{node_step, array_step, object_step, value_step}
use Rattle.sonic_owned.specs.declared.value.Node.{Node, fold-Node}

abbrev mutual
  -- two for a text that isn't opened, three for a level, and with these what its items hold
  pub bulk : Form → ℕ
  bulk (raw b) = 2
  bulk (level kind ms) = 3 + members_bulk ms

  pub members_bulk : Members → ℕ
  members_bulk no_member = 0
  members_bulk (member l f ms) = bulk f + members_bulk ms

-- the form of what a value is kept as
abbrev pub node_form : Node → Form
node_form = fold-Node Form (List Form) (List (List ℕ × Form)) Form node_step array_step object_step value_step
