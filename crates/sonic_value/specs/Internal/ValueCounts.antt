-- How many values a tree has: what falls while a value is dropped. No public clause rests on it.
use Rattle.std.specs.Prelude.{ℕ, ◌+◌}
use Rattle.sonic_text.specs.Trees.Items.{no_item, item}
use Rattle.sonic_text.specs.Trees.Tree.{null, truth, numeral, text, container}
use Rattle.sonic_text.specs.Trees.{Tree, Items}

abbrev mutual
  pub value_count : Tree → ℕ
  value_count null = 1
  value_count (truth b) = 1
  value_count (numeral b) = 1
  value_count (text b) = 1
  value_count (container kind xs) = 1 + items_value_count xs

  pub items_value_count : Items → ℕ
  items_value_count no_item = 0
  items_value_count (item l x xs) = value_count x + items_value_count xs
