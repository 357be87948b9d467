-- The text of a tree with no white space (RFC 8259, sections 3 to 7).
use Rattle.std.specs.Prelude.{ℕ, List, [], ◌∷◌, ◌++◌, length, true, false, codes, ⊤}
use Rattle.sonic_owned.specs.Forms.{label_text}
use Rattle.sonic_text.specs.Numbers.{IsNumber}
use Rattle.sonic_text.specs.Quoting.{quoted}
use Rattle.sonic_text.specs.Trees.Items.{no_item, item}
use Rattle.sonic_text.specs.Trees.Tree.{null, truth, numeral, text, container}
use Rattle.sonic_text.specs.Trees.{Tree, Items}
use Rattle.sonic_text.specs.Values.{opening, closing}

abbrev mutual
  -- the text of a tree: a literal, a number's own text, a quoted string, or a container with no white space
  pub compact : Tree → List ℕ
  compact null = codes "null"
  compact (truth true) = codes "true"
  compact (truth false) = codes "false"
  compact (numeral b) = b
  compact (text b) = quoted b
  compact (container kind xs) = opening kind ∷ items_text [] xs ++ closing kind ∷ []

  -- the items' texts, with this before the first and a comma before each other
  pub items_text : List ℕ → Items → List ℕ
  items_text before no_item = []
  items_text before (item l x xs) = before ++ (label_text l ++ (compact x ++ items_text (44 ∷ []) xs))

abbrev mutual
  -- each number of the tree has the text of one number
  pub HasNumbers : Tree → Type 0
  HasNumbers null = ⊤
  HasNumbers (truth b) = ⊤
  HasNumbers (numeral b) = IsNumber b 0 (length b)
  HasNumbers (text b) = ⊤
  HasNumbers (container kind xs) = HaveNumbers xs

  -- and so with each of the items
  pub HaveNumbers : Items → Type 0
  HaveNumbers no_item = ⊤
  HaveNumbers (item l x xs) = HasNumbers x × HaveNumbers xs
