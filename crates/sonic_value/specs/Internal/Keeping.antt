-- What a reader keeps of a text that may be no UTF-8: facts on which no public clause rests.
use Rattle.std.specs.Prelude.{ℕ, ◌+◌, ◌/◌, ◌%◌, Bool, true, false, List, [], ◌∷◌, Option, Some, None}
use Rattle.sonic_text.specs.Trees.{Tree, Items}
use Rattle.sonic_text.specs.Trees.Tree.{null, truth, numeral, text, container}
use Rattle.sonic_text.specs.Trees.Items.{no_item, item}

-- bytes spelled out: two letters for each, from `a` to `p`, one for its sixteens and one for its ones
abbrev pub spelling : List ℕ → List ℕ
spelling [] = []
spelling (n ∷ ns) = (97 + n / 16) ∷ (97 + n % 16) ∷ spelling ns

-- what is kept of the bytes that a string denotes: these, where the text is known to be UTF-8, and else how they are spelled
abbrev pub kept_text : Bool → List ℕ → List ℕ
kept_text true b = b
kept_text false b = spelling b

abbrev pub kept_label : Bool → Option (List ℕ) → Option (List ℕ)
kept_label u None = None
kept_label u (Some k) = Some (kept_text u k)

abbrev mutual
  -- and of a tree: the tree with such strings and such keys
  pub kept : Bool → Tree → Tree
  kept u null = null
  kept u (truth b) = truth b
  kept u (numeral b) = numeral b
  kept u (text b) = text (kept_text u b)
  kept u (container kind xs) = container kind (kept_items u xs)

  pub kept_items : Bool → Items → Items
  kept_items u no_item = no_item
  kept_items u (item l x xs) = item (kept_label u l) (kept u x) (kept_items u xs)
