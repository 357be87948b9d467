-- A tree as a list of tags: its values without parts, and where its containers begin and end.
use Rattle.std.specs.Prelude.{ℕ, List, [], ◌∷◌, Option}
use Rattle.sonic_text.specs.declared.kind.Kind.{Kind}
use Rattle.sonic_text.specs.Trees.{Tree, Items}
use Rattle.sonic_text.specs.Trees.Items.{no_item, item}
use Rattle.sonic_text.specs.Trees.Tree.{container}

-- each value has the label that it has in its container
pub data Tag : Type 0 where
  leaf_tag : Option (List ℕ) → Tree → Tag
  begin_tag : Option (List ℕ) → Kind → Tag
  end_tag : Kind → Tag

abbrev mutual
  -- the tags of a value, before others
  pub tags : Option (List ℕ) → Tree → List Tag → List Tag
  tags l (container kind (item k y ys)) rest = begin_tag l kind ∷ tags k y (item_tags ys (end_tag kind ∷ rest))
  tags l x rest = leaf_tag l x ∷ rest

  -- the tags of items, before others
  pub item_tags : Items → List Tag → List Tag
  item_tags no_item rest = rest
  item_tags (item l x xs) rest = tags l x (item_tags xs rest)

-- a container that is open, with its items that are still to come
pub data Frame : Type 0 where
  frame : Kind → Items → Frame

-- the tags to come after a value in these containers, the innermost first
abbrev pub tags_after : List Frame → List Tag
tags_after [] = []
tags_after (frame kind xs ∷ frames) = item_tags xs (end_tag kind ∷ tags_after frames)
