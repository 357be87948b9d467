-- What the fields of a `TreeView` show.
use Rattle.std.specs.Prelude.{◌<◌, length}
use Rattle.sonic_pointer.specs.Internal.Tries.{prefix_at, prefixes_of}
use Rattle.sonic_pointer.specs.Internal.TrieFields.{entries_of, trie_paths, trie_spots, trie_labels, HoldsTree}
use Rattle.sonic_pointer.specs.Views.{View}
use Rattle.sonic_pointer.specs.declared.view.TreeView.TheInside.{Inside}

-- the vertex that callers see
abbrev pub view_of : Inside → View
view_of view = record {
  paths = trie_paths view.trie;
  prefixes = prefixes_of (trie_spots view.trie);
  prefix = prefix_at (trie_spots view.trie) view.at;
  children = trie_labels view.trie view.at;
}

-- the number is that of a vertex
pub record IsView (view : Inside) : Type 0 where
  pub trie : HoldsTree view.trie
  pub inside : view.at < length (entries_of view.trie)
