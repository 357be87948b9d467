use Rattle.std.proofs.Common.{◌≡◌, ◌<◌, length, take}
use Rattle.sonic_pointer.specs.Internal.Owned.{steps_of}
use Rattle.sonic_pointer.specs.Internal.Tries.{prefix_at}
use Rattle.sonic_pointer.specs.Internal.TrieFields.{entries_of, trie_spots}
use Rattle.sonic_pointer.proofs.trie.Trie.walk.Given as goal

abbrev pub invariant-loop-depth : goal.invariant-loop-depth
invariant-loop-depth l = record {
  inside : l.at < length (entries_of l.self);
  prefix : prefix_at (trie_spots l.self) l.at ≡ take l.depth (steps_of l.path);
}
