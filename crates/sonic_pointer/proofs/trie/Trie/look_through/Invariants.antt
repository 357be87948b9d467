use Rattle.std.proofs.Common.{◌-◌, ◌≢◌, ◌<◌, ◌≤◌, ℕ, Some, length, slice_get}
use Rattle.sonic_text.specs.Paths.{key}
use Rattle.sonic_pointer.specs.Internal.TrieFields.{trie_labels}
use Rattle.sonic_pointer.proofs.trie.Trie.look_through.Given as goal

abbrev pub invariant-loop-i : goal.invariant-loop-i
invariant-loop-i l = record {
  within : l.i ≤ length l.children;
  other : (k : ℕ) → k < l.i → slice_get (trie_labels l.self l.at) k ≢ Some (key l.bytes);
}

abbrev pub decreases-loop-i : goal.decreases-loop-i
decreases-loop-i l = length l.children - l.i
