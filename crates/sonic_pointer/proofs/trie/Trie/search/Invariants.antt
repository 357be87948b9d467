use Rattle.std.proofs.Common.{◌-◌, ◌<◌, ◌≤◌, length, get_or, ℕ}
use Rattle.sonic_text.specs.Paths.{Node}
use Rattle.sonic_pointer.specs.Internal.Pieces.{IsWindow}
use Rattle.sonic_pointer.specs.Internal.Tries.{IsBefore}
use Rattle.sonic_pointer.specs.Internal.Targets.{IsTarget}
use Rattle.sonic_pointer.specs.Internal.TrieFields.{trie_labels}
use Rattle.sonic_pointer.proofs.trie.Trie.search.Given as goal

abbrev pub invariant-loop-low : goal.invariant-loop-low
invariant-loop-low l = record {
  window : IsWindow l.children l.window;
  order : l.low ≤ l.high;
  end : l.high ≤ length l.children;
  before : (n : Node) → IsTarget l.target n → (k : ℕ) (d : Node) → k < l.low → IsBefore (get_or (trie_labels l.self l.at) k d) n;
  after : (n : Node) → IsTarget l.target n → (k : ℕ) (d : Node) → l.high ≤ k → k < length (trie_labels l.self l.at) → IsBefore n (get_or (trie_labels l.self l.at) k d);
}

abbrev pub decreases-loop-low : goal.decreases-loop-low
decreases-loop-low l = l.high - l.low
