use Rattle.std.proofs.Common.{◌≡◌, ◌⊎◌, [], Contains, length, ap, subst, arith}
use Rattle.std.proofs.lemmas.List.{length-map}
use Rattle.std.specs.Prelude.{◌↔◌}
use Rattle.sonic_text.specs.Paths.{Path}
use Rattle.sonic_pointer.specs.Internal.TrieFields.{entries_of, trie_paths, trie_spots}
use Rattle.sonic_pointer.specs.Paths.{HasPrefix}
use Rattle.sonic_pointer.specs.Views.{View, HaveOneNumber}
use Rattle.sonic_pointer.proofs.PrefixLemmas.{all_prefixes, one_number, prefix_in}
use Rattle.sonic_pointer.proofs.WayLemmas.{length-spots_of}
use Rattle.sonic_pointer.proofs.view.TreeView.prefixes.Goals as goal

pub returns-clause-one : goal.returns-clause-one
returns-clause-one c = subst (λ (v : View). HaveOneNumber v.prefixes) c.self.view_is (one_number (trie_spots c.self.inside.trie) c.self.invariant.trie.tree.trie)

pub returns-clause-count : goal.returns-clause-count
returns-clause-count c =
    let view = c.self.inside in
    let many = length-spots_of (entries_of view.trie) in
    let all = length-map (trie_spots view.trie) prefix_in in
    let own = ap (λ (v : View). length v.prefixes) c.self.view_is in
    omega (arith, many, all, own)

pub returns-clause-all : goal.returns-clause-all
returns-clause-all c =
    let trie = c.self.inside.trie in
    subst (λ (v : View). (p : Path) → Contains v.prefixes p ↔ ((p ≡ []) ⊎ HasPrefix v.paths p)) c.self.view_is
    (all_prefixes (trie_paths trie) (entries_of trie) c.self.invariant.trie.tree)
