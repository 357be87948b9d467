use Rattle.std.proofs.Common.{◌≡◌, ◌<◌, Some, length, slice_get, subst, arith}
use Rattle.sonic_pointer.specs.Internal.TrieFields.{entries_of, trie_spots}
use Rattle.sonic_pointer.specs.Views.{View}
use Rattle.sonic_pointer.proofs.PrefixLemmas.{prefix_there}
use Rattle.sonic_pointer.proofs.WayLemmas.{length-spots_of}
use Rattle.sonic_pointer.proofs.view.TreeView.number.Goals as goal

pub returns : goal.returns
returns c =
    let view = c.self.inside in
    let l : view.at < length (trie_spots view.trie) =
    (let n = length-spots_of (entries_of view.trie) in let inside = c.self.invariant.inside in omega (arith, n, inside)) in
    subst (λ (v : View). slice_get v.prefixes view.at ≡ Some v.prefix) c.self.view_is (prefix_there (trie_spots view.trie) view.at l)
