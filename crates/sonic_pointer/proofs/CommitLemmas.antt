-- What a tree keeps after a path more, or where there was no memory for it.
use Rattle.std.proofs.Common.{◌≡◌, ℕ, ◌<◌, List, [], ◌∷◌, ◌++◌, length, drop, set, All, sym, ap, ◌∙◌, subst, subst₂, arith, append-nil, length-append, vec_len}
use Rattle.std.proofs.lemmas.List.{take_all, take-append-drop, length-map, length-set}
use Rattle.std.proofs.lemmas.List.Elements.{All-push, All-weaker}
use Rattle.sonic_text.specs.Paths.{Path}
use Rattle.sonic_pointer.specs.Paths.{IsShort}
use Rattle.sonic_pointer.specs.Internal.Tries.{Entry, Spot, entry_at, prefix_of, paths_of, IsTree, IsChain, with_order, with_child}
use Rattle.sonic_pointer.specs.Internal.TrieFields.{kept_entries, kept_paths, KeepsTree, IsInsertionPoint, Branches}
use Rattle.sonic_pointer.specs.declared.insert.Parts.{Parts}
use Rattle.sonic_pointer.specs.declared.trie.InsertionPoint.{InsertionPoint}
use Rattle.sonic_pointer.proofs.WayLemmas.{Holds, prefix_same, paths_more, spot_at-of}
use Rattle.sonic_pointer.proofs.TreeLemmas.{tree_ended, ended_holds, tree_branched, branched_end}

-- the same vertices and ends
pub unchanged : (old new : Parts) → KeepsTree old → new.ends.items ≡ old.ends.items → kept_entries new ≡ kept_entries old → KeepsTree new × (kept_paths new ≡ kept_paths old)
unchanged old new keeps ends entries =
    let same : kept_paths new ≡ kept_paths old = ap (λ e. paths_of e new.ends.items) entries ∙ ap (paths_of (kept_entries old)) ends in (
      record {
        inside = subst (λ l. All (λ (k : ℕ). k < length (kept_entries new)) l) (sym ends) (subst (λ e. All (λ (k : ℕ). k < length e) old.ends.items) (sym entries) keeps.inside);
        tree = subst₂ IsTree (sym same) (sym entries) keeps.tree;
      },
      same,
    )

-- a tree of these vertices, once an end is added
ends_more : (old new : Parts) (E' : List Entry) (at : ℕ) (p : Path) → KeepsTree old → Holds (kept_entries old) E' → at < length E' → prefix_of E' at ≡ p → IsTree (kept_paths old ++ p ∷ []) E'
    → new.ends.items ≡ old.ends.items ++ at ∷ [] → kept_entries new ≡ E' → KeepsTree new × (kept_paths new ≡ kept_paths old ++ p ∷ [])
ends_more old new E' at p keeps holds inside own tree ends entries =
    let E = kept_entries old in
    let more = holds.more in
    let same : kept_paths new ≡ kept_paths old ++ p ∷ [] =
    ap (λ e. paths_of e new.ends.items) entries ∙ (ap (paths_of E') ends ∙ paths_more E E' old.ends.items at p holds keeps.tree.below keeps.inside own) in
    let all : All (λ (k : ℕ). k < length E') (old.ends.items ++ at ∷ []) =
    All-push (λ (k : ℕ). k < length E') old.ends.items at (All-weaker (λ (k : ℕ). k < length E) (λ (k : ℕ). k < length E') (λ k l. omega arith) old.ends.items keeps.inside) inside in (
      record {
        inside = subst (λ l. All (λ (k : ℕ). k < length (kept_entries new)) l) (sym ends) (subst (λ e. All (λ (k : ℕ). k < length e) (old.ends.items ++ at ∷ [])) (sym entries) all);
        tree = subst₂ IsTree (sym same) (sym entries) tree;
      },
      same,
    )

-- the path ends at a vertex that is there
pub ends_here : (old new : Parts) (point : InsertionPoint) (p : Path) → KeepsTree old → IsInsertionPoint (kept_paths old) (kept_entries old) p point → IsShort p → point.depth ≡ length p
    → new.ends.items ≡ old.ends.items ++ point.at ∷ []
    → kept_entries new ≡ set (kept_entries old) point.at (with_order (entry_at (kept_entries old) point.at) (length old.ends.items))
    → KeepsTree new × (kept_paths new ≡ kept_paths old ++ p ∷ [])
ends_here old new point p keeps is small deep ends entries =
    let E = kept_entries old in
    let P = kept_paths old in
    let many : length P ≡ length old.ends.items = length-map old.ends.items (prefix_of E) in
    let own = is.prefix ∙ take_all point.depth p (omega arith) in
    let E' = set E point.at (with_order (entry_at E point.at) (length P)) ++ [] in
    let same : kept_entries new ≡ E' =
    entries ∙ (ap (λ n. set E point.at (with_order (entry_at E point.at) n)) (sym many) ∙ sym (append-nil (set E point.at (with_order (entry_at E point.at) (length P))))) in
    let holds : Holds E E' = ended_holds E point.at (length P) is.inside in
    let inside = is.inside in
    let more = holds.more in
    let prefix : prefix_of E' point.at ≡ p = prefix_same E E' holds keeps.tree.below point.at is.inside ∙ (sym (ap (λ (s : Spot). s.prefix) (spot_at-of E point.at is.inside)) ∙ own) in
    ends_more old new E' point.at p keeps holds (omega arith) prefix (tree_ended P E p point.at keeps.tree small is.inside own is.unmixed) ends same

-- or new ones follow
pub leaves_here : (old new : Parts) (point : InsertionPoint) (p : Path) → KeepsTree old → IsInsertionPoint (kept_paths old) (kept_entries old) p point → IsShort p → point.depth < length p
    → new.ends.items ≡ old.ends.items ++ vec_len new.vertices ∷ []
    → Branches (length old.ends.items) (kept_entries old) (kept_entries new) point p
    → KeepsTree new × (kept_paths new ≡ kept_paths old ++ p ∷ [])
leaves_here old new point p keeps is small short ends b =
    let E = kept_entries old in
    let P = kept_paths old in
    let many : length P ≡ length old.ends.items = length-map old.ends.items (prefix_of E) in
    let chain = drop (length E) (kept_entries new) in
    let x = with_child (entry_at E point.at) point.position (length E) in
    let E' = set E point.at x ++ chain in
    let same : kept_entries new ≡ E' = sym (ap (λ l. l ++ chain) (sym b.kept) ∙ take-append-drop (length E) (kept_entries new)) in
    let is_chain = subst (λ n. IsChain n point.at (length E) point.depth p chain) (sym many) b.is_chain in
    let long = is_chain.long in
    let all = ap length same in
    let l1 = length-append (set E point.at x) chain in
    let l2 = length-set E point.at x in
    let end = branched_end P E p point.at point.position point.depth chain keeps.tree is.inside is.prefix short is_chain (vec_len new.vertices) (omega arith) in
    ends_more old new E' (vec_len new.vertices) p keeps end.0 (omega arith) end.1
    (tree_branched P E p point.at point.position point.depth chain keeps.tree small is.inside is.prefix short (is.gap short) is.unmixed is_chain) ends same
