-- New vertices, one after the other.
use Rattle.std.proofs.Common.{◌≡◌, ◌⊎◌, ℕ, suc, ◌+◌, ◌-◌, ◌<◌, ◌≤◌, List, [], ◌∷◌, ◌++◌, length, get_or, map, take, drop, sym, ap, ◌∙◌, inl, inr, arith, length-append}
use Rattle.std.proofs.lemmas.Bool.{cases_eq}
use Rattle.std.proofs.lemmas.List.{take-append-le, drop-append-le, length-drop, get_or_append_left, get_or_push, get_or-map, drop_more}
use Rattle.sonic_text.specs.Paths.{Node, index, Path}
use Rattle.sonic_pointer.specs.Nodes.{owned_node}
use Rattle.sonic_pointer.specs.Internal.Tries.{Entry, entry_at, parent_of, HasChain}
use Rattle.sonic_pointer.specs.declared.owned.OwnedNode.{OwnedNode}

-- the new vertices for the first nodes of a path, so many as these are above the depth where it leaves the tree
pub record IsGrown (number at depth : ℕ) (path : Path) (old items : List Entry) (above : ℕ) : Type 0 where
  pub kept : take (length old) items ≡ old
  pub long : length items ≡ length old + (above - depth)
  pub inner : (k : ℕ) → k + depth < above → k + depth + 1 < length path
      → entry_at (drop (length old) items) k ≡ record { parent = parent_of at (length old + 1) k; node = get_or path (depth + k) (index 0); orders = []; children = (length old + 1 + k + 1) ∷ [] }
  pub last : (k : ℕ) → k + depth < above → k + depth + 1 ≡ length path
      → entry_at (drop (length old) items) k ≡ record { parent = parent_of at (length old + 1) k; node = get_or path (depth + k) (index 0); orders = number ∷ []; children = [] }

module _ {number at depth : ℕ} {path : Path} {old items : List Entry} {above : ℕ} (grown : IsGrown number at depth path old items above) where
  -- a node of the prefix has its vertex
  pub grown_skip : above + 1 ≤ depth → IsGrown number at depth path old items (above + 1)
  grown_skip low = let l = grown.long in record {
    kept = grown.kept;
    long = omega arith;
    inner = λ k i j. absurd (omega arith);
    last = λ k i j. absurd (omega arith);
  }

  -- one more
  module _ (v : Entry) (deep : depth ≤ above)
      (own_inner : above + 1 < length path → v ≡ record { parent = parent_of at (length old + 1) (above - depth); node = get_or path above (index 0); orders = []; children = (length old + 1 + (above - depth) + 1) ∷ [] })
      (own_last : above + 1 ≡ length path → v ≡ record { parent = parent_of at (length old + 1) (above - depth); node = get_or path above (index 0); orders = number ∷ []; children = [] }) where
    new_items : drop (length old) (items ++ v ∷ []) ≡ drop (length old) items ++ v ∷ []
    new_items = let l = grown.long in drop-append-le (length old) items (v ∷ []) (omega arith)

    new_old : (k : ℕ) → k + depth < above → entry_at (drop (length old) (items ++ v ∷ [])) k ≡ entry_at (drop (length old) items) k
    new_old k i =
        let l = grown.long in
        let r = length-drop (length old) items in
        ap (λ l. entry_at l k) new_items ∙ get_or_append_left (drop (length old) items) (v ∷ []) _ k (omega arith)

    new_own : (k : ℕ) → k + depth ≡ above → entry_at (drop (length old) (items ++ v ∷ [])) k ≡ v
    new_own k e =
        let l = grown.long in
        let r = length-drop (length old) items in
        ap (λ l. entry_at l k) new_items ∙ get_or_push (drop (length old) items) v _ k (omega arith)

    pub grown_more : IsGrown number at depth path old (items ++ v ∷ []) (above + 1)
    grown_more = let l = grown.long in record {
      kept = take-append-le (length old) items (v ∷ []) (omega arith) ∙ grown.kept;
      long = let n = length-append items (v ∷ []) in omega arith;
      inner = λ k i j. elim (cases_eq (k + depth) above) [
        | inl e ↦
            let same : k ≡ above - depth = omega arith in
            let place : above ≡ depth + k = omega arith in
            new_own k e ∙ (own_inner (omega arith)
            ∙ (ap (λ m. record { parent = parent_of at (length old + 1) m; node = get_or path above (index 0); orders = []; children = (length old + 1 + m + 1) ∷ [] }) (sym same)
            ∙ ap (λ m. record { parent = parent_of at (length old + 1) k; node = get_or path m (index 0); orders = []; children = (length old + 1 + k + 1) ∷ [] }) place))
        | inr other ↦ new_old k (omega arith) ∙ grown.inner k (omega arith) j
      ];
      last = λ k i j. elim (cases_eq (k + depth) above) [
        | inl e ↦
            let same : k ≡ above - depth = omega arith in
            let place : above ≡ depth + k = omega arith in
            new_own k e ∙ (own_last (omega arith)
            ∙ (ap (λ m. record { parent = parent_of at (length old + 1) m; node = get_or path above (index 0); orders = number ∷ []; children = [] }) (sym same)
            ∙ ap (λ m. record { parent = parent_of at (length old + 1) k; node = get_or path m (index 0); orders = number ∷ []; children = [] }) place))
        | inr other ↦ new_old k (omega arith) ∙ grown.last k (omega arith) j
      ];
    }

  -- by the fields of its vertex
  pub grown_next : (v : Entry) (q : ℕ) (n : Node) (k : ℕ) → depth ≤ above → above < length path → q ≡ parent_of at (length old + 1) (above - depth) → n ≡ get_or path above (index 0)
      → k ≡ length old + 1 + (above - depth) + 1
      → ((above + 1 < length path) × (v ≡ record { parent = q; node = n; orders = []; children = k ∷ [] })) ⊎ ((length path ≤ above + 1) × (v ≡ record { parent = q; node = n; orders = number ∷ []; children = [] }))
      → IsGrown number at depth path old (items ++ v ∷ []) (above + 1)
  grown_next v q n k deep inside parent node child own =
      let inner_of : ℕ → Node → ℕ → Entry = λ q n k. record { parent = q; node = n; orders = []; children = k ∷ [] } in
      let last_of : ℕ → Node → Entry = λ q n. record { parent = q; node = n; orders = number ∷ []; children = [] } in
      grown_more v deep
      (λ l. elim own [
        | inl w ↦ w.1 ∙ (ap (λ q. inner_of q n k) parent ∙ (ap (λ n. inner_of (parent_of at (length old + 1) (above - depth)) n k) node
            ∙ ap (inner_of (parent_of at (length old + 1) (above - depth)) (get_or path above (index 0))) child))
        | inr w ↦ absurd (let a = w.0 in omega arith)
      ])
      (λ l. elim own [
        | inl w ↦ absurd (let a = w.0 in omega arith)
        | inr w ↦ w.1 ∙ (ap (λ q. last_of q n) parent ∙ ap (last_of (parent_of at (length old + 1) (above - depth))) node)
      ])

  -- all of them
  pub grown_whole : depth < length path → above ≡ length path → HasChain number at depth path old items
  grown_whole short all = record {
    kept = grown.kept;
    is_chain = record {
      long = let l = grown.long in let r = length-drop (length old) items in omega arith;
      inner = λ j i. grown.inner j (omega arith) (omega arith);
      last = λ j i. grown.last j (omega arith) (omega arith);
    };
  }

-- the next of the nodes that a path had
module _ (nodes rest rest' : List OwnedNode) (above : ℕ) (node : OwnedNode) (is : rest ≡ drop above nodes) (next : rest ≡ node ∷ rest') where
  pub next_inside : above < length nodes
  next_inside = let a = ap length is in let b = ap length next in let c = length-drop above nodes in omega arith

  more : node ∷ rest' ≡ get_or nodes above node ∷ drop (above + 1) nodes
  more = sym next ∙ (is ∙ drop_more nodes above node next_inside)

  pub next_rest : rest' ≡ drop (above + 1) nodes
  next_rest = let m = more in cc

  pub next_node : owned_node node ≡ get_or (map owned_node nodes) above (index 0)
  next_node =
      let m : node ≡ get_or nodes above node = (let m = more in cc) in
      ap owned_node m ∙ sym (get_or-map owned_node nodes above node (index 0) next_inside)

-- the parent of the vertex that comes next
pub parent_more : (at first a b k : ℕ) → a ≡ suc b → first + b ≡ k → k ≡ parent_of at first a
parent_more at first a b k e f = sym f ∙ ap (parent_of at first) (sym e)
