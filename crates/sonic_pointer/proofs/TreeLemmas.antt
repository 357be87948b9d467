-- A path more in what a tree keeps.
use Rattle.std.proofs.Common.{◌≡◌, ◌≢◌, ◌⊎◌, Bool, true, false, ℕ, zero, suc, ◌+◌, ◌-◌, ◌<◌, List, [], ◌∷◌, ◌++◌, length, get_or, set, take, drop, Contains, insert, refl, sym, ap, ◌∙◌, subst, inl, inr, arith, length-append}
use Rattle.std.proofs.lemmas.Bool.{cases_lt, cases_eq}
use Rattle.std.proofs.lemmas.List.{length-set, get_or-set_same, get_or-set_other, get_or_append_left, get_or-append_right, take-append-drop, take_more, length-take-le, take_all, length-drop, drop_more}
use Rattle.std.proofs.lemmas.List.Elements.{All-push, Contains-append_left, Contains-push}
use Rattle.sonic_text.specs.Paths.{Node, index, Path}
use Rattle.sonic_pointer.specs.Nodes.{is_key}
use Rattle.sonic_pointer.specs.Paths.{HasNextNode, HasPrefix, IsMixed, IsUnmixed, IsShort}
use Rattle.sonic_pointer.specs.Internal.Tries.{Entry, Spot, entry_at, prefix_of, spots_of, spot_at, prefix_at, labels, parent_of, AreBelow, IsGap, IsSpot, IsTree, IsChain, with_order, with_child}
use Rattle.sonic_pointer.proofs.PathLemmas.{next_cases, next_of_prefix}
use Rattle.sonic_pointer.proofs.WayLemmas.{Holds, prefix_step, prefix_same, spot_at-of, length-spots_of}
use Rattle.sonic_pointer.proofs.TrieLemmas.{IsSound, IsEnded, trie_ended, first_same}
use Rattle.sonic_pointer.proofs.BranchLemmas.{IsBranched, trie_branched}
use Rattle.sonic_pointer.proofs.NodeLemmas.{before_other}

-- what follows a prefix inside a kept one follows it in some path
pub sound_of : (P : List Path) (E : List Entry) → IsTree P E → IsSound P (spots_of E)
sound_of P E tree k l f m r is =
    let within : k < length E = let n = length-spots_of E in omega arith in
    let own : prefix_of E k ≡ f ++ m ∷ r = sym (ap (λ (s : Spot). s.prefix) (spot_at-of E k within)) ∙ is in
    elim (cases_eq k 0) [
      | inl z ↦
          let none : [] ≡ f ++ m ∷ r = sym (ap (prefix_of E) z) ∙ own in
          absurd (omega (arith, length-append f (m ∷ r), ap length none))
      | inr other ↦ next_of_prefix r (subst (HasPrefix P) own (tree.used k (omega arith) within))
    ]

prefix_more : (P : List Path) (p f : Path) → HasPrefix P f → HasPrefix (P ++ p ∷ []) f
prefix_more P p f h = record { rest = h.rest; path = Contains-append_left P (p ∷ []) (f ++ h.rest) h.path }

-- two kinds are the same or not
pub kinds_same : (a b : Bool) → (a ≡ b) ⊎ (a ≢ b)
kinds_same true true = inl refl
kinds_same true false = inr (λ e. cc)
kinds_same false true = inr (λ e. cc)
kinds_same false false = inl refl

-- a path that mixes with none keeps each prefix to one kind
pub unmixed_more : {P : List Path} (p : Path) → IsUnmixed P → ¬ IsMixed P p → IsUnmixed (P ++ p ∷ [])
unmixed_more {P} p old other f a b x y =
    elim (next_cases p x) [
      | inl xo ↦ elim (next_cases p y) [
        | inl yo ↦ old f a b xo yo
        | inr yn ↦ one_kind f a b yn.0 yn.1 xo
      ]
      | inr xn ↦ elim (next_cases p y) [
        | inl yo ↦ sym (one_kind f b a xn.0 xn.1 yo)
        | inr yn ↦ ap is_key (first_same f xn.0 yn.0 a b (sym xn.1 ∙ yn.1))
      ]
    ]
  where
    one_kind : (f : Path) (n m : Node) (r : Path) → p ≡ f ++ m ∷ r → HasNextNode P f n → is_key n ≡ is_key m
    one_kind f n m r e next =
        elim (kinds_same (is_key n) (is_key m)) [
          | inl same ↦ same
          | inr differ ↦ absurd (other (record { prefix = f; node = m; rest = r; other = n; is = e; next = next; kinds = differ }))
        ]

-- the vertices once a path is added, where the entry at `at` becomes x, with the same parent and node, and a chain follows
module _ (E : List Entry) (at : ℕ) (x : Entry) (chain : List Entry) (l : at < length E) (ep : x.parent ≡ (entry_at E at).parent) (en : x.node ≡ (entry_at E at).node) where
  abbrev d : Entry
  d = record { parent = 0; node = index 0; orders = []; children = [] }

  same_len : length (set E at x ++ chain) ≡ length E + length chain
  same_len = let n = length-set E at x in let m = length-append (set E at x) chain in omega arith

  entry_here : entry_at (set E at x ++ chain) at ≡ x
  entry_here = let n = length-set E at x in get_or_append_left (set E at x) chain d at (omega arith) ∙ get_or-set_same E at x d l

  entry_other : (k : ℕ) → k < length E → k ≢ at → entry_at (set E at x ++ chain) k ≡ entry_at E k
  entry_other k i other = let n = length-set E at x in get_or_append_left (set E at x) chain d k (omega arith) ∙ get_or-set_other E at k x d other

  entry_new : (k j : ℕ) → k ≡ length E + j → entry_at (set E at x ++ chain) k ≡ entry_at chain j
  entry_new k j e =
      let i : k - length E ≡ j = omega arith in
      get_or-append_right (set E at x) chain (length E) k d (length-set E at x) (omega arith) ∙ ap (λ i. get_or chain i d) i

  holds : Holds E (set E at x ++ chain)
  holds = record {
    more = let n = same_len in omega arith;
    parents = λ k i. elim (cases_eq k at) [
      | inl e ↦ ap (λ k. (entry_at (set E at x ++ chain) k).parent) e ∙ (ap (λ (e : Entry). e.parent) entry_here ∙ (ep ∙ ap (λ k. (entry_at E k).parent) (sym e)))
      | inr other ↦ ap (λ (e : Entry). e.parent) (entry_other k i other)
    ];
    nodes = λ k i. elim (cases_eq k at) [
      | inl e ↦ ap (λ k. (entry_at (set E at x ++ chain) k).node) e ∙ (ap (λ (e : Entry). e.node) entry_here ∙ (en ∙ ap (λ k. (entry_at E k).node) (sym e)))
      | inr other ↦ ap (λ (e : Entry). e.node) (entry_other k i other)
    ];
  }

  abbrev make : Path → List ℕ → List ℕ → Spot
  make f o c = record { prefix = f; orders = o; children = c }

  spots_other : AreBelow E → (k : ℕ) → k < length E → k ≢ at → spot_at (spots_of (set E at x ++ chain)) k ≡ spot_at (spots_of E) k
  spots_other below k i other =
      let n = same_len in
      spot_at-of (set E at x ++ chain) k (omega arith)
      ∙ (ap (λ f. make f (entry_at (set E at x ++ chain) k).orders (entry_at (set E at x ++ chain) k).children) (prefix_same E (set E at x ++ chain) holds below k i)
      ∙ (ap (λ (e : Entry). make (prefix_of E k) e.orders e.children) (entry_other k i other) ∙ sym (spot_at-of E k i)))

  spots_here : AreBelow E → spot_at (spots_of (set E at x ++ chain)) at ≡ record { prefix = prefix_at (spots_of E) at; orders = x.orders; children = x.children }
  spots_here below =
      let n = same_len in
      let own : prefix_of E at ≡ prefix_at (spots_of E) at = sym (ap (λ (s : Spot). s.prefix) (spot_at-of E at l)) in
      spot_at-of (set E at x ++ chain) at (omega arith)
      ∙ (ap (λ f. make f (entry_at (set E at x ++ chain) at).orders (entry_at (set E at x ++ chain) at).children) (prefix_same E (set E at x ++ chain) holds below at l ∙ own)
      ∙ ap (λ (e : Entry). make (prefix_at (spots_of E) at) e.orders e.children) entry_here)

-- the path ends at a vertex that is there
pub tree_ended : (P : List Path) (E : List Entry) (p : Path) (at : ℕ) → IsTree P E → IsShort p → at < length E → prefix_at (spots_of E) at ≡ p → ¬ IsMixed P p
    → IsTree (P ++ p ∷ []) (set E at (with_order (entry_at E at) (length P)) ++ [])
tree_ended P E p at tree small l prefix pure =
    let x = with_order (entry_at E at) (length P) in
    let E' = set E at x ++ [] in
    let S = spots_of E in
    let h = holds E at x [] l refl refl in
    let long : length E' ≡ length E = let a = same_len E at x [] l refl refl in omega arith in
    let olds : (spot_at S at).orders ≡ (entry_at E at).orders = ap (λ (s : Spot). s.orders) (spot_at-of E at l) in
    let old : (spot_at S at).children ≡ (entry_at E at).children = ap (λ (s : Spot). s.children) (spot_at-of E at l) in
    let mk : List ℕ → List ℕ → Spot = λ o c. record { prefix = prefix_at S at; orders = o ++ length P ∷ []; children = c } in
    let ended : IsEnded P S (spots_of E') at p = record {
      inside = let n = length-spots_of E in omega arith;
      path = sym prefix;
      long = length-spots_of E' ∙ (long ∙ sym (length-spots_of E));
      others = λ k i other. spots_other E at x [] l refl refl tree.below k (let n = length-spots_of E in omega arith) other;
      here = spots_here E at x [] l refl refl tree.below ∙ (ap (λ o. mk o (entry_at E at).children) (sym olds) ∙ ap (mk (spot_at S at).orders) (sym old));
    } in
    record {
      below = λ k some i. subst (λ q. q < k) (sym (h.parents k (omega arith))) (tree.below k some (omega arith));
      used = λ k some i. subst (HasPrefix (P ++ p ∷ [])) (sym (prefix_same E E' h tree.below k (omega arith))) (prefix_more P p (prefix_of E k) (tree.used k some (omega arith)));
      trie = trie_ended tree.trie (sound_of P E tree) ended;
      short = All-push IsShort P p tree.short small;
      unmixed = unmixed_more p tree.unmixed pure;
    }

-- and the vertices keep their parents and nodes
pub ended_holds : (E : List Entry) (at number : ℕ) → at < length E → Holds E (set E at (with_order (entry_at E at) number) ++ [])
ended_holds E at number l = holds E at (with_order (entry_at E at) number) [] l refl refl

-- nodes after a prefix
take_after : (g r : Path) (n : Node) (k j : ℕ) → k ≡ length g + suc j → take k (g ++ n ∷ r) ≡ g ++ n ∷ take j r
take_after [] r n k j e = let f : k ≡ suc j = omega arith in ap (λ i. take i (n ∷ r)) f
take_after (x ∷ g) r n k j e =
    let f : k ≡ suc (length g + suc j) = omega arith in
    ap (λ i. take i (x ∷ (g ++ n ∷ r))) f ∙ ap (λ l. x ∷ l) (take_after g r n (length g + suc j) j refl)

-- a node that follows no prefix of a path would be in the gap
pub gap_fresh : (P : List Path) (S : List Spot) (s : Spot) (n : Node) (position : ℕ) → IsSpot P S s → IsGap (labels S s) n position → ¬ HasNextNode P s.prefix n
gap_fresh P S s n position spot gap next =
    let at = spot.complete n next in
    elim (cases_lt at.0 position) [
      | inl l ↦ before_other _ _ (gap.before at.0 n l) at.2
      | inr l ↦ before_other _ _ (gap.after at.0 n l at.1) (sym at.2)
    ]

-- what a path is made of, where it leaves a tree at this depth
module _ (p : Path) (depth : ℕ) (short : depth < length p) where
  pub left_parts : p ≡ take depth p ++ get_or p depth (index 0) ∷ drop (depth + 1) p
  left_parts = sym (take-append-drop depth p) ∙ ap (λ l. take depth p ++ l) (drop_more p depth (index 0) short)

-- a chain of new vertices
module _ (P : List Path) (E : List Entry) (p : Path) (at : ℕ) (x : Entry) (depth : ℕ) (chain : List Entry) (tree : IsTree P E) (l : at < length E)
    (ep : x.parent ≡ (entry_at E at).parent) (en : x.node ≡ (entry_at E at).node)
    (short : depth < length p) (prefix : prefix_of E at ≡ take depth p) (is_chain : IsChain (length P) at (length E) depth p chain) where
  abbrev E' : List Entry
  E' = set E at x ++ chain

  long' : length E' ≡ length E + (length p - depth)
  long' = let a = same_len E at x chain l ep en in let b = is_chain.long in omega arith

  chain_parent : (j : ℕ) → j < length p - depth → (entry_at chain j).parent ≡ parent_of at (length E) j
  chain_parent j i = elim (cases_eq (j + 1) (length p - depth)) [
    | inl e ↦ ap (λ (e : Entry). e.parent) (is_chain.last j e)
    | inr e ↦ ap (λ (e : Entry). e.parent) (is_chain.inner j (omega arith))
  ]

  chain_node : (j : ℕ) → j < length p - depth → (entry_at chain j).node ≡ get_or p (depth + j) (index 0)
  chain_node j i = elim (cases_eq (j + 1) (length p - depth)) [
    | inl e ↦ ap (λ (e : Entry). e.node) (is_chain.last j e)
    | inr e ↦ ap (λ (e : Entry). e.node) (is_chain.inner j (omega arith))
  ]

  parent_below : (j : ℕ) → parent_of at (length E) j < length E + j
  parent_below zero = omega arith
  parent_below (suc j) = omega arith

  below' : AreBelow E'
  below' k some i = elim (cases_lt k (length E)) [
    | inl old ↦ subst (λ q. q < k) (sym ((holds E at x chain l ep en).parents k old)) (tree.below k some old)
    | inr new ↦
        let j = k - length E in
        let n = long' in
        let e : entry_at E' k ≡ entry_at chain j = entry_new E at x chain l ep en k j (omega arith) in
        let b = parent_below j in
        subst (λ q. q < k) (sym (ap (λ (e : Entry). e.parent) e ∙ chain_parent j (omega arith))) (omega arith)
  ]

  -- the prefix of a new vertex, from its parent's
  new_step : (j k q : ℕ) → k ≡ length E + j → j < length p - depth → parent_of at (length E) j ≡ q → prefix_of E' q ≡ take (depth + j) p → prefix_of E' k ≡ take (depth + j + 1) p
  new_step j k q e i parent up =
      let n = long' in
      let own : entry_at E' k ≡ entry_at chain j = entry_new E at x chain l ep en k j e in
      let f : (entry_at E' k).parent ≡ q = ap (λ (e : Entry). e.parent) own ∙ (chain_parent j i ∙ parent) in
      let g : (entry_at E' k).node ≡ get_or p (depth + j) (index 0) = ap (λ (e : Entry). e.node) own ∙ chain_node j i in
      prefix_step E' below' k (omega arith) (omega arith)
      ∙ (ap (λ m. prefix_of E' m ++ (entry_at E' k).node ∷ []) f
      ∙ (ap (λ w. w ++ (entry_at E' k).node ∷ []) up
      ∙ (ap (λ m. take (depth + j) p ++ m ∷ []) g ∙ sym (take_more p (depth + j) (index 0) (omega arith)))))

  new_prefix : (j k : ℕ) → k ≡ length E + j → j < length p - depth → prefix_of E' k ≡ take (depth + j + 1) p
  new_prefix zero k e i =
      let z : depth ≡ depth + 0 = omega arith in
      new_step zero k at e i refl (prefix_same E E' (holds E at x chain l ep en) tree.below at l ∙ (prefix ∙ ap (λ m. take m p) z))
  new_prefix (suc j) k e i =
      let z : depth + j + 1 ≡ depth + suc j = omega arith in
      new_step (suc j) k (length E + j) e i refl (new_prefix j (length E + j) refl (omega arith) ∙ ap (λ m. take m p) z)

  -- all of it after the vertex where the path leaves
  below_left : (j : ℕ) → j < length p - depth → take (depth + j + 1) p ≡ take depth p ++ get_or p depth (index 0) ∷ take j (drop (depth + 1) p)
  below_left j i =
      let g = length-take-le depth p (omega arith) in
      ap (take (depth + j + 1)) (left_parts p depth short) ∙ take_after (take depth p) (drop (depth + 1) p) (get_or p depth (index 0)) (depth + j + 1) j (omega arith)

  new_inner : (k j : ℕ) → k ≡ length E + j → j < length p - (depth + 1)
      → spot_at (spots_of E') k ≡ record { prefix = take depth p ++ get_or p depth (index 0) ∷ take j (drop (depth + 1) p); orders = []; children = (length E + j + 1) ∷ [] }
  new_inner k j e i =
      let n = long' in
      let a = spot_at-of E' k (omega arith) in
      let own = entry_new E at x chain l ep en k j e ∙ is_chain.inner j (omega arith) in
      let f = new_prefix j k e (omega arith) ∙ below_left j (omega arith) in
      a ∙ (ap (λ g. make E at x chain l ep en g (entry_at E' k).orders (entry_at E' k).children) f
      ∙ ap (λ (e : Entry). make E at x chain l ep en (take depth p ++ get_or p depth (index 0) ∷ take j (drop (depth + 1) p)) e.orders e.children) own)

  end_prefix : (k : ℕ) → k ≡ length E + (length p - (depth + 1)) → prefix_of E' k ≡ p
  end_prefix k e =
      let j = length p - (depth + 1) in
      new_prefix j k e (omega arith) ∙ take_all (depth + j + 1) p (omega arith)

  new_last : (k : ℕ) → k ≡ length E + (length p - (depth + 1)) → spot_at (spots_of E') k ≡ record { prefix = p; orders = length P ∷ []; children = [] }
  new_last k e =
      let j = length p - (depth + 1) in
      let n = long' in
      let a = spot_at-of E' k (omega arith) in
      let own = entry_new E at x chain l ep en k j e ∙ is_chain.last j (omega arith) in
      a ∙ (ap (λ g. make E at x chain l ep en g (entry_at E' k).orders (entry_at E' k).children) (end_prefix k e)
      ∙ ap (λ (e : Entry). make E at x chain l ep en p e.orders e.children) own)

  -- each is a prefix of the path
  used' : (k : ℕ) → 0 < k → k < length E' → HasPrefix (P ++ p ∷ []) (prefix_of E' k)
  used' k some i = elim (cases_lt k (length E)) [
    | inl old ↦ subst (HasPrefix (P ++ p ∷ [])) (sym (prefix_same E E' (holds E at x chain l ep en) tree.below k old)) (prefix_more P p (prefix_of E k) (tree.used k some old))
    | inr new ↦
        let j = k - length E in
        let n = long' in
        let own = new_prefix j k (omega arith) (omega arith) in
        subst (HasPrefix (P ++ p ∷ [])) (sym own)
        (record { rest = drop (depth + j + 1) p; path = subst (Contains (P ++ p ∷ [])) (sym (take-append-drop (depth + j + 1) p)) (Contains-push P p) })
  ]

-- the path leaves the tree
pub tree_branched : (P : List Path) (E : List Entry) (p : Path) (at position depth : ℕ) (chain : List Entry) → IsTree P E → IsShort p → at < length E → prefix_at (spots_of E) at ≡ take depth p
    → depth < length p → IsGap (labels (spots_of E) (spot_at (spots_of E) at)) (get_or p depth (index 0)) position → ¬ IsMixed P p
    → IsChain (length P) at (length E) depth p chain
    → IsTree (P ++ p ∷ []) (set E at (with_child (entry_at E at) position (length E)) ++ chain)
tree_branched P E p at position depth chain tree small l prefix short gap pure is_chain =
    let x = with_child (entry_at E at) position (length E) in
    let S = spots_of E in
    let own : prefix_of E at ≡ take depth p = sym (ap (λ (s : Spot). s.prefix) (spot_at-of E at l)) ∙ prefix in
    let S' = spots_of (set E at x ++ chain) in
    let same : length S ≡ length E = length-spots_of E in
    let old : (spot_at S at).children ≡ (entry_at E at).children = ap (λ (s : Spot). s.children) (spot_at-of E at l) in
    let olds : (spot_at S at).orders ≡ (entry_at E at).orders = ap (λ (s : Spot). s.orders) (spot_at-of E at l) in
    let mk : List ℕ → List ℕ → ℕ → Spot = λ o c k. record { prefix = prefix_at S at; orders = o; children = insert c position k } in
    let mk_inner : Path → ℕ → ℕ → Spot = λ f j k. record { prefix = f ++ get_or p depth (index 0) ∷ take j (drop (depth + 1) p); orders = []; children = (k + j + 1) ∷ [] } in
    let r = length-drop (depth + 1) p in
    let branched : IsBranched P S S' at position p = record {
      n = get_or p depth (index 0);
      rest = drop (depth + 1) p;
      inside = omega arith;
      path = left_parts p depth short ∙ ap (λ f. f ++ get_or p depth (index 0) ∷ drop (depth + 1) p) (sym prefix);
      fresh = gap_fresh P S (spot_at S at) (get_or p depth (index 0)) position (tree.trie.all at (omega arith)) gap;
      fits = gap.fits;
      before = gap.before;
      after = gap.after;
      long = let m = length-spots_of (set E at x ++ chain) in let k = long' P E p at x depth chain tree l refl refl short own is_chain in omega arith;
      others = λ k i other. spots_other E at x chain l refl refl tree.below k (omega arith) other;
      here = spots_here E at x chain l refl refl tree.below
          ∙ (ap (λ o. mk o (entry_at E at).children (length E)) (sym olds) ∙ (ap (λ c. mk (spot_at S at).orders c (length E)) (sym old) ∙ ap (mk (spot_at S at).orders (spot_at S at).children) (sym same)));
      inner = λ k j e i. new_inner P E p at x depth chain tree l refl refl short own is_chain k j (omega arith) (omega arith)
          ∙ (ap (λ f. mk_inner f j (length E)) (sym prefix) ∙ ap (mk_inner (prefix_at S at) j) (sym same));
      last = λ k e. new_last P E p at x depth chain tree l refl refl short own is_chain k (omega arith);
    } in
    record {
      below = below' P E p at x depth chain tree l refl refl short own is_chain;
      used = used' P E p at x depth chain tree l refl refl short own is_chain;
      trie = trie_branched tree.trie (sound_of P E tree) branched;
      short = All-push IsShort P p tree.short small;
      unmixed = unmixed_more p tree.unmixed pure;
    }

-- the last new vertex is where it ends
pub branched_end : (P : List Path) (E : List Entry) (p : Path) (at position depth : ℕ) (chain : List Entry) → IsTree P E → at < length E → prefix_at (spots_of E) at ≡ take depth p
    → depth < length p → IsChain (length P) at (length E) depth p chain → (k : ℕ) → k ≡ length E + (length p - (depth + 1))
    → (Holds E (set E at (with_child (entry_at E at) position (length E)) ++ chain)) × (prefix_of (set E at (with_child (entry_at E at) position (length E)) ++ chain) k ≡ p)
branched_end P E p at position depth chain tree l prefix short is_chain k e =
    let x = with_child (entry_at E at) position (length E) in
    let own : prefix_of E at ≡ take depth p = sym (ap (λ (s : Spot). s.prefix) (spot_at-of E at l)) ∙ prefix in
    (holds E at x chain l refl refl, end_prefix P E p at x depth chain tree l refl refl short own is_chain k e)
