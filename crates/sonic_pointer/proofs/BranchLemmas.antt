-- A path that leaves the tree: the new vertices hang below the one where it does.
use Rattle.std.proofs.Common.{◌≡◌, ◌≢◌, ℕ, ◌+◌, ◌-◌, ◌<◌, ◌≤◌, List, [], ◌∷◌, ◌++◌, length, get_or, take, drop, map, AllPairs, Contains, insert, refl, sym, ap, ◌∙◌, subst, inl, inr, arith, append_assoc, length-append}
use Rattle.std.proofs.lemmas.Bool.{cases_lt, cases_eq}
use Rattle.std.proofs.lemmas.List.{get_or_push, take-append-drop, take_more, length-take-le, take_all, drop_more}
use Rattle.std.proofs.lemmas.List.Elements.{All-weaker, All-nil, All-cons}
use Rattle.sonic_text.specs.Paths.{Node, index, Path}
use Rattle.sonic_pointer.specs.Paths.{HasNextNode, HasPrefix}
use Rattle.sonic_pointer.specs.Internal.Tries.{Spot, spot_at, prefix_at, label_at, last_node, labels, IsChildVertex, IsBefore, IsSpot, IsTrie}
use Rattle.sonic_pointer.proofs.PathLemmas.{longer, same, shorter, fork, next_of_prefix, next_cases, orders_old, orders_none, orders_push}
use Rattle.sonic_pointer.proofs.TrieLemmas.{Grows, IsSound, grows_of, step_more, labels_more, spot_old, append_other, first_same}
use Rattle.sonic_pointer.proofs.InsertLemmas.{map-insert, All-insert, Contains-insert_same, Contains-insert_other, AllPairs-insert}

-- the path leaves the tree after the vertex `at` by the node n, and the rest follows; the new vertices come last
pub record IsBranched (P : List Path) (S S' : List Spot) (at position : ℕ) (p : Path) : Type 0 where
  pub n : Node
  pub rest : Path
  pub inside : at < length S
  pub path : p ≡ prefix_at S at ++ n ∷ rest
  pub fresh : ¬ HasNextNode P (prefix_at S at) n
  pub fits : position ≤ length (labels S (spot_at S at))
  pub before : (k : ℕ) (d : Node) → k < position → IsBefore (get_or (labels S (spot_at S at)) k d) n
  pub after : (k : ℕ) (d : Node) → position ≤ k → k < length (labels S (spot_at S at)) → IsBefore n (get_or (labels S (spot_at S at)) k d)
  pub long : length S' ≡ length S + (length rest + 1)
  pub others : (k : ℕ) → k < length S → k ≢ at → spot_at S' k ≡ spot_at S k
  pub here : spot_at S' at ≡ record { prefix = prefix_at S at; orders = (spot_at S at).orders; children = insert (spot_at S at).children position (length S) }
  pub inner : (k j : ℕ) → k ≡ length S + j → j < length rest
      → spot_at S' k ≡ record { prefix = prefix_at S at ++ n ∷ take j rest; orders = []; children = (length S + j + 1) ∷ [] }
  pub last : (k : ℕ) → k ≡ length S + length rest → spot_at S' k ≡ record { prefix = p; orders = length P ∷ []; children = [] }

branched_grows : {P : List Path} {S S' : List Spot} {at position : ℕ} {p : Path} → IsBranched P S S' at position p → Grows S S'
branched_grows {at = at} h = grows_of at (let l = h.long in omega arith) h.others (ap (λ (s : Spot). s.prefix) h.here)

-- no path of the list has a prefix of the new vertices
no_prefix : {P : List Path} {g : Path} {n : Node} (mid : Path) → ¬ HasNextNode P g n → ¬ HasPrefix P (g ++ n ∷ mid)
no_prefix mid fresh prefix = fresh (next_of_prefix mid prefix)

-- a vertex that was there, and isn't the one where the path leaves
branched_known : {P : List Path} {S S' : List Spot} {at position : ℕ} {p : Path} → IsTrie P S → IsSound P S → IsBranched P S S' at position p
    → (k : ℕ) → k < length S → k ≢ at → (m : Node) (r : Path) → p ≡ prefix_at S k ++ m ∷ r → HasNextNode P (prefix_at S k) m
branched_known {P} {S} {S'} {at} {position} {p} t sound h k inside other m r e =
    elim (fork (prefix_at S at) (prefix_at S k) h.rest r h.n m (sym h.path ∙ e)) [
      | longer mid w ↦ sound at h.inside (prefix_at S k) m mid w
      | same w q ↦ absurd (other (t.distinct k at inside h.inside w))
      | shorter mid w ↦ absurd (h.fresh (sound k inside (prefix_at S at) h.n mid w))
    ]

branched_other : {P : List Path} {S S' : List Spot} {at position : ℕ} {p : Path} → IsSound P S → IsBranched P S S' at position p
    → (k : ℕ) → k < length S → p ≢ prefix_at S k
branched_other {S = S} {at = at} sound h k inside e = h.fresh (sound k inside (prefix_at S at) h.n h.rest (sym e ∙ h.path))

-- the prefix of the new vertex with the number j among them
branched_prefix : {P : List Path} {S S' : List Spot} {at position : ℕ} {p : Path} (h : IsBranched P S S' at position p) (k j : ℕ) → k ≡ length S + j → j < length h.rest + 1
    → prefix_at S' k ≡ prefix_at S at ++ h.n ∷ take j h.rest
branched_prefix {S = S} {at = at} h k j is l = elim (cases_eq j (length h.rest)) [
  | inl e ↦ ap (λ (s : Spot). s.prefix) (h.last k (omega arith)) ∙ (h.path ∙ ap (λ r. prefix_at S at ++ h.n ∷ r) (sym (take_all j h.rest (omega arith))))
  | inr e ↦ ap (λ (s : Spot). s.prefix) (h.inner k j is (omega arith))
]

pub last_of : (f : Path) (n : Node) → last_node (f ++ n ∷ []) ≡ n
last_of f n = let l = length-append f (n ∷ []) in get_or_push f n (index 0) (length (f ++ n ∷ []) - 1) (omega arith)

-- a new child is one step below its parent
step_new : {S : List Spot} {f : Path} {c : ℕ} (n : Node) → c < length S → prefix_at S c ≡ f ++ n ∷ [] → (label_at S c ≡ n) × IsChildVertex S f c
step_new {S} {f} {c} n inside e =
    let l : label_at S c ≡ n = ap last_node e ∙ last_of f n in
    (l, record { below = inside; is = e ∙ ap (λ m. f ++ m ∷ []) (sym l) })

-- the vertex where the path leaves
branched_here : {P : List Path} {S S' : List Spot} {at position : ℕ} {p : Path} → IsTrie P S → IsBranched P S S' at position p
    → IsSpot (P ++ p ∷ []) S' (record { prefix = prefix_at S at; orders = (spot_at S at).orders; children = insert (spot_at S at).children position (length S) })
branched_here {P} {S} {S'} {at} {position} {p} t h =
    let g = branched_grows h in
    let s = t.all at h.inside in
    let long = h.long in
    let new = step_new {S = S'} {f = prefix_at S at} {c = length S} h.n (omega arith) (branched_prefix h (length S) 0 (omega arith) (omega arith)) in
    let old : labels S' (spot_at S at) ≡ labels S (spot_at S at) = labels_more (spot_at S at) g s.steps in
    let e : map (label_at S') (insert (spot_at S at).children position (length S)) ≡ insert (labels S (spot_at S at)) position h.n =
    map-insert (label_at S') (spot_at S at).children position (length S) ∙ (ap (λ l. insert l position (label_at S' (length S))) old ∙ ap (insert (labels S (spot_at S at)) position) new.0) in
    record {
      orders = orders_old p (λ q. append_other (prefix_at S at) h.rest h.n (sym q ∙ h.path)) s.orders;
      steps = All-insert (IsChildVertex S' (prefix_at S at)) (spot_at S at).children position (length S) new.1
          (All-weaker (IsChildVertex S (prefix_at S at)) (IsChildVertex S' (prefix_at S at)) (λ c x. step_more g x) (spot_at S at).children s.steps);
      sorted = subst (AllPairs IsBefore) (sym e) (AllPairs-insert IsBefore (labels S (spot_at S at)) position h.n h.fits s.sorted h.before h.after);
      complete = λ m next. subst (λ l. Contains l m) (sym e) (elim (next_cases p next) [
        | inl w ↦ Contains-insert_other (labels S (spot_at S at)) position h.n m (s.complete m w)
        | inr w ↦
            let q : h.n ≡ m = first_same (prefix_at S at) h.rest w.0 h.n m (sym h.path ∙ w.1) in
            subst (Contains (insert (labels S (spot_at S at)) position h.n)) q (Contains-insert_same (labels S (spot_at S at)) position h.n)
      ]);
    }

-- a prefix, the next node of the rest, and what is after it
split_rest : (g r : Path) (n : Node) (j : ℕ) → j < length r
    → (g ++ n ∷ r ≡ (g ++ n ∷ take j r) ++ get_or r j (index 0) ∷ drop (j + 1) r) × (g ++ n ∷ take (j + 1) r ≡ (g ++ n ∷ take j r) ++ get_or r j (index 0) ∷ [])
split_rest g r n j l =
    let a : take j r ++ drop j r ≡ r = take-append-drop j r in
    let b : drop j r ≡ get_or r j (index 0) ∷ drop (j + 1) r = drop_more r j (index 0) l in
    let c : take (j + 1) r ≡ take j r ++ get_or r j (index 0) ∷ [] = take_more r j (index 0) l in (
      ap (λ x. g ++ n ∷ x) (sym a ∙ ap (λ x. take j r ++ x) b) ∙ sym (append_assoc g (n ∷ take j r) (get_or r j (index 0) ∷ drop (j + 1) r)),
      ap (λ x. g ++ n ∷ x) c ∙ sym (append_assoc g (n ∷ take j r) (get_or r j (index 0) ∷ [])),
    )

-- the last new vertex, where the path ends
branched_last : {P : List Path} {S S' : List Spot} {at position : ℕ} {p : Path} → IsBranched P S S' at position p
    → IsSpot (P ++ p ∷ []) S' (record { prefix = p; orders = length P ∷ []; children = [] })
branched_last {P} {S} {S'} {at} {position} {p} h =
    let none : ¬ HasPrefix P p = λ f. no_prefix h.rest h.fresh (subst (HasPrefix P) h.path f) in
    record {
      orders = orders_push p refl (orders_none P p none);
      steps = All-nil (IsChildVertex S' p);
      sorted = λ i j d a b. absurd (let l : j < 0 = b in omega arith);
      complete = λ m next. elim (next_cases p next) [
        | inl w ↦ absurd (none (record { rest = m ∷ w.rest; path = w.path }))
        | inr w ↦ absurd (append_other p w.0 m w.1)
      ];
    }

-- a new vertex before the last
branched_inner : {P : List Path} {S S' : List Spot} {at position : ℕ} {p : Path} (h : IsBranched P S S' at position p) (j : ℕ) → j < length h.rest
    → IsSpot (P ++ p ∷ []) S' (record { prefix = prefix_at S at ++ h.n ∷ take j h.rest; orders = []; children = (length S + j + 1) ∷ [] })
branched_inner {P} {S} {S'} {at} {position} {p} h j l =
    let long = h.long in
    let m = get_or h.rest j (index 0) in
    let f = prefix_at S at ++ h.n ∷ take j h.rest in
    let parts = split_rest (prefix_at S at) h.rest h.n j l in
    let whole : p ≡ f ++ m ∷ drop (j + 1) h.rest = h.path ∙ parts.0 in
    let none : ¬ HasPrefix P f = no_prefix (take j h.rest) h.fresh in
    let below : prefix_at S' (length S + j + 1) ≡ f ++ m ∷ [] = branched_prefix h (length S + j + 1) (j + 1) (omega arith) (omega arith) ∙ parts.1 in
    let new = step_new {S = S'} {f = f} {c = length S + j + 1} m (omega arith) below in
    record {
      orders = orders_old p (λ q. append_other f (drop (j + 1) h.rest) m (sym q ∙ whole)) (orders_none P f none);
      steps = All-cons (IsChildVertex S' f) (length S + j + 1) [] new.1 (All-nil (IsChildVertex S' f));
      sorted = λ a b d x y. absurd (let k : b < 1 = y in omega arith);
      complete = λ k next. elim (next_cases p next) [
        | inl w ↦ absurd (none (record { rest = k ∷ w.rest; path = w.path }))
        | inr w ↦
            let q : m ≡ k = first_same f (drop (j + 1) h.rest) w.0 m k (sym whole ∙ w.1) in
            (0, omega arith, new.0 ∙ q)
      ];
    }

-- it is the prefix of no vertex that was there
branched_new : {P : List Path} {S S' : List Spot} {at position : ℕ} {p : Path} → IsSound P S → (h : IsBranched P S S' at position p) (i k : ℕ)
    → i < length S → length S ≤ k → k < length S' → prefix_at S' i ≢ prefix_at S' k
branched_new {S = S} {at = at} sound h i k inside low high e =
    let long = h.long in
    let w = sym ((branched_grows h).prefixes i inside) ∙ (e ∙ branched_prefix h k (k - length S) (omega arith) (omega arith)) in
    h.fresh (sound i inside (prefix_at S at) h.n (take (k - length S) h.rest) w)

-- nor of another new vertex
branched_apart : {P : List Path} {S S' : List Spot} {at position : ℕ} {p : Path} → (h : IsBranched P S S' at position p) (i k : ℕ)
    → length S ≤ i → i < length S' → length S ≤ k → k < length S' → prefix_at S' i ≡ prefix_at S' k → i ≡ k
branched_apart {P} {S} {S'} {at} {position} {p} h i k li hi lk hk e =
    let long = h.long in
    let w = ap length (sym (branched_prefix h i (i - length S) (omega arith) (omega arith)) ∙ (e ∙ branched_prefix h k (k - length S) (omega arith) (omega arith))) in
    let a = length-append (prefix_at S at) (h.n ∷ take (i - length S) h.rest) in
    let b = length-append (prefix_at S at) (h.n ∷ take (k - length S) h.rest) in
    let c = length-take-le (i - length S) h.rest (omega arith) in
    let d = length-take-le (k - length S) h.rest (omega arith) in
    omega arith

pub trie_branched : {P : List Path} {S S' : List Spot} {at position : ℕ} {p : Path} → IsTrie P S → IsSound P S → IsBranched P S S' at position p → IsTrie (P ++ p ∷ []) S'
trie_branched {P} {S} {S'} {at} {position} {p} t sound h =
    let g = branched_grows h in
    let long = h.long in
    record {
      some = let b = t.some in omega arith;
      root = g.prefixes 0 t.some ∙ t.root;
      all = λ k inside. elim (cases_lt k (length S)) [
        | inl i ↦ elim (cases_eq k at) [
          | inl e ↦ subst (IsSpot (P ++ p ∷ []) S') (sym h.here ∙ ap (spot_at S') (sym e)) (branched_here t h)
          | inr other ↦ subst (IsSpot (P ++ p ∷ []) S') (sym (h.others k i other))
              (spot_old p g (t.all k i) (branched_other sound h k i) (λ m r e. branched_known t sound h k i other m r e))
        ]
        | inr new ↦ elim (cases_eq (k - length S) (length h.rest)) [
          | inl e ↦ subst (IsSpot (P ++ p ∷ []) S') (sym (h.last k (omega arith))) (branched_last h)
          | inr e ↦ subst (IsSpot (P ++ p ∷ []) S') (sym (h.inner k (k - length S) (omega arith) (omega arith))) (branched_inner h (k - length S) (omega arith))
        ]
      ];
      distinct = λ i j a b e. elim (cases_lt i (length S)) [
        | inl x ↦ elim (cases_lt j (length S)) [
          | inl y ↦ t.distinct i j x y (sym (g.prefixes i x) ∙ (e ∙ g.prefixes j y))
          | inr y ↦ absurd (branched_new sound h i j x y b e)
        ]
        | inr x ↦ elim (cases_lt j (length S)) [
          | inl y ↦ absurd (branched_new sound h j i y x a (sym e))
          | inr y ↦ branched_apart h i j x a y b e
        ]
      ];
    }
