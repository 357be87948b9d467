-- A path more: the vertices that were there, and the new ones, stay as they have to be.
use Rattle.std.proofs.Common.{◌≡◌, ◌≢◌, ℕ, suc, ◌<◌, ◌≤◌, List, [], ◌∷◌, ◌++◌, length, get_or, map, All, refl, sym, ap, ◌∙◌, subst, inl, inr, arith, length-append}
use Rattle.std.proofs.lemmas.Bool.{cases_eq}
use Rattle.std.proofs.lemmas.List.{append_cancel_left}
use Rattle.std.proofs.lemmas.List.Elements.{All-weaker}
use Rattle.sonic_text.specs.Paths.{Node, Path}
use Rattle.sonic_pointer.specs.Paths.{HasNextNode}
use Rattle.sonic_pointer.specs.Internal.Tries.{Spot, spot_at, prefix_at, label_at, last_node, labels, IsChildVertex, IsSpot, IsTrie}
use Rattle.sonic_pointer.proofs.PathLemmas.{next_cases, orders_old, orders_push}

-- the vertices that were there keep their prefixes
pub record Grows (S S' : List Spot) : Type 0 where
  pub more : length S ≤ length S'
  pub prefixes : (k : ℕ) → k < length S → prefix_at S' k ≡ prefix_at S k

-- what follows a prefix inside a kept one follows it in some path
abbrev pub IsSound : List Path → List Spot → Type 0
IsSound P S = (k : ℕ) → k < length S → (f : Path) (m : Node) (r : Path) → prefix_at S k ≡ f ++ m ∷ r → HasNextNode P f m

map_same : {X : Type 0} (f g : ℕ → X) (xs : List ℕ) → ((k : ℕ) → k < length xs → f (get_or xs k 0) ≡ g (get_or xs k 0)) → map f xs ≡ map g xs
map_same f g [] h = refl
map_same f g (x ∷ xs) h =
    let here : f x ≡ g x = h 0 (omega arith) in
    let later : map f xs ≡ map g xs = map_same f g xs (λ k l. h (suc k) (omega arith)) in
    cc

pub step_more : {S S' : List Spot} {f : Path} {c : ℕ} → Grows S S' → IsChildVertex S f c → IsChildVertex S' f c
step_more {S} {S'} {f} {c} g s =
    let same_prefix : prefix_at S' c ≡ prefix_at S c = g.prefixes c s.below in
    let b = g.more in
    let i = s.below in
    record { below = omega arith; is = rw same_prefix s.is }

pub labels_more : {S S' : List Spot} (s : Spot) → Grows S S' → All (IsChildVertex S s.prefix) s.children → labels S' s ≡ labels S s
labels_more {S} {S'} s g steps =
    map_same (label_at S') (label_at S) s.children (λ k l. ap last_node (g.prefixes (get_or s.children k 0) (steps k 0 l).below))

-- a vertex that the new path neither ends at nor gives a new child
pub spot_old : {P : List Path} {S S' : List Spot} {s : Spot} (p : Path) → Grows S S' → IsSpot P S s → p ≢ s.prefix
    → ((m : Node) (r : Path) → p ≡ s.prefix ++ m ∷ r → HasNextNode P s.prefix m) → IsSpot (P ++ p ∷ []) S' s
spot_old {P} {S} {S'} {s} p g h other known =
    let e : labels S' s ≡ labels S s = labels_more s g h.steps in
    record {
      orders = orders_old p other h.orders;
      steps = All-weaker (IsChildVertex S s.prefix) (IsChildVertex S' s.prefix) (λ c t. step_more g t) s.children h.steps;
      sorted = rw e h.sorted;
      complete = λ m next. rw e (elim (next_cases p next) [ inl old ↦ h.complete m old | inr new ↦ h.complete m (known m new.0 new.1) ]);
    }

pub append_other : (g r : Path) (n : Node) → g ≢ g ++ n ∷ r
append_other g r n e = let l = ap length e in let k = length-append g (n ∷ r) in omega arith

pub first_same : (g r s : Path) (n m : Node) → g ++ n ∷ r ≡ g ++ m ∷ s → n ≡ m
first_same g r s n m e = let t = append_cancel_left g (n ∷ r) (m ∷ s) e in cc

-- the path ends at a vertex that is there
pub record IsEnded (P : List Path) (S S' : List Spot) (at : ℕ) (p : Path) : Type 0 where
  pub inside : at < length S
  pub path : p ≡ prefix_at S at
  pub long : length S' ≡ length S
  pub others : (k : ℕ) → k < length S → k ≢ at → spot_at S' k ≡ spot_at S k
  pub here : spot_at S' at ≡ record { prefix = prefix_at S at; orders = (spot_at S at).orders ++ length P ∷ []; children = (spot_at S at).children }

-- vertices of which only one changed, but not its prefix, keep their prefixes
pub grows_of : {S S' : List Spot} (at : ℕ) → length S ≤ length S' → ((k : ℕ) → k < length S → k ≢ at → spot_at S' k ≡ spot_at S k) → prefix_at S' at ≡ prefix_at S at
    → Grows S S'
grows_of at more others here = record {
  more = more;
  prefixes = λ k l. elim (cases_eq k at) [ inl e ↦ rw e here | inr other ↦ ap (λ (s : Spot). s.prefix) (others k l other) ];
}

ended_grows : {P : List Path} {S S' : List Spot} {at : ℕ} {p : Path} → IsEnded P S S' at p → Grows S S'
ended_grows {at = at} h = grows_of at (let l = h.long in omega arith) h.others (ap (λ (s : Spot). s.prefix) h.here)

ended_here : {P : List Path} {S S' : List Spot} {at : ℕ} {p : Path} → IsTrie P S → IsEnded P S S' at p
    → IsSpot (P ++ p ∷ []) S' (record { prefix = prefix_at S at; orders = (spot_at S at).orders ++ length P ∷ []; children = (spot_at S at).children })
ended_here {P} {S} {S'} {at} {p} t h =
    let g = ended_grows h in
    let s = t.all at h.inside in
    let e : labels S' (spot_at S at) ≡ labels S (spot_at S at) = labels_more (spot_at S at) g s.steps in
    record {
      orders = orders_push p h.path s.orders;
      steps = All-weaker (IsChildVertex S (prefix_at S at)) (IsChildVertex S' (prefix_at S at)) (λ c x. step_more g x) (spot_at S at).children s.steps;
      sorted = rw e s.sorted;
      complete = λ m next. rw e (elim (next_cases p next) [
        | inl old ↦ s.complete m old
        | inr new ↦ absurd (append_other (prefix_at S at) new.0 m (sym h.path ∙ new.1))
      ]);
    }

pub trie_ended : {P : List Path} {S S' : List Spot} {at : ℕ} {p : Path} → IsTrie P S → IsSound P S → IsEnded P S S' at p → IsTrie (P ++ p ∷ []) S'
trie_ended {P} {S} {S'} {at} {p} t sound h =
    let g = ended_grows h in
    let l = h.long in
    record {
      some = let b = t.some in omega arith;
      root = g.prefixes 0 t.some ∙ t.root;
      all = λ k inside.
          let i : k < length S = omega arith in
          elim (cases_eq k at) [
            | inl e ↦ subst (IsSpot (P ++ p ∷ []) S') (sym h.here ∙ ap (spot_at S') (sym e)) (ended_here t h)
            | inr other ↦ subst (IsSpot (P ++ p ∷ []) S') (sym (h.others k i other))
                (spot_old p g (t.all k i) (λ e. other (t.distinct k at i h.inside (sym e ∙ h.path))) (λ m r e. sound at h.inside (prefix_at S k) m r (sym h.path ∙ e)))
          ];
      distinct = λ i j a b e. t.distinct i j (omega arith) (omega arith) (sym (g.prefixes i (omega arith)) ∙ (e ∙ g.prefixes j (omega arith)));
    }
