-- Paths with a common prefix, and what one more path adds to a list.
use Rattle.std.proofs.Common.{◌≡◌, ◌≢◌, ◌⊎◌, ℕ, suc, zero, ◌+◌, ◌<◌, List, [], ◌∷◌, ◌++◌, length, get_or, slice_get, Some, Contains, refl, sym, ap, ◌∙◌, subst, inl, inr, arith, append_assoc, append-nil}
use Rattle.std.proofs.lemmas.List.Elements.{Contains-append_left, Contains-push, Contains-push_cases}
use Rattle.std.proofs.lemmas.List.{get_or_push, length_push, get_or_append_left}
use Rattle.std.proofs.lemmas.Option.{slice_get_within, get_or_from_slice_get}
use Rattle.sonic_text.specs.Paths.{Node, Path}
use Rattle.sonic_pointer.specs.Paths.{HasNextNode, HasPrefix, IsOrders}

-- one path with two prefixes, each followed by a node: one prefix is longer, or they are equal
pub data Fork (g : Path) (n : Node) (f : Path) (m : Node) : Type 0 where
  longer : (mid : Path) → g ≡ f ++ m ∷ mid → Fork g n f m
  same : f ≡ g → m ≡ n → Fork g n f m
  shorter : (mid : Path) → f ≡ g ++ n ∷ mid → Fork g n f m

deeper : {g f : Path} {n m x y : Node} → x ≡ y → Fork g n f m → Fork (x ∷ g) n (y ∷ f) m
deeper e (longer mid p) = longer mid (cc)
deeper e (same p q) = same (cc) q
deeper e (shorter mid p) = shorter mid (cc)

pub fork : (g f r s : Path) (n m : Node) → g ++ n ∷ r ≡ f ++ m ∷ s → Fork g n f m
fork [] [] r s n m e = same refl (cc)
fork [] (y ∷ f) r s n m e = shorter f (cc)
fork (x ∷ g) [] r s n m e = longer g (cc)
fork (x ∷ g) (y ∷ f) r s n m e =
    let heads : x ≡ y = cc in
    let tails : g ++ n ∷ r ≡ f ++ m ∷ s = cc in
    deeper heads (fork g f r s n m tails)

-- a prefix with further nodes is a prefix with the first of them
pub next_of_prefix : {P : List Path} {f : Path} {m : Node} (mid : Path) → HasPrefix P (f ++ m ∷ mid) → HasNextNode P f m
next_of_prefix {P} {f} {m} mid h = record { rest = mid ++ h.rest; path = subst (Contains P) (append_assoc f (m ∷ mid) h.rest) h.path }

-- a node that follows a prefix once a path is added did so before, or does so in that path
pub next_cases : {P : List Path} {f : Path} {m : Node} (p : Path) → HasNextNode (P ++ p ∷ []) f m → HasNextNode P f m ⊎ ((r : Path) × (p ≡ f ++ m ∷ r))
next_cases {P} {f} {m} p h =
    elim (Contains-push_cases P p (f ++ m ∷ h.rest) h.path) [
      | inl old ↦ inl (record { rest = h.rest; path = old })
      | inr new ↦ inr (h.rest, new)
    ]

-- the paths with their numbers, once a path is added
pub number_more : (P : List Path) (p f : Path) (k : ℕ) → slice_get P k ≡ Some f → slice_get (P ++ p ∷ []) k ≡ Some f
number_more [] p f k e = cc
number_more (q ∷ P) p f zero e = e
number_more (q ∷ P) p f (suc k) e = number_more P p f k e

pub number_own : (P : List Path) (p : Path) → slice_get (P ++ p ∷ []) (length P) ≡ Some p
number_own [] p = refl
number_own (q ∷ P) p = number_own P p

pub number_cases : (P : List Path) (p f : Path) (k : ℕ) → slice_get (P ++ p ∷ []) k ≡ Some f → (slice_get P k ≡ Some f) ⊎ ((k ≡ length P) × (p ≡ f))
number_cases [] p f zero e = inr (refl, (cc))
number_cases [] p f (suc k) e = absurd (cc)
number_cases (q ∷ P) p f zero e = inl e
number_cases (q ∷ P) p f (suc k) e =
    elim (number_cases P p f k e) [ inl old ↦ inl old | inr new ↦ inr (ap suc new.0, new.1) ]

pub path_of_number : (P : List Path) (f : Path) (k : ℕ) → slice_get P k ≡ Some f → Contains P f
path_of_number P f k e = (k, slice_get_within P k f e, get_or_from_slice_get P k f f e)

-- the orders of a prefix that the new path isn't
pub orders_old : {P : List Path} {f : Path} {o : List ℕ} (p : Path) → p ≢ f → IsOrders P f o → IsOrders (P ++ p ∷ []) f o
orders_old {P} {f} {o} p other h = record {
  rising = h.rising;
  exact = λ k. (
    λ inside. number_more P p f k ((h.exact k).0 inside),
    λ e. elim (number_cases P p f k e) [ inl old ↦ (h.exact k).1 old | inr new ↦ absurd (other new.1) ],
  );
}

-- no path is the prefix
pub orders_none : (P : List Path) (f : Path) → ¬ HasPrefix P f → IsOrders P f []
orders_none P f none = record {
  rising = λ k l. absurd (omega arith);
  exact = λ k. (
    λ inside. absurd (let l : inside.0 < 0 = inside.1 in omega arith),
    λ e. absurd (none (record { rest = []; path = subst (Contains P) (sym (append-nil f)) (path_of_number P f k e) })),
  );
}

-- one more number than all so far
rising_push : (o : List ℕ) (n : ℕ) → ((k : ℕ) → Contains o k → k < n) → ((k : ℕ) → k + 1 < length o → get_or o k 0 < get_or o (k + 1) 0)
    → (k : ℕ) → k + 1 < length (o ++ n ∷ []) → get_or (o ++ n ∷ []) k 0 < get_or (o ++ n ∷ []) (k + 1) 0
rising_push o n below rising k l =
    let long = length_push o n in
    elim (Rattle.std.proofs.lemmas.Bool.cases_lt (k + 1) (length o)) [
      | inl inside ↦
          let a = get_or_append_left o (n ∷ []) 0 k (omega arith) in
          let b = get_or_append_left o (n ∷ []) 0 (k + 1) inside in
          rw (a, b) (rising k inside)
      | inr last ↦
          let a = get_or_append_left o (n ∷ []) 0 k (omega arith) in
          let b = get_or_push o n 0 (k + 1) (omega arith) in
          rw (a, b) (below (get_or o k 0) (Rattle.std.proofs.lemmas.List.Elements.Contains-get_or o k 0 (omega arith)))
    ]

-- the new path is the prefix
pub orders_push : {P : List Path} {f : Path} {o : List ℕ} (p : Path) → p ≡ f → IsOrders P f o → IsOrders (P ++ p ∷ []) f (o ++ length P ∷ [])
orders_push {P} {f} {o} p e h = record {
  rising = rising_push o (length P) (λ k inside. slice_get_within P k f ((h.exact k).0 inside)) h.rising;
  exact = λ k. (
    λ inside. elim (Contains-push_cases o (length P) k inside) [
      | inl old ↦ number_more P p f k ((h.exact k).0 old)
      | inr new ↦ subst (λ n. slice_get (P ++ p ∷ []) n ≡ Some f) new (number_own P p ∙ ap Some e)
    ],
    λ w. elim (number_cases P p f k w) [
      | inl old ↦ Contains-append_left o (length P ∷ []) k ((h.exact k).1 old)
      | inr new ↦ subst (Contains (o ++ length P ∷ [])) (sym new.0) (Contains-push o (length P))
    ],
  );
}
