-- The slots of all paths that begin with a prefix, or go on from it by some of its children.
use Rattle.std.proofs.Common.{◌≡◌, ◌⊎◌, inl, inr, ℕ, ◌+◌, ◌-◌, ◌<◌, ◌≤◌, List, [], ◌∷◌, ◌++◌, append_assoc, append-nil, length, arith}
use Rattle.std.proofs.lemmas.Bool.{cases_order}
use Rattle.std.proofs.lemmas.List.{length-append}
use Rattle.std.proofs.lemmas.Option.{slice_get_within}
use Rattle.std.proofs.lemmas.List.Sums.{get_or-le-sum_by}
use Rattle.std.specs.List.{Contains, sum_by}
use Rattle.std.specs.Prelude.{Some, slice_get}
use Rattle.sonic_find.proofs.WalkLemmas.List.{set_same, set_both}
use Rattle.sonic_find.proofs.WalkLemmas.Path.{held, contained}
use Rattle.sonic_find.specs.Internal.Walk.{AreSet, Begins, GoesBy}
use Rattle.sonic_pointer.specs.Paths.{IsChildren, IsOrders}
use Rattle.sonic_text.specs.Paths.{Node, Path}

-- what a prefix leaves of the lengths of all paths
abbrev pub left_of : List Path → Path → ℕ
left_of paths prefix = sum_by length paths - length prefix

-- a child's prefix leaves less
pub less_left : {paths : List Path} {prefix : Path} {children : List Node} (c : ℕ) (node : Node) → IsChildren paths prefix children
    → slice_get children c ≡ Some node → left_of paths (prefix ++ node ∷ []) < left_of paths prefix
less_left {paths} {prefix} {children} c node all is =
    let next = (all.exact node).0 (contained children c is) in
    let path = prefix ++ node ∷ next.rest in
    let within = get_or-le-sum_by length paths next.path.0 path next.path.1 in
    let long : length (prefix ++ node ∷ next.rest) ≤ sum_by length paths = rw next.path.2 at within in
    omega (arith, long, length-append prefix (node ∷ next.rest), length-append prefix (node ∷ []))

-- the paths that go on by one more child are those that go on by the first, and those that begin with its prefix
pub one_more_set : {X : Type 0} (paths : List Path) (prefix : Path) (children : List Node) {i : ℕ} {before mid now : List X} {x : X} (Is : ℕ → Type 0) (node : Node)
    → slice_get children i ≡ Some node → Is i → AreSet (GoesBy paths prefix children (λ c. (c < i) × Is c)) before mid x
    → AreSet (Begins paths (prefix ++ node ∷ [])) mid now x → AreSet (GoesBy paths prefix children (λ c. (c < i + 1) × Is c)) before now x
one_more_set paths prefix children {i} Is node is here f g = set_same to from (set_both f g)
  where
    to : (k : ℕ) → GoesBy paths prefix children (λ c. (c < i) × Is c) k ⊎ Begins paths (prefix ++ node ∷ []) k → GoesBy paths prefix children (λ c. (c < i + 1) × Is c) k
    to k (inl (c, other, rest, l, child, path)) = (c, other, rest, (omega (arith, l.0), l.1), child, path)
    to k (inr (rest, path)) = (i, node, rest, (omega arith, here), is, rw append_assoc at path)

    from : (k : ℕ) → GoesBy paths prefix children (λ c. (c < i + 1) × Is c) k → GoesBy paths prefix children (λ c. (c < i) × Is c) k ⊎ Begins paths (prefix ++ node ∷ []) k
    from k (c, other, rest, l, child, path) = elim (cases_order c i) [
      | inl same ↦
          let one : other ≡ node = (let there : slice_get children i ≡ Some other = rw same at child in cc (is, there)) in
          inr (rest, rw append_assoc (rw one at path))
      | inr (inl less) ↦ inl (c, other, rest, (less, l.1), child, path)
      | inr (inr more) ↦ absurd (omega (arith, l.0, more))
    ]

-- a child of which it doesn't hold adds none
pub no_more_set : {X : Type 0} (paths : List Path) (prefix : Path) (children : List Node) {i : ℕ} {before now : List X} {x : X} (Is : ℕ → Type 0)
    → ¬ Is i → AreSet (GoesBy paths prefix children (λ c. (c < i) × Is c)) before now x → AreSet (GoesBy paths prefix children (λ c. (c < i + 1) × Is c)) before now x
no_more_set paths prefix children {i} Is none f = set_same to from f
  where
    to : (k : ℕ) → GoesBy paths prefix children (λ c. (c < i) × Is c) k → GoesBy paths prefix children (λ c. (c < i + 1) × Is c) k
    to k (c, other, rest, l, child, path) = (c, other, rest, (omega (arith, l.0), l.1), child, path)

    from : (k : ℕ) → GoesBy paths prefix children (λ c. (c < i + 1) × Is c) k → GoesBy paths prefix children (λ c. (c < i) × Is c) k
    from k (c, other, rest, l, child, path) = elim (cases_order c i) [
      | inl same ↦ absurd (none (rw same at l.1))
      | inr (inl less) ↦ (c, other, rest, (less, l.1), child, path)
      | inr (inr more) ↦ absurd (omega (arith, l.0, more))
    ]

-- before the first child there is none
pub none_set : (paths : List Path) (prefix : Path) (children : List Node) (Is : ℕ → Type 0) (k : ℕ) → ¬ GoesBy paths prefix children (λ c. (c < 0) × Is c) k
none_set paths prefix children Is k (c, node, rest, l, child, path) = absurd (omega (arith, l.0))

-- behind the last one all are passed
pub all_set : {X : Type 0} (paths : List Path) (prefix : Path) (children : List Node) {n : ℕ} {before now : List X} {x : X} (Is : ℕ → Type 0) → length children ≤ n
    → AreSet (GoesBy paths prefix children (λ c. (c < n) × Is c)) before now x → AreSet (GoesBy paths prefix children Is) before now x
all_set paths prefix children {n} Is long f = set_same to from f
  where
    to : (k : ℕ) → GoesBy paths prefix children (λ c. (c < n) × Is c) k → GoesBy paths prefix children Is k
    to k (c, node, rest, l, child, path) = (c, node, rest, l.1, child, path)

    from : (k : ℕ) → GoesBy paths prefix children Is k → GoesBy paths prefix children (λ c. (c < n) × Is c) k
    from k (c, node, rest, l, child, path) = (c, node, rest, (omega (arith, slice_get_within children c node child, long), l), child, path)

-- with those that end at the prefix they are all that begin with it
pub begins_set : {X : Type 0} {paths : List Path} {prefix : Path} {children : List Node} {orders : List ℕ} {before mid now : List X} {x : X}
    → IsChildren paths prefix children → IsOrders paths prefix orders → AreSet (GoesBy paths prefix children (λ c. Unit)) before mid x
    → AreSet (Contains orders) mid now x → AreSet (Begins paths prefix) before now x
begins_set {paths = paths} {prefix} {children} {orders} all ends f g = set_same to from (set_both f g)
  where
    to : (k : ℕ) → GoesBy paths prefix children (λ c. Unit) k ⊎ Contains orders k → Begins paths prefix k
    to k (inl (c, node, rest, l, child, path)) = (node ∷ rest, path)
    to k (inr order) = ([], rw (append-nil prefix) ((ends.exact k).0 order))

    from : (k : ℕ) → Begins paths prefix k → GoesBy paths prefix children (λ c. Unit) k ⊎ Contains orders k
    from k ([], path) = inr ((ends.exact k).1 (rw (append-nil prefix) at path))
    from k (node ∷ rest, path) =
        let c = held children ((all.exact node).1 (record { rest = rest; path = contained paths k path })) in
        inl (c.0, node, rest, tt, c.1, path)
