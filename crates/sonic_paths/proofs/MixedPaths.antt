-- A path mixes with earlier ones, or it doesn't.
use Rattle.std.proofs.Common.{◌≡◌, ◌≢◌, ◌⊎◌, inl, inr, ap, ℕ, zero, suc, ◌<◌, Bool, true, false, Decides, List, [], ◌∷◌, ◌++◌, append_assoc, Contains, arith, refl}
use Rattle.std.specs.Str.{bytes_eq}
use Rattle.std.proofs.lemmas.Bool.{cases_eq}
use Rattle.std.proofs.lemmas.Slice.Eq.{bytes_eq-Decides}
use Rattle.sonic_text.specs.Paths.{Node, key, index, Path}
use Rattle.sonic_pointer.specs.Nodes.{is_key}
use Rattle.sonic_pointer.specs.Paths.{IsMixed}
use Rattle.sonic_pointer.proofs.TreeLemmas.{kinds_same}
use Rattle.sonic_paths.proofs.Deciding.{both, one_of_two, denied}

-- as the test says
text_by_test : (a b : List ℕ) (r : Bool) → Decides r (a ≡ b) → (a ≡ b) ⊎ (a ≢ b)
text_by_test a b true d = inl (d.0 refl)
text_by_test a b false d = inr (λ e. let h = d.1 e in absurd cc)

-- two texts are the same or not
pub text_or_other : (a b : List ℕ) → (a ≡ b) ⊎ (a ≢ b)
text_or_other a b = text_by_test a b (bytes_eq a b) (bytes_eq-Decides a b)

-- two nodes are the same or not
node_or_other : (a b : Node) → (a ≡ b) ⊎ (a ≢ b)
node_or_other (key a) (key b) = elim (text_or_other a b) [ inl e ↦ inl (ap key e) | inr d ↦ inr (λ e. d cc) ]
node_or_other (index n) (index m) = elim (cases_eq n m) [ inl e ↦ inl (ap index e) | inr d ↦ inr (λ e. d cc) ]
node_or_other (key a) (index n) = inr (λ e. cc)
node_or_other (index n) (key a) = inr (λ e. cc)

-- two paths have an equal prefix, after which nodes of two kinds come
abbrev Mix : Path → Path → Type 0
Mix (x ∷ q) (y ∷ path) = (is_key x ≢ is_key y) ⊎ (x ≡ y) × Mix q path
Mix q path = ⊥

-- they do or they don't
mix_or_not : (q path : Path) → Mix q path ⊎ ¬ Mix q path
mix_or_not (x ∷ q) (y ∷ path) = one_of_two (denied (kinds_same (is_key x) (is_key y))) (both (node_or_other x y) (mix_or_not q path))
mix_or_not [] path = inr (λ m. m)
mix_or_not (x ∷ q) [] = inr (λ m. m)

-- a path that mixes with one of a list mixes with the list
mixed_with : {paths : List Path} (before q path : Path) → Contains paths (before ++ q) → Mix q path → IsMixed paths (before ++ path)
mixed_with before [] path c m = absurd m
mixed_with before (x ∷ q) [] c m = absurd m
mixed_with before (x ∷ q) (y ∷ path) c (inl kinds) =
    record { prefix = before; node = y; rest = path; other = x; is = refl; next = record { rest = q; path = c }; kinds = kinds }
mixed_with {paths} before (x ∷ q) (y ∷ path) c (inr (e, m)) =
    let more : Contains paths (before ++ y ∷ [] ++ q) = rw (append_assoc before (y ∷ []) q, ← e) c in
    rw (append_assoc before (y ∷ []) path) at (mixed_with (before ++ y ∷ []) q path more m)

-- paths that have the parts of a mix mix
mix_of : (prefix : Path) (node other : Node) (rest others : Path) → is_key other ≢ is_key node → Mix (prefix ++ other ∷ others) (prefix ++ node ∷ rest)
mix_of [] node other rest others kinds = inl kinds
mix_of (x ∷ prefix) node other rest others kinds = inr (refl, mix_of prefix node other rest others kinds)

-- what is in a list is the first, or a later one
first_or_later : (q p : Path) (paths : List Path) → Contains (q ∷ paths) p → (q ≡ p) ⊎ Contains paths p
first_or_later q p paths (zero, l, e) = inl e
first_or_later q p paths (suc i, l, e) = inr (i, omega arith, e)

-- some path of a list passes a test, or none does
some_or_none : (P : Path → Type 0) (paths : List Path) → ((q : Path) → P q ⊎ ¬ (P q)) → ((q : Path) × Contains paths q × P q) ⊎ ((q : Path) → Contains paths q → ¬ (P q))
some_or_none P [] test = inr (λ q c p. let l : c.0 < 0 = c.1 in absurd (omega arith))
some_or_none P (x ∷ paths) test = elim (test x) [
  | inl p ↦ inl (x, (0, omega arith, refl), p)
  | inr other ↦ elim (some_or_none P paths test) [
    | inl (q, c, p) ↦ inl (q, (suc c.0, omega (arith, c.1), c.2), p)
    | inr none ↦ inr (λ q c p. elim (first_or_later x q paths c) [ inl e ↦ other (rw e p) | inr d ↦ none q d p ])
  ]
]

-- a path mixes with some path of a list, or with none
pub mixed_or_not : (paths : List Path) (path : Path) → IsMixed paths path ⊎ ¬ IsMixed paths path
mixed_or_not paths path = elim (some_or_none (λ q. Mix q path) paths (λ q. mix_or_not q path)) [
  | inl (q, c, m) ↦ inl (mixed_with [] q path c m)
  | inr none ↦ inr (λ m. none _ m.next.path (rw m.is (mix_of m.prefix m.node m.other m.rest m.next.rest m.kinds)))
]
