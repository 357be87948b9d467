-- At each place a value of a document begins, or none does: found by its parts, and theirs.
use Rattle.std.proofs.Common.{◌≡◌, ◌⊎◌, inl, inr, ℕ, zero, suc, ◌+◌, ◌<◌, ◌≤◌, List, Bool, arith, refl}
use Rattle.std.proofs.lemmas.Bool.{cases_order}
use Rattle.sonic_text.specs.declared.kind.Kind.{Kind}
use Rattle.sonic_text.specs.declared.kind.Kind.TheVariants.{Array, Object}
use Rattle.sonic_text.specs.Faults.{in_key}
use Rattle.sonic_text.specs.Places.{after_space}
use Rattle.sonic_text.specs.Strings.{strict}
use Rattle.sonic_text.specs.Values.{IsValue, ItemsFit, first_item, next_item}
use Rattle.sonic_text.proofs.Insides.{item_whole, last_fit}
use Rattle.sonic_text.proofs.Items.{head_some}
use Rattle.sonic_text.proofs.Places.{after_space_later}
use Rattle.sonic_text.proofs.Values.{head-later, items_before, value-longer, value_end_one, value_never_both}
use Rattle.sonic_find.specs.Documents.{IsAlone}
use Rattle.sonic_index.specs.Nodes.{Part, IsPartAt, IsNode, root, part, inside, apart}
use Rattle.sonic_index.proofs.NodeLemmas.{part_inside, part_one, node_later, node_value, nodes_nested}

-- the item of a whole container that is expected last is whole
pub last_part : {t : List ℕ} {v e n h : ℕ} (kind : Kind) → IsValue strict t v e → ItemsFit strict t kind v n h → (x : Part) × IsPartAt t v n x
last_part {t} {v} {n = n} {h} kind value fit = elim (head_some strict t kind h) [
  | inl (s, l, y) ↦
      let w = item_whole value fit y in
      (record { kind = kind; item = h; label = l; start = s; end = w.0 }, record { before = fit; head = y; value = w.1 })
  | inr (s, k, f) ↦ (let z : ItemsFit strict t Object v n h = rw k at fit in absurd (value_never_both value (in_key z f)))
]

-- and so is each one before it
pub part_until : {t : List ℕ} {v e n h : ℕ} (m : ℕ) (kind : Kind) → IsValue strict t v e → ItemsFit strict t kind v n h → m ≤ n → (x : Part) × IsPartAt t v m x
part_until {t} {v} {n = n} {h} m kind value fit l = elim (cases_order m n) [
  | inl same ↦ (let z : ItemsFit strict t kind v m h = rw same fit in last_part kind value z)
  | inr (inl less) ↦
      let y = items_before fit less in
      (record { kind = kind; item = y.h; label = y.key; start = y.v; end = y.e }, record { before = y.before; head = y.head; value = y.value })
  | inr (inr more) ↦ absurd (omega arith)
]

-- a part of this kind comes after m others, or none
part_of_kind : {t : List ℕ} {v e : ℕ} → IsValue strict t v e → (kind : Kind) (m : ℕ) → ((x : Part) × IsPartAt t v m x) ⊎ ((x : Part) → x.kind ≡ kind → IsPartAt t v m x → ⊥)
part_of_kind {t} {v} value kind m = elim (last_fit strict t kind v) [
  | inr none ↦ inr (λ x k p. let z : ItemsFit strict t kind v m x.item = rw k at p.before in none m x.item z)
  | inl last ↦ elim (cases_order m last.n) [
    | inl same ↦ inl (part_until m kind value last.fit (omega (arith, same)))
    | inr (inl less) ↦ inl (part_until m kind value last.fit (omega arith))
    | inr (inr more) ↦ inr (λ x k p. let z : ItemsFit strict t kind v m x.item = rw k at p.before in last.last m x.item more z)
  ]
]

no_kind : (k : Kind) → (k ≡ Array → ⊥) → (k ≡ Object → ⊥) → ⊥
no_kind Array a o = a refl
no_kind Object a o = o refl

-- a part comes after m others, or none
part_or_none : {t : List ℕ} {v e : ℕ} → IsValue strict t v e → (m : ℕ) → ((x : Part) × IsPartAt t v m x) ⊎ ((x : Part) → IsPartAt t v m x → ⊥)
part_or_none value m = elim (part_of_kind value Array m) [
  | inl y ↦ inl y
  | inr no_array ↦ elim (part_of_kind value Object m) [
    | inl y ↦ inl y
    | inr no_object ↦ inr (λ x p. no_kind x.kind (λ k. no_array x k p) (λ k. no_object x k p))
  ]
]

-- no more items come before a place than it has bytes before it
items_fewer : {m : Bool} {t : List ℕ} {kind : Kind} {i n h : ℕ} → ItemsFit m t kind i n h → n < h
items_fewer {t = t} (first_item {i} b q d o) = omega (arith, after_space_later t (i + 1))
items_fewer {t = t} (next_item {e} is y x c q o) =
    omega (arith, items_fewer is, head-later y, value-longer x, after_space_later t e, after_space_later t (after_space t e + 1))

-- a value of the document begins at a place
abbrev pub Begins : List ℕ → ℕ → Type 0
Begins t p = (q : ℕ) × IsNode t p q

-- none begins there inside the value from v to e
abbrev NoneIn : List ℕ → ℕ → ℕ → ℕ → Type 0
NoneIn t v e p = (q : ℕ) → IsNode t p q → v ≤ p → q ≤ e → ⊥

-- none in the first m parts of the value at v
abbrev NoneInParts : List ℕ → ℕ → ℕ → ℕ → Type 0
NoneInParts t v m p = (n : ℕ) (x : Part) (q : ℕ) → n < m → IsPartAt t v n x → IsNode t p q → x.start ≤ p → q ≤ x.end → ⊥

-- in one more part none begins there
one_more : {t : List ℕ} {v p : ℕ} (m : ℕ) → ((x : Part) (q : ℕ) → IsPartAt t v m x → IsNode t p q → x.start ≤ p → q ≤ x.end → ⊥) → NoneInParts t v m p
    → NoneInParts t v (suc m) p
one_more {t} {v} m none others n x q l y w from to = elim (cases_order n m) [
  | inl same ↦ (let z : IsPartAt t v m x = rw same at y in none x q z w from to)
  | inr (inl less) ↦ others n x q less y w from to
  | inr (inr more) ↦ omega arith
]

-- of the first m parts one has a value that begins there, or none
seek_parts : {t : List ℕ} {v e p : ℕ} → IsValue strict t v e → (m : ℕ) → ((n : ℕ) (x : Part) → IsPartAt t v n x → Begins t p ⊎ NoneIn t x.start x.end p)
    → Begins t p ⊎ NoneInParts t v m p
seek_parts value zero seek_in = inr (λ n x q l y w from to. omega arith)
seek_parts {t} {v} {p = p} value (suc m) seek_in = elim (seek_parts value m seek_in) [
  | inl y ↦ inl y
  | inr others ↦ elim (part_or_none value m) [
    | inr none ↦ inr (one_more m (λ x q z w from to. none x z) others)
    | inl (o, y) ↦ elim (seek_in m o y) [
      | inl z ↦ inl z
      | inr not ↦ inr (one_more m (λ x q z w from to. let same : o ≡ x = part_one y z in let none : NoneIn t x.start x.end p = rw (← same) not in none q w from to) others)
    ]
  ]
]

-- of a value of the document itself or a part of a part one begins there, or none
seek : (fuel : ℕ) {t : List ℕ} {v e : ℕ} (p : ℕ) → e < v + fuel → IsNode t v e → Begins t p ⊎ NoneIn t v e p
seek zero p l node = absurd (let o = value-longer (node_value node) in omega arith)
seek (suc fuel) {t} {v} {e} p l node = elim (cases_order v p) [
  | inl same ↦ inl (e, rw (← same) node)
  | inr (inr more) ↦ inr (λ q w from to. omega arith)
  | inr (inl less) ↦ elim (seek_parts (node_value node) e (λ n x y. let b = part_inside (node_value node) y in seek fuel p (omega (arith, b.0, b.1, b.3)) (part node y))) [
    | inl y ↦ inl y
    | inr none ↦ inr (λ q w from to. elim (nodes_nested node w less) [
      | apart o ↦ (let g = value-longer (node_value w) in omega arith)
      | inside {n} {x} y a b ↦ (let c = part_inside (node_value node) y in none n x q (omega (arith, items_fewer y.before, c.1, c.2, c.3)) y w a b)
    ])
  ]
]

-- all values of a document are in the root
pub node_within : {t : List ℕ} {i j p q : ℕ} → IsAlone t i j → IsNode t p q → q ≤ j
node_within a (root b) = let e = value_end_one b.root a.root in omega arith
node_within a (part w y) = let l = part_inside (node_value w) y in omega (arith, node_within a w, l.3)

-- so at each place a value of a document begins, or none does
pub begins_or_not : {t : List ℕ} {i j : ℕ} → IsAlone t i j → (p : ℕ) → Begins t p ⊎ (Begins t p → ⊥)
begins_or_not {j = j} alone p = elim (seek (suc j) p (omega arith) (root alone)) [
  | inl y ↦ inl y
  | inr none ↦ inr (λ w. none w.0 w.1 (omega (arith, node_later w.1, alone.start)) (node_within alone w.1))
]
