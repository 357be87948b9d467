-- The direct parts of a value, and how the values of a document lie.
use Rattle.std.proofs.Common.{◌≡◌, sym, ap, refl, ℕ, zero, suc, ◌+◌, ◌<◌, ◌≤◌, inl, inr, List, arith}
use Rattle.std.proofs.lemmas.Bool.{cases_order}
use Rattle.sonic_text.specs.Places.{after_space}
use Rattle.sonic_text.specs.Strings.{strict}
use Rattle.sonic_text.specs.Values.{ItemHead, IsValue, ItemsFit}
use Rattle.sonic_text.proofs.Insides.{items_after, item_before_end}
use Rattle.sonic_text.proofs.Values.{head-later, head_one, items-later, items_kind, items_one, value-longer, value_end_one}
use Rattle.sonic_index.specs.Nodes.{Part, IsPartAt, IsNode, root, part, AreNested, inside, apart}

-- a part lies inside its value
pub part_inside : {t : List ℕ} {i j n : ℕ} {x : Part} → IsValue strict t i j → IsPartAt t i n x → (i < x.item) × (x.item ≤ x.start) × (x.start < x.end) × (x.end < j)
part_inside v p = (items-later p.before, head-later p.head, value-longer p.value, item_before_end p.before p.head p.value v)

-- it ends before a later one is expected
pub part_before : {t : List ℕ} {i n m : ℕ} {x y : Part} → IsPartAt t i n x → IsPartAt t i m y → n < m → x.end < y.item
part_before {t} {i} {m = m} {x} {y} p q l =
    let k : y.kind ≡ x.kind = items_kind q.before p.before in
    let later : ItemsFit strict t x.kind i m y.item = rw k at q.before in
    items_after p.before p.head p.value later l

-- parts with the same fields are one
fields_one : (x y : Part) → x.kind ≡ y.kind → x.item ≡ y.item → x.label ≡ y.label → x.start ≡ y.start → x.end ≡ y.end → x ≡ y
fields_one x y a b c d e =
    let z : ◌≡◌ {A = Part} (record { kind = x.kind; item = x.item; label = x.label; start = x.start; end = x.end })
    (record { kind = y.kind; item = y.item; label = y.label; start = y.start; end = y.end }) = rw (a, b, c, d, e) refl in
    z

-- after as many others there is one
pub part_one : {t : List ℕ} {i n : ℕ} {x y : Part} → IsPartAt t i n x → IsPartAt t i n y → x ≡ y
part_one {t} {i} {n} {x} {y} p q =
    let k : y.kind ≡ x.kind = items_kind q.before p.before in
    let before : ItemsFit strict t x.kind i n y.item = rw k at q.before in
    let same : y.item ≡ x.item = items_one before p.before in
    let head : ItemHead strict t x.kind x.item y.start y.label = rw (k, same) at q.head in
    let both = head_one p.head head in
    let value : IsValue strict t x.start y.end = rw (← both.0) at q.value in
    fields_one x y (sym k) (sym same) both.1 both.0 (value_end_one p.value value)

-- a value of the document is one
pub node_value : {t : List ℕ} {i j : ℕ} → IsNode t i j → IsValue strict t i j
node_value (root a) = rw a.start at a.root
node_value (part v p) = p.value

-- and begins where the root does, or later
pub node_later : {t : List ℕ} {i j : ℕ} → IsNode t i j → after_space t 0 ≤ i
node_later (root a) = omega (arith, a.start)
node_later (part v p) = let l = part_inside (node_value v) p in omega (arith, node_later v)

-- parts with as many before them begin at one place
pub starts_one : {t : List ℕ} {i n m : ℕ} {x y : Part} → m ≡ n → IsPartAt t i m y → IsPartAt t i n x → y.start ≡ x.start
starts_one {t} {i} {n} {x = x} {y} same q p = let z : IsPartAt t i n y = rw same at q in ap (λ (o : Part). o.start) (part_one z p)

-- what is around a value is around its parts
around : {t : List ℕ} {i j o k : ℕ} (x : Part) → (o < x.item) × (x.item ≤ x.start) × (x.start < x.end) × (x.end < k) → AreNested t i j o k → AreNested t i j x.start x.end
around x b (inside y from to) = inside y (omega (arith, b.0, b.1)) (omega (arith, b.3))
around x b (apart l) = apart (omega (arith, b.0, b.1))

-- where a value begins inside another one, but before one of its parts, it ends before that part
pub before_part : {t : List ℕ} {i j p q n : ℕ} {x : Part} → IsPartAt t i n x → x.end < j → AreNested t i j p q → p < x.start → q < x.start
before_part x l (apart o) less = let a = value-longer x.value in omega arith
before_part {n = n} x l (inside {n = m} y from to) less = elim (cases_order m n) [
  | inl same ↦ absurd (let w = starts_one same y x in omega arith)
  | inr (inl earlier) ↦ omega (arith, part_before y x earlier, head-later x.head, to)
  | inr (inr later) ↦ absurd (let o = part_before x y later in let a = head-later y.head in let b = value-longer x.value in omega arith)
]

-- of two values that begin at different places one is in a direct part of the other or after it, by the places where they begin
nest_from : (fuel : ℕ) {t : List ℕ} {i j p q : ℕ} → i + p < fuel → IsNode t i j → IsNode t p q → i < p → AreNested t i j p q
nest_from zero l v w less = absurd (omega arith)
nest_from (suc fuel) l v (root a) less = absurd (omega (arith, a.start, node_later v))
nest_from (suc fuel) {t} {i} {j} l v (part {i = o} {j = k} {n} {x} parent y) less =
    let b : (o < x.item) × (x.item ≤ x.start) × (x.start < x.end) × (x.end < k) = part_inside (node_value parent) y in
    elim (cases_order i o) [
      | inl same ↦ (let z : IsPartAt t i n x = rw same y in inside z (omega arith) (omega arith))
      | inr (inl before) ↦ around x b (nest_from fuel (omega (arith, b.0, b.1)) v parent before)
      | inr (inr after) ↦ apart (before_part y b.3 (nest_from fuel (omega (arith, b.0, b.1)) parent v after) less)
    ]

pub nodes_nested : {t : List ℕ} {i j p q : ℕ} → IsNode t i j → IsNode t p q → i < p → AreNested t i j p q
nodes_nested {i = i} {p = p} = nest_from (suc (i + p)) (omega arith)

-- values that begin at one place are one
pub node_one : {t : List ℕ} {i j k : ℕ} → IsNode t i j → IsNode t i k → j ≡ k
node_one v w = value_end_one (node_value v) (node_value w)
