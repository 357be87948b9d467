-- Where no value of a document begins: between its parts.
use Rattle.std.proofs.Common.{◌≡◌, ◌∙◌, ◌⊎◌, inl, inr, sym, subst, ap, ℕ, ◌+◌, ◌<◌, ◌≤◌, List, arith}
use Rattle.std.proofs.lemmas.Bool.{cases_order}
use Rattle.std.specs.Prelude.{Option}
use Rattle.sonic_text.specs.declared.kind.Kind.{Kind}
use Rattle.sonic_text.specs.Places.{byte, after_space}
use Rattle.sonic_text.specs.Strings.{strict}
use Rattle.sonic_text.specs.Values.{ItemHead, ItemsFit, closing, filled}
use Rattle.sonic_text.proofs.Insides.{comma_after, item_whole}
use Rattle.sonic_text.proofs.Items.{closing_no_comma}
use Rattle.sonic_text.proofs.Values.{head-later, items_kind, items_not_empty, items_one, items_open, value-longer, value_end_one}
use Rattle.sonic_parser.specs.OpenContainers.{IsOpen, here, inside as in_container}
use Rattle.sonic_parser.specs.Parsers.{IsFilledContainer}
use Rattle.sonic_find.specs.Documents.{IsAlone}
use Rattle.sonic_index.specs.Nodes.{Part, IsPartAt, IsNode, root, part, inside, apart}
use Rattle.sonic_index.proofs.NodeLemmas.{node_one, node_value, nodes_nested, part_before, part_inside, part_one, starts_one}
use Rattle.sonic_index.proofs.SearchLemmas.{last_part}

-- no two values end at one place
ends_apart : {t : List ℕ} {i p e : ℕ} → IsNode t i e → IsNode t p e → i < p → ⊥
ends_apart v w less = elim (nodes_nested v w less) [
  | apart l ↦ (let o = value-longer (node_value w) in omega arith)
  | inside x from to ↦ (let o = part_inside (node_value v) x in omega (arith, o.3))
]

pub node_end_one : {t : List ℕ} {i p e : ℕ} → IsNode t i e → IsNode t p e → i ≡ p
node_end_one {i = i} {p} v w = elim (cases_order i p) [
  | inl same ↦ same
  | inr (inl less) ↦ absurd (ends_apart v w less)
  | inr (inr more) ↦ absurd (ends_apart w v more)
]

-- a part with this head
abbrev pub part_with : Kind → ℕ → ℕ → Option (List ℕ) → ℕ → Part
part_with kind h v label e = record { kind = kind; item = h; label = label; start = v; end = e }

-- the item of a value of the document that is expected, and whose head was passed, is a part
pub part_there : {t : List ℕ} {i j n h v : ℕ} {kind : Kind} {l : Option (List ℕ)} → IsNode t i j → ItemsFit strict t kind i n h → ItemHead strict t kind h v l
    → (e : ℕ) × IsPartAt t i n (part_with kind h v l e)
part_there node fit y = let w = item_whole (node_value node) fit y in (w.0, record { before = fit; head = y; value = w.1 })

-- in a text that is one value alone, each value to which a walk comes is one of the document
pub open_node : {t : List ℕ} {i j p : ℕ} {kinds : List Kind} → IsAlone t i j → IsOpen strict t i p kinds → (q : ℕ) × IsNode t p q
open_node {t} {j = j} alone (here e k) = (j, subst (λ o. IsNode t o j) (sym e) (root alone))
open_node alone (in_container o is y k) =
    let around = open_node alone o in
    let there = part_there around.1 is y in
    (there.0, part around.1 there.1)

-- of a value from q to r that begins after the bracket of another one, which is expected to have an item at h: it begins there or later, or is in an earlier part
pub placed : {t : List ℕ} {i j n h q r : ℕ} {kind : Kind} → IsNode t i j → ItemsFit strict t kind i n h → IsNode t q r → i < q
    → (h ≤ q) ⊎ ((m : ℕ) × (z : Part) × (m < n) × IsPartAt t i m z × (r ≤ z.end))
placed {t} {i} {n = n} {h} {kind = kind} v fit w l =
    let (u, is) = last_part kind (node_value v) fit in
    let k : u.kind ≡ kind = items_kind is.before fit in
    let before : ItemsFit strict t kind i n u.item = rw k at is.before in
    let place : u.item ≡ h = items_one before fit in
    let later = head-later is.head in
    let longer = value-longer is.value in
    let within = part_inside (node_value v) is in
    elim (nodes_nested v w l) [
      | apart o ↦ inl (omega (arith, within.3))
      | inside {n = m} {x = z} y from to ↦ elim (cases_order m n) [
        | inl same ↦ inl (let s = starts_one same y is in omega arith)
        | inr (inl less) ↦ inr (m, z, less, y, to)
        | inr (inr more) ↦ inl (let o = part_before is y more in let g = head-later y.head in omega arith)
      ]
    ]

-- none begins between an item's place and its value
pub no_gap_head : {t : List ℕ} {i j n q r : ℕ} {x : Part} → IsNode t i j → IsPartAt t i n x → IsNode t q r → x.item ≤ q → x.start ≤ q
no_gap_head {n = n} v x w l =
    let within = part_inside (node_value v) x in
    let longer = value-longer (node_value w) in
    elim (nodes_nested v w (omega (arith, within.0))) [
      | apart o ↦ omega (arith, within.2, within.3)
      | inside {n = m} y from to ↦ elim (cases_order m n) [
        | inl same ↦ (let s = starts_one same y x in omega arith)
        | inr (inl less) ↦ absurd (let o = part_before y x less in omega arith)
        | inr (inr more) ↦ (let o = part_before x y more in let g = head-later y.head in let b = value-longer x.value in omega arith)
      ]
    ]

-- none in a container before its first item
pub no_gap_first : {t : List ℕ} {i j h q r : ℕ} {kind : Kind} → IsNode t i j → ItemsFit strict t kind i 0 h → IsNode t q r → i < q → h ≤ q
no_gap_first v fit w l = elim (placed v fit w l) [ inl y ↦ y | inr (m, z, less, y, to) ↦ absurd (omega arith) ]

-- a value in an earlier part or this one ends no later than this one
not_later : {t : List ℕ} {i n m : ℕ} {x z : Part} → IsPartAt t i n x → IsPartAt t i m z → m < n + 1 → z.end ≤ x.end
not_later {t} {i} {n} {m} {x} {z} p q l = elim (cases_order m n) [
  | inl same ↦ (let y : IsPartAt t i n z = rw same at q in let e = ap (λ (o : Part). o.end) (part_one y p) in omega (arith, e))
  | inr (inl less) ↦ (let o = part_before q p less in let a = head-later p.head in let b = value-longer p.value in omega arith)
  | inr (inr more) ↦ absurd (omega arith)
]

-- none between a part and the next item
pub no_gap_next : {t : List ℕ} {i j n h q r : ℕ} {kind : Kind} {x : Part} → IsNode t i j → IsPartAt t i n x → ItemsFit strict t kind i (n + 1) h → IsNode t q r → x.end ≤ q → h ≤ q
no_gap_next v x fit w l =
    let within = part_inside (node_value v) x in
    let longer = value-longer (node_value w) in
    elim (placed v fit w (omega (arith, within.0, within.1, within.2))) [
      | inl y ↦ y
      | inr (m, z, less, y, to) ↦ absurd (let o = not_later x y less in omega arith)
    ]

-- none between the last part and the end
pub no_gap_end : {t : List ℕ} {i j n q r : ℕ} {x : Part} → IsNode t i j → IsPartAt t i n x → byte t (after_space t x.end) ≡ closing x.kind → IsNode t q r → x.end ≤ q → j ≤ q
no_gap_end {t} {i} {n = n} {x = x} v p c w l =
    let within = part_inside (node_value v) p in
    let longer = value-longer (node_value w) in
    elim (nodes_nested v w (omega (arith, within.0, within.1, within.2))) [
      | apart o ↦ omega arith
      | inside {n = m} {x = z} y from to ↦ elim (cases_order n m) [
        | inl same ↦ absurd (let o = not_later p y (omega (arith, same)) in omega arith)
        | inr (inl less) ↦
            let k : z.kind ≡ x.kind = items_kind y.before p.before in
            let later : ItemsFit strict t x.kind i m z.item = rw k at y.before in
            let comma = comma_after p.before less p.head later in
            let e = value_end_one comma.1 p.value in
            let b : byte t (after_space t x.end) ≡ 44 = rw e at comma.2 in
            absurd (closing_no_comma x.kind (sym c ∙ b))
        | inr (inr more) ↦ absurd (let o = not_later p y (omega arith) in omega arith)
      ]
    ]

-- none in a value without parts
pub no_gap_inside : {t : List ℕ} {i j q r : ℕ} → IsNode t i j → ¬ IsFilledContainer t i → IsNode t q r → i < q → j ≤ q
no_gap_inside v none w l = elim (nodes_nested v w l) [
  | apart o ↦ omega arith
  | inside {x = x} y from to ↦ absurd (none (x.kind, items_open y.before, items_not_empty y.before))
]

-- what is around a part is the value itself, or around it
pub around_part : {t : List ℕ} {i j n q r : ℕ} {x : Part} → IsNode t i j → IsPartAt t i n x → IsNode t q r → q < x.start → x.end ≤ r → (q < i + 1) × (j ≤ r)
around_part {t} {i} {j} {n} {q} {r} v p w l g =
    let within = part_inside (node_value v) p in
    let longer = value-longer (node_value w) in
    elim (cases_order q i) [
      | inl same ↦ (let z : IsNode t i r = rw same at w in let e = node_one z v in (omega arith, omega (arith, e)))
      | inr (inl less) ↦ elim (nodes_nested w v less) [
        | apart o ↦ absurd (omega (arith, within.0, within.1, within.2))
        | inside y from to ↦ (let o = part_inside (node_value w) y in (omega arith, omega (arith, o.3)))
      ]
      | inr (inr more) ↦ elim (nodes_nested v w more) [
        | apart o ↦ absurd (omega (arith, within.2, within.3))
        | inside {n = m} y from to ↦ elim (cases_order m n) [
          | inl same ↦ absurd (let s = starts_one same y p in omega arith)
          | inr (inl less) ↦ absurd (let o = part_before y p less in let a = head-later p.head in let b = value-longer p.value in omega arith)
          | inr (inr after) ↦ absurd (let o = part_before p y after in let a = head-later y.head in let b = value-longer p.value in omega arith)
        ]
      ]
    ]

-- a part with its closing bracket ends the value
pub closes_at : {t : List ℕ} {i j n k : ℕ} {x : Part} → IsNode t i j → IsPartAt t i n x → byte t (after_space t x.end) ≡ closing x.kind → k ≡ after_space t x.end + 1 → j ≡ k
closes_at v p c e = value_end_one (node_value v) (filled p.before p.head p.value c e)
