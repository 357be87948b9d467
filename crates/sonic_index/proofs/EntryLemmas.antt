-- A document has at most one list of entries.
use Rattle.std.proofs.Common.{◌≡◌, ◌∙◌, ℕ, zero, suc, ◌<◌, inl, inr, List, [], ◌∷◌, get_or, arith, refl, sym, ap}
use Rattle.std.proofs.lemmas.Bool.{cases_order}
use Rattle.std.proofs.lemmas.Option.{get_or_from_slice_get, slice_get-get_or, slice_get_within}
use Rattle.std.specs.Prelude.{Contains, Some, slice_get}
use Rattle.sonic_text.specs.declared.kind.Kind.{Kind}
use Rattle.sonic_text.specs.declared.kind.Kind.TheVariants.{Array, Object}
use Rattle.sonic_text.specs.Strings.{IsString, strict}
use Rattle.sonic_text.specs.Values.{IsValue, type_at}
use Rattle.sonic_text.proofs.Strings.{string_one}
use Rattle.sonic_text.proofs.Values.{head-later, items-later, value-longer, value_end_one}
use Rattle.sonic_index.specs.declared.entry.Entry.{Entry}
use Rattle.sonic_index.specs.declared.entry.Label.{Label}
use Rattle.sonic_index.specs.declared.entry.Label.TheVariants.{Key, At}
use Rattle.sonic_index.specs.Entries.{IsLabelled, IsEntry, of_root, of_part, AreEntries}
use Rattle.sonic_index.specs.Nodes.{Part, IsPartAt, IsNode, root, part, inside, apart}
use Rattle.sonic_index.proofs.NodeLemmas.{part_before, part_inside, part_one, node_later, node_one, node_value, nodes_nested, starts_one}

-- a part begins after its value does
pub part_later : {t : List ℕ} {i n : ℕ} {x : Part} → IsPartAt t i n x → i < x.start
part_later p = omega (arith, items-later p.before, head-later p.head)

-- parts of one value that begin at one place have as many before them
pub as_many : {t : List ℕ} {i n m : ℕ} {x y : Part} → x.start ≡ y.start → IsPartAt t i n x → IsPartAt t i m y → n ≡ m
as_many {n = n} {m = m} same p q = elim (cases_order n m) [
  | inl z ↦ z
  | inr (inl less) ↦ absurd (let l = part_before p q less in let a = head-later q.head in let b = value-longer p.value in omega arith)
  | inr (inr more) ↦ absurd (let l = part_before q p more in let a = head-later p.head in let b = value-longer q.value in omega arith)
]

-- no value is a part of two, of which one begins after the other
not_two : {t : List ℕ} {i j p q n m : ℕ} {x y : Part} → x.start ≡ y.start → x.end ≡ y.end → IsNode t i j → IsNode t p q → IsPartAt t i n x → IsPartAt t p m y → i < p → ⊥
not_two {n = n} starts ends v w one two less =
    let later : _ < _ = part_later two in
    let within = part_inside (node_value w) two in
    let around = part_inside (node_value v) one in
    elim (nodes_nested v w less) [
      | apart l ↦ omega (arith, around.2, around.3)
      | inside {n = k} z from to ↦ elim (cases_order n k) [
        | inl same ↦ (let s = starts_one (sym same) z one in omega arith)
        | inr (inl before) ↦ (let l = part_before one z before in let o = head-later z.head in omega (arith, around.2))
        | inr (inr after) ↦ (let l = part_before z one after in omega (arith, within.2, within.3, around.1))
      ]
    ]

-- so a part has one value around it
pub around_one : {t : List ℕ} {i j p q n m : ℕ} {x y : Part} → x.start ≡ y.start → IsNode t i j → IsNode t p q → IsPartAt t i n x → IsPartAt t p m y → i ≡ p
around_one {t} {i} {p = p} {x = x} {y} same v w one two =
    let there : IsValue strict t x.start y.end = rw (← same) at two.value in
    let ends : x.end ≡ y.end = value_end_one one.value there in
    elim (cases_order i p) [
      | inl z ↦ z
      | inr (inl less) ↦ absurd (not_two same ends v w one two less)
      | inr (inr more) ↦ absurd (not_two (sym same) (sym ends) w v two one more)
    ]

-- what an element of a list is, as it is read
pub element_at : (es : List Entry) {x : Entry} → Contains es x → (a : ℕ) × (slice_get es a ≡ Some x)
element_at es {x} c = (c.0, slice_get-get_or es c.0 x c.1 ∙ ap Some c.2)

pub read_element : (es : List Entry) (a : ℕ) {x : Entry} → slice_get es a ≡ Some x → Contains es x
read_element es a {x} e = (a, slice_get_within es a x e, get_or_from_slice_get es a x x e)

-- lists that are read alike are one
pub lists_one : (es fs : List Entry) → ((a : ℕ) (x : Entry) → slice_get es a ≡ Some x → slice_get fs a ≡ Some x)
    → ((a : ℕ) (x : Entry) → slice_get fs a ≡ Some x → slice_get es a ≡ Some x) → es ≡ fs
lists_one [] [] there back = refl
lists_one [] (y ∷ fs) there back = absurd (let e = back 0 y refl in cc)
lists_one (x ∷ es) [] there back = absurd (let e = there 0 x refl in cc)
lists_one (x ∷ es) (y ∷ fs) there back =
    let first : Some y ≡ Some x = there 0 x refl in
    let rest : es ≡ fs = lists_one es fs (λ a z e. there (suc a) z e) (λ a z e. back (suc a) z e) in
    let same : x ≡ y = cc in
    rw (same, rest) refl

-- the places where entries begin rise
abbrev Rising : List Entry → Type 0
Rising es = (a b : ℕ) (x y : Entry) → a < b → slice_get es a ≡ Some x → slice_get es b ≡ Some y → x.start < y.start

-- and each of them is in the other list
abbrev Covers : List Entry → List Entry → Type 0
Covers es fs = (a : ℕ) (x : Entry) → slice_get es a ≡ Some x → (c : ℕ) × (y : Entry) × (slice_get fs c ≡ Some y) × (y.start ≡ x.start)

-- what begins earlier comes earlier
pub earlier : (es : List Entry) → Rising es → (a b : ℕ) (x y : Entry) → slice_get es a ≡ Some x → slice_get es b ≡ Some y → x.start < y.start → a < b
earlier es rising a b x y e f l = elim (cases_order a b) [
  | inl same ↦ absurd (let g : slice_get es a ≡ Some y = rw same f in let z : x ≡ y = cc in let s = ap (λ (w : Entry). w.start) z in omega arith)
  | inr (inl less) ↦ less
  | inr (inr more) ↦ absurd (let s = rising b a y x more f e in omega arith)
]

-- at one place there is one
pub place_one : (es : List Entry) → Rising es → (a b : ℕ) (x y : Entry) → slice_get es a ≡ Some x → slice_get es b ≡ Some y → x.start ≡ y.start → a ≡ b
place_one es rising a b x y e f s = elim (cases_order a b) [
  | inl same ↦ same
  | inr (inl less) ↦ absurd (let l = rising a b x y less e f in omega arith)
  | inr (inr more) ↦ absurd (let l = rising b a y x more f e in omega arith)
]

-- a list has an element before each other one
pub before_it : (es : List Entry) (a b : ℕ) (x : Entry) → a < b → slice_get es b ≡ Some x → (y : Entry) × (slice_get es a ≡ Some y)
before_it es a b x l e = let w = slice_get_within es b x e in (get_or es a x, slice_get-get_or es a x (omega arith))

-- an element is read at each number that is its own
read_at : (es : List Entry) {a b : ℕ} {x : Entry} → a ≡ b → slice_get es a ≡ Some x → slice_get es b ≡ Some x
read_at es same e = rw (← same) e

-- the entries with one number begin at one place
same_place : (es fs : List Entry) → Rising es → Rising fs → Covers es fs → Covers fs es → (n a : ℕ) (x : Entry) → a < n → slice_get es a ≡ Some x
    → (y : Entry) × (slice_get fs a ≡ Some y) × (y.start ≡ x.start)
same_place es fs up on there back zero a x l e = absurd (omega arith)
same_place es fs up on there back (suc n) a x l e =
    let y = there a x e in
    let c = y.0 in
    elim (cases_order c a) [
      | inl same ↦ (y.1, read_at fs same y.2, y.3)
      | inr (inl less) ↦
          let w = before_it es c a x less e in
          let z = same_place es fs up on there back n c w.0 (omega arith) w.1 in
          let one : z.0 ≡ y.1 = (let f = z.1 in let g = y.2 in cc) in
          let s = ap (λ (o : Entry). o.start) one in
          let r = up c a w.0 x less w.1 e in
          absurd (omega (arith, z.2, y.3))
      | inr (inr more) ↦
          let z = before_it fs a c y.1 more y.2 in
          let r = on a c z.0 y.1 more z.1 y.2 in
          let w = back a z.0 z.1 in
          let d = earlier es up w.0 a w.1 x w.2 e (omega (arith, w.3, y.3)) in
          let v = same_place es fs up on there back n w.0 w.1 (omega arith) w.2 in
          let q = on w.0 a v.0 z.0 d v.1 z.1 in
          absurd (omega (arith, v.2, w.3))
    ]

-- an entry is that of a node
entry_node : {t : List ℕ} {es : List Entry} → AreEntries t es → (n : ℕ) (x : Entry) → x.start < n → Contains es x → IsNode t x.start x.end
entry_node are zero x l c = absurd (omega arith)
entry_node {es = es} are (suc n) x l c = elim (are.sound x c) [
  | of_root alone p k kind ↦ root alone
  | of_part p e y is ↦
      let o = part_later y in
      let s = is.start in
      rw (is.start, is.end) (part (entry_node are n p (omega arith) (read_element es x.parent e)) y)
]

pub node_of : {t : List ℕ} {es : List Entry} → AreEntries t es → (x : Entry) → Contains es x → IsNode t x.start x.end
node_of are x = entry_node are (suc x.start) x (omega arith)

-- each entry of one list is in the other
covers : {t : List ℕ} {es fs : List Entry} → AreEntries t es → AreEntries t fs → Covers es fs
covers {es = es} {fs} are ones a x e =
    let y = ones.complete x.start x.end (node_of are x (read_element es a e)) in
    let at = element_at fs y.1 in
    (at.0, y.0, at.1, y.2)

-- labels of one part
label_one : (t : List ℕ) (a b : Kind) {n m h g : ℕ} {k l : Label} → a ≡ b → n ≡ m → h ≡ g → IsLabelled t a n h k → IsLabelled t b m g l → k ≡ l
label_one t Array Array same count place x y = x ∙ ap At count ∙ sym y
label_one t Object Object {h = h} {l = l} same count place (e, b, s, x) (f, c, r, y) =
    let there : IsString strict t h f c = rw place r in
    let o = (string_one s there).0 in
    let z : l ≡ Key h e = rw (place, o) y in
    x ∙ sym z
label_one t Array Object same count place x y = absurd cc
label_one t Object Array same count place x y = absurd cc

-- entries with the same fields are one
pub fields_one : (x y : Entry) → x.start ≡ y.start → x.end ≡ y.end → x.parent ≡ y.parent → x.kind ≡ y.kind → x.label ≡ y.label → x ≡ y
fields_one x y a b c d e =
    let z : ◌≡◌ {A = Entry} (record { start = x.start; end = x.end; parent = x.parent; kind = x.kind; label = x.label })
    (record { start = y.start; end = y.end; parent = y.parent; kind = y.kind; label = y.label }) = rw (a, b, c, d, e) refl in
    z

-- the number of what is around a value, and its label there
record Around (x y : Entry) : Type 0 where
  parent : x.parent ≡ y.parent
  label : x.label ≡ y.label

-- are one, where two lists have an entry that begins at one place
around_both : {t : List ℕ} (es fs : List Entry) → AreEntries t es → AreEntries t fs → (x y : Entry) → x.start ≡ y.start → IsEntry t es x → IsEntry t fs y → Around x y
around_both es fs are ones x y same (of_root a p k o) (of_root b q l r) = record { parent = p ∙ sym q; label = k ∙ sym l }
around_both es fs are ones x y same (of_root a p k o) (of_part q e z is) =
    absurd (let n = node_later (node_of ones q (read_element fs y.parent e)) in let b = part_later z in omega (arith, a.start, is.start))
around_both es fs are ones x y same (of_part p e z is) (of_root b q l r) =
    absurd (let n = node_later (node_of are p (read_element es x.parent e)) in let a = part_later z in omega (arith, b.start, is.start))
around_both {t} es fs are ones x y same (of_part {n} {part = a} p e z is) (of_part {n = m} {part = b} q f w so) =
    let starts : a.start ≡ b.start = sym is.start ∙ same ∙ so.start in
    let one : p.start ≡ q.start = around_one starts (node_of are p (read_element es x.parent e)) (node_of ones q (read_element fs y.parent f)) z w in
    let there = same_place es fs are.rising ones.rising (covers are ones) (covers ones are) (suc x.parent) x.parent p (omega arith) e in
    let parent : x.parent ≡ y.parent = place_one fs ones.rising x.parent y.parent there.0 q there.1 f (there.2 ∙ one) in
    let here : IsPartAt t p.start m b = rw one w in
    let count : n ≡ m = as_many starts z here in
    let again : IsPartAt t p.start n b = rw count here in
    let both : a ≡ b = part_one z again in
    record { parent = parent; label = label_one t a.kind b.kind (ap (λ (o : Part). o.kind) both) count (ap (λ (o : Part). o.item) both) is.label so.label }

-- the type of an entry
pub kind_is : {t : List ℕ} (es : List Entry) (x : Entry) → IsEntry t es x → x.kind ≡ type_at t x.start
kind_is es x (of_root a p k o) = o
kind_is {t} es x (of_part p e z is) = is.kind ∙ ap (type_at t) (sym is.start)

-- and so are they
entry_one : {t : List ℕ} (es fs : List Entry) → AreEntries t es → AreEntries t fs → (x y : Entry) → x.start ≡ y.start → Contains es x → Contains fs y → x ≡ y
entry_one {t} es fs are ones x y same c d =
    let around = around_both es fs are ones x y same (are.sound x c) (ones.sound y d) in
    let there : IsNode t x.start y.end = rw same (node_of ones y d) in
    fields_one x y same (node_one (node_of are x c) there) around.parent (kind_is es x (are.sound x c) ∙ ap (type_at t) same ∙ sym (kind_is fs y (ones.sound y d))) around.label

-- each entry of one list is in the other with its number
alike : {t : List ℕ} (es fs : List Entry) → AreEntries t es → AreEntries t fs → (a : ℕ) (x : Entry) → slice_get es a ≡ Some x → slice_get fs a ≡ Some x
alike es fs are ones a x e =
    let y = same_place es fs are.rising ones.rising (covers are ones) (covers ones are) (suc a) a x (omega arith) e in
    let same : x ≡ y.0 = entry_one es fs are ones x y.0 (sym y.2) (read_element es a e) (read_element fs a y.1) in
    y.1 ∙ ap Some (sym same)

pub entries_one : {t : List ℕ} (es fs : List Entry) → AreEntries t es → AreEntries t fs → es ≡ fs
entries_one es fs are ones = lists_one es fs (alike es fs are ones) (alike fs es ones are)
