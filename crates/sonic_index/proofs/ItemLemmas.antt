-- How the items of a value lie among the entries, and where a node leads by them.
use Rattle.std.proofs.Common.{◌≡◌, ◌≢◌, ◌∙◌, inl, inr, ℕ, ◌+◌, ◌<◌, ◌≤◌, List, arith, sym, ap, subst₂}
use Rattle.std.proofs.lemmas.Bool.{cases_order}
use Rattle.std.specs.Prelude.{Contains, Some, slice_get}
use Rattle.sonic_text.specs.declared.kind.Kind.{Kind}
use Rattle.sonic_text.specs.Paths.{Node}
use Rattle.sonic_text.specs.Strings.{strict}
use Rattle.sonic_text.specs.Values.{ItemsFit}
use Rattle.sonic_text.proofs.Insides.{item_whole}
use Rattle.sonic_text.proofs.Values.{head-later, value-longer}
use Rattle.sonic_find.specs.Paths.{name_of, IsNamed, LeadsOn, NoneNamed}
use Rattle.sonic_find.proofs.PathLemmas.Lead.{named_leads}
use Rattle.sonic_index.specs.declared.entry.Entry.{Entry}
use Rattle.sonic_index.specs.Entries.{IsLabelled, of_root, of_part, AreEntries}
use Rattle.sonic_index.specs.Internal.Items.{IsNextPart, IsSought}
use Rattle.sonic_index.specs.Nodes.{Part, IsPartAt, part, inside, apart}
use Rattle.sonic_index.proofs.EntryLemmas.{around_one, as_many, before_it, earlier, element_at, node_of, part_later, read_element}
use Rattle.sonic_index.proofs.NodeLemmas.{node_later, node_value, nodes_nested, part_before, part_inside, part_one}
use Rattle.sonic_index.proofs.SearchLemmas.{part_until}

-- the first entry that begins at p or later
pub record IsFirst (es : List Entry) (p c : ℕ) : Type 0 where
  pub before : (d : ℕ) (x : Entry) → d < c → slice_get es d ≡ Some x → x.start < p
  pub from : (d : ℕ) (x : Entry) → c ≤ d → slice_get es d ≡ Some x → p ≤ x.start

-- the parts of the value of x that come after n others begin at p or later, and those before them end there
pub record IsSplit (t : List ℕ) (x : Entry) (n p : ℕ) : Type 0 where
  pub inner : x.start < p
  pub before : (m : ℕ) (y : Part) → m < n → IsPartAt t x.start m y → y.end ≤ p
  pub after : (m : ℕ) (y : Part) → n ≤ m → IsPartAt t x.start m y → p ≤ y.start

-- a part of the value of an entry has an entry
pub part_entry : {t : List ℕ} {es : List Entry} {n : ℕ} {y : Part} → AreEntries t es → (x : Entry) → Contains es x → IsPartAt t x.start n y
    → (d : ℕ) × (w : Entry) × (slice_get es d ≡ Some w) × (w.start ≡ y.start)
part_entry {es = es} {y = y} are x k is =
    let w = are.complete y.start y.end (part (node_of are x k) is) in
    let at = element_at es w.1 in
    (at.0, w.0, at.1, w.2)

-- the first entry from p on begins no later than a part that begins there or later
first_lower : {t : List ℕ} {es : List Entry} {n p c : ℕ} {y : Part} → AreEntries t es → (x z : Entry) → Contains es x → IsFirst es p c → slice_get es c ≡ Some z
    → IsPartAt t x.start n y → p ≤ y.start → z.start ≤ y.start
first_lower {es = es} {c = c} {y} are x z k first e is l =
    let d = part_entry are x k is in
    elim (cases_order y.start z.start) [
      | inl same ↦ omega (arith, same)
      | inr (inl less) ↦
          let early = earlier es are.rising d.0 c d.1 z d.2 e (omega (arith, less, d.3)) in
          let low = first.before d.0 d.1 early d.2 in
          absurd (omega (arith, low, d.3, l))
      | inr (inr more) ↦ omega (arith, more)
    ]

-- it is that of the next part, where it begins inside
next_some : {t : List ℕ} {es : List Entry} {n p c : ℕ} → AreEntries t es → (x z : Entry) → Contains es x → IsSplit t x n p → IsFirst es p c → slice_get es c ≡ Some z
    → z.start < x.end → (y : Part) × IsPartAt t x.start n y × (y.start ≡ z.start)
next_some {t} {es} {n} {p} {c} are x z k split first e within =
    let w = node_of are z (read_element es c e) in
    let v = node_of are x k in
    let from = first.from c z (omega arith) e in
    let wide = value-longer (node_value w) in
    elim (nodes_nested v w (omega (arith, split.inner, from))) [
      | apart o ↦ absurd (omega (arith, o, within))
      | inside {n = m} {x = y} is a b ↦ elim (cases_order m n) [
        | inl same ↦
            let low = first_lower are x z k first e is (split.after m y (omega (arith, same)) is) in
            let here : IsPartAt t x.start n y = rw same at is in
            (y, here, omega (arith, low, a))
        | inr (inl less) ↦ (let q = split.before m y less is in absurd (omega (arith, q, from, wide, b)))
        | inr (inr more) ↦
            let o = part_until n y.kind (node_value v) is.before (omega (arith, more)) in
            let low = first_lower are x z k first e o.1 (split.after n o.0 (omega arith) o.1) in
            let less = part_before o.1 is more in
            absurd (omega (arith, low, less, value-longer o.1.value, head-later is.head, a))
      ]
    ]

-- and where none does, there is no next part
next_none : {t : List ℕ} {es : List Entry} {n p c : ℕ} → AreEntries t es → (x : Entry) → Contains es x → IsSplit t x n p → IsFirst es p c
    → ((z : Entry) → slice_get es c ≡ Some z → x.end ≤ z.start) → (y : Part) → ¬ IsPartAt t x.start n y
next_none {es = es} {n} {c = c} are x k split first past y is =
    let d = part_entry are x k is in
    let from = split.after n y (omega arith) is in
    let within = part_inside (node_value (node_of are x k)) is in
    elim (cases_order d.0 c) [
      | inl same ↦
          let at : slice_get es c ≡ Some d.1 = rw same at d.2 in
          omega (arith, past d.1 at, d.3, within.2, within.3)
      | inr (inl less) ↦ omega (arith, first.before d.0 d.1 less d.2, d.3, from)
      | inr (inr more) ↦
          let z = before_it es c d.0 d.1 more d.2 in
          omega (arith, past z.0 z.1, are.rising c d.0 z.0 d.1 more z.1 d.2, d.3, within.2, within.3)
    ]

next_at : {t : List ℕ} {es : List Entry} {n p c : ℕ} → AreEntries t es → (x : Entry) → Contains es x → IsSplit t x n p → IsFirst es p c → IsNextPart t es x n c
next_at are x k split first = record { some = λ z e l. next_some are x z k split first e l; none = λ past y is. next_none are x k split first past y is }

-- the first part is that of the entry after that of the value
pub sought_first : {t : List ℕ} {es : List Entry} → AreEntries t es → (i : ℕ) (x : Entry) (node : Node) → slice_get es i ≡ Some x → IsSought t es x node (i + 1)
sought_first {t} {es} are i x node e =
    let split : IsSplit t x 0 (x.start + 1) = record {
      inner = omega arith;
      before = λ m y l is. absurd (omega (arith, l));
      after = λ m y l is. omega (arith, part_later is);
    } in
    let first : IsFirst es (x.start + 1) (i + 1) = record {
      before = λ d z l f. elim (cases_order d i) [
        | inl same ↦ (let at : slice_get es i ≡ Some z = rw same at f in let one : z ≡ x = cc in omega (arith, ap (λ (o : Entry). o.start) one))
        | inr (inl less) ↦ omega (arith, are.rising d i z x less f e)
        | inr (inr more) ↦ absurd (omega (arith, l, more))
      ];
      from = λ d z l f. omega (arith, are.rising i d x z (omega (arith, l)) e f);
    } in
    record { n = 0; unnamed = λ m y l is. absurd (omega (arith, l)); next = next_at are x (read_element es i e) split first }

-- where the node doesn't name a part, the next one is that of the first entry after it
pub sought_next : {t : List ℕ} {es : List Entry} {c d : ℕ} {y : Part} → AreEntries t es → (x : Entry) (node : Node) → Contains es x → (s : IsSought t es x node c)
    → IsPartAt t x.start s.n y → name_of s.n y.label ≢ node → IsFirst es y.end d → IsSought t es x node d
sought_next {t} {y = y} are x node k s is other first =
    let split : IsSplit t x (s.n + 1) y.end = record {
      inner = omega (arith, part_later is, value-longer is.value);
      before = λ m z l there. elim (cases_order m s.n) [
        | inl same ↦ (let here : IsPartAt t x.start s.n z = rw same at there in omega (arith, ap (λ (o : Part). o.end) (part_one here is)))
        | inr (inl less) ↦ omega (arith, part_before there is less, head-later is.head, value-longer is.value)
        | inr (inr more) ↦ absurd (omega (arith, l, more))
      ];
      after = λ m z l there. omega (arith, part_before is there (omega (arith, l)), head-later there.head);
    } in
    record {
      n = s.n + 1;
      unnamed = λ m z l there. elim (cases_order m s.n) [
        | inl same ↦
            let here : IsPartAt t x.start s.n z = rw same at there in
            let one : z ≡ y = part_one here is in
            rw (same, one) other
        | inr (inl less) ↦ s.unnamed m z less there
        | inr (inr more) ↦ absurd (omega (arith, l, more))
      ];
      next = next_at are x k split first;
    }

-- an item of a whole value that is named is a part
pub named_part : {t : List ℕ} {es : List Entry} {kind : Kind} {p g v : ℕ} {node : Node} → AreEntries t es → (x : Entry) → Contains es x → ItemsFit strict t kind x.start p g
    → IsNamed t kind p g v node → (y : Part) × IsPartAt t x.start p y × (name_of p y.label ≡ node)
named_part {kind = kind} {g = g} {v} are x k fit item =
    let w = item_whole (node_value (node_of are x k)) fit item.head in
    (record { kind = kind; item = g; label = item.label; start = v; end = w.0 }, record { before = fit; head = item.head; value = w.1 }, item.name)

-- where the node names the part, it leads on to it
pub sought_leads : {t : List ℕ} {es : List Entry} {c : ℕ} {y : Part} → AreEntries t es → (x : Entry) (node : Node) → Contains es x → (s : IsSought t es x node c)
    → IsPartAt t x.start s.n y → name_of s.n y.label ≡ node → LeadsOn t x.start node y.start
sought_leads {t} {y = y} are x node k s is same =
    let none : NoneNamed t x.start y.kind s.n y.item node = record {
      fit = is.before;
      none = λ p g v l fit item. let z = named_part are x k fit item in s.unnamed p z.0 l z.1 z.2;
    } in
    named_leads none (record { label = y.label; head = is.head; name = same })

-- and where there is no next part, it leads to nothing
none_named : {t : List ℕ} {es : List Entry} {c p : ℕ} {y : Part} → AreEntries t es → (x : Entry) (node : Node) → Contains es x → (s : IsSought t es x node c)
    → ((z : Part) → ¬ IsPartAt t x.start s.n z) → IsPartAt t x.start p y → name_of p y.label ≡ node → ⊥
none_named {t} {p = p} {y} are x node k s none is same = elim (cases_order p s.n) [
  | inl e ↦ (let here : IsPartAt t x.start s.n y = rw e at is in none y here)
  | inr (inl less) ↦ s.unnamed p y less is same
  | inr (inr more) ↦ (let z = part_until s.n y.kind (node_value (node_of are x k)) is.before (omega (arith, more)) in none z.0 z.1)
]

pub sought_none : {t : List ℕ} {es : List Entry} {c : ℕ} → AreEntries t es → (x : Entry) (node : Node) → Contains es x → (s : IsSought t es x node c)
    → ((y : Part) → ¬ IsPartAt t x.start s.n y) → (v : ℕ) → ¬ LeadsOn t x.start node v
sought_none are x node k s none v l = let z = named_part are x k l.before.fit l.item in none_named are x node k s none z.1 z.2

-- the entry of a part is labelled so
pub part_labelled : {t : List ℕ} {es : List Entry} {n : ℕ} {y : Part} → AreEntries t es → (x z : Entry) → Contains es x → Contains es z → IsPartAt t x.start n y
    → y.start ≡ z.start → IsLabelled t y.kind n y.item z.label
part_labelled {t} {es} {n} {y} are x z k l is same = elim (are.sound z l) [
  | of_root alone p label kind ↦ absurd (omega (arith, node_later (node_of are x k), part_later is, alone.start, same))
  | of_part {n = m} {part = o} p e w there ↦
      let starts : o.start ≡ y.start = sym there.start ∙ sym same in
      let one : p.start ≡ x.start = around_one starts (node_of are p (read_element es z.parent e)) (node_of are x k) w is in
      let here : IsPartAt t x.start m o = rw one at w in
      let count : m ≡ n = as_many starts here is in
      let again : IsPartAt t x.start n o = rw count at here in
      let both : o ≡ y = part_one again is in
      subst₂ (λ (a : Part) b. IsLabelled t a.kind b a.item z.label) both count there.label
]
