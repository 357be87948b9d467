-- A node leads on to the first item that it names, or nowhere.
use Rattle.std.proofs.Common.{ℕ, ◌<◌, List, arith, ◌≡◌, ◌≢◌, ◌∙◌, ◌⊎◌, inl, inr, sym, ap, ◌+◌, Bool, true, false, Decides, refl}
use Rattle.std.proofs.lemmas.Bool.{cases_eq, cases_order}
use Rattle.std.proofs.lemmas.Slice.Eq.{bytes_eq-Decides}
use Rattle.std.specs.Str.{bytes_eq}
use Rattle.sonic_find.specs.Paths.{LeadsOn, kind_of, name_of, IsNamed, NoneNamed}
use Rattle.sonic_text.proofs.Insides.{last_fit, not_past_key, not_past_value, not_past_byte}
use Rattle.sonic_text.proofs.Items.{head_one, head_some, head_never_both}
use Rattle.sonic_text.proofs.Places.{after_space_later}
use Rattle.sonic_text.proofs.Values.{head-later, items_one, items_kind, value-longer, items_open, items_not_empty}
use Rattle.sonic_text.specs.Faults.{IsFault, IsKeyFault}
use Rattle.sonic_text.specs.Faults.IsFault.{in_value}
use Rattle.sonic_text.specs.Paths.{Node, key, index}
use Rattle.sonic_text.specs.Places.{byte, after_space}
use Rattle.sonic_text.specs.Strings.{strict}
use Rattle.sonic_text.specs.Values.{IsValue, no_head, key_head, ItemsFit, opening, closing}
use Rattle.sonic_text.specs.Values.ItemsFit.{first_item, next_item}
use Rattle.sonic_text.specs.declared.kind.Kind.{Kind}
use Rattle.sonic_text.specs.declared.kind.Kind.TheVariants.{Object}
use Rattle.sonic_text.specs.declared.stop.Stop.{Stop}

-- a fault of the value to which a node leads is one of the container
pub leads_to_fault : {t : List ℕ} {i v : ℕ} {node : Node} {s : Stop} → LeadsOn t i node v → IsFault strict t v s → IsFault strict t i s
leads_to_fault l g = in_value l.before.fit l.item.head g

-- as the test says
text_by_test : (a b : List ℕ) (r : Bool) → Decides r (a ≡ b) → (a ≡ b) ⊎ (a ≢ b)
text_by_test a b true d = inl (d.0 refl)
text_by_test a b false d = inr (λ e. let h = d.1 e in absurd cc)

-- two nodes are the same or not
pub node_or_other : (a b : Node) → (a ≡ b) ⊎ (a ≢ b)
node_or_other (key a) (key b) = elim (text_by_test a b (bytes_eq a b) (bytes_eq-Decides a b)) [ inl e ↦ inl (ap key e) | inr d ↦ inr (λ e. d cc) ]
node_or_other (index n) (index m) = elim (cases_eq n m) [ inl e ↦ inl (ap index e) | inr d ↦ inr (λ e. d cc) ]
node_or_other (key a) (index n) = inr (λ e. cc)
node_or_other (index n) (key a) = inr (λ e. cc)

-- an item has one value and one name
pub named_one : {t : List ℕ} {kind : Kind} {n h v w : ℕ} {a b : Node} → IsNamed t kind n h v a → IsNamed t kind n h w b → (v ≡ w) × (a ≡ b)
named_one {n = n} x y = let one = head_one x.head y.head in (one.0, sym x.name ∙ (ap (name_of n) one.1 ∙ y.name))

-- and its name asks for the kind of its container
pub named_kind : {t : List ℕ} {kind : Kind} {n h v : ℕ} {node : Node} → IsNamed t kind n h v node → kind_of node ≡ kind
named_kind {n = n} x = elim x.head as (λ kind h v label head. name_of n label ≡ _ → kind_of _ ≡ kind) [
  | no_head e ↦ λ name. rw (← name) refl
  | key_head y ↦ λ name. rw (← name) refl
] x.name

-- where an item has another name, the items up to it have other names
pub one_more_unnamed : {t : List ℕ} {i n h v m g : ℕ} {kind : Kind} {a b : Node} → NoneNamed t i kind n h b → IsNamed t kind n h v a → a ≢ b
    → ItemsFit strict t kind i m g → m ≡ n + 1 → NoneNamed t i kind m g b
one_more_unnamed {t} {i} {n} {h} {kind = kind} {b = b} before x other fit e = record {
  fit = fit;
  none = λ p g w l is y. elim (cases_order p n) [
    | inl same ↦
        let at_n : ItemsFit strict t kind i n g = rw same at is in
        let named : IsNamed t kind n h w b = rw (same, items_one at_n before.fit) at y in
        other (named_one x named).1
    | inr (inl less) ↦ before.none p g w less is y
    | inr (inr more) ↦ absurd (omega arith)
  ];
}

-- a node that names no item before leads on to the item that it names
pub named_leads : {t : List ℕ} {i n h v : ℕ} {kind : Kind} {node : Node} → NoneNamed t i kind n h node → IsNamed t kind n h v node → LeadsOn t i node v
named_leads {n = n} {h} none x =
    let same = named_kind x in
    record { n = n; h = h; before = rw same none; item = rw same x }

-- of the items that fit one is the first that the node names, or it names none
pub first_among : {t : List ℕ} {i n h : ℕ} {kind : Kind} (node : Node) → ItemsFit strict t kind i n h
    → ((v : ℕ) × LeadsOn t i node v) ⊎ NoneNamed t i kind n h node
first_among node (first_item b q d e) = inr (record { fit = first_item b q d e; none = λ p g v l is y. absurd (omega arith) })
first_among node (next_item {p} {u} {v} {l = label} is y x c q o) = elim (first_among node is) [
  | inl f ↦ inl f
  | inr none ↦ elim (node_or_other (name_of p label) node) [
    | inl same ↦ inl (v, named_leads none (record { label = label; head = y; name = same }))
    | inr other ↦ inr (one_more_unnamed none (record { label = label; head = y; name = refl }) other (next_item is y x c q o) o)
  ]
]

-- no further item than the first n fits, and perhaps the next
abbrev pub NoFurther : List ℕ → ℕ → Kind → ℕ → Type 0
NoFurther t i kind n = (p g : ℕ) → n < p → ¬ ItemsFit strict t kind i p g

-- where no further item fits, a node that names none leads nowhere
pub none_leads : {t : List ℕ} {i n h : ℕ} {kind : Kind} {node : Node} → NoneNamed t i kind n h node → ((v : ℕ) → ¬ IsNamed t kind n h v node)
    → NoFurther t i kind n → (v : ℕ) → ¬ LeadsOn t i node v
none_leads {t} {i} {n} {h} {kind} {node} none other further v l =
    let same : kind_of node ≡ kind = items_kind l.before.fit none.fit in
    let fit : ItemsFit strict t kind i l.n l.h = rw same at l.before.fit in
    let item : IsNamed t kind l.n l.h v node = rw same at l.item in
    elim (cases_order l.n n) [
      | inl e ↦
          let at_n : ItemsFit strict t kind i n l.h = rw e at fit in
          let named : IsNamed t kind n h v node = rw (e, items_one at_n none.fit) at item in
          other v named
      | inr (inl less) ↦ none.none l.n l.h v less fit item
      | inr (inr more) ↦ further l.n l.h more fit
    ]

-- a node leads on or doesn't
pub leads_or_not : (t : List ℕ) (i : ℕ) (node : Node) → ((v : ℕ) × LeadsOn t i node v) ⊎ ((v : ℕ) → ¬ LeadsOn t i node v)
leads_or_not t i node = elim (last_fit strict t (kind_of node) i) [
  | inr none ↦ inr (λ v l. none l.n l.h l.before.fit)
  | inl last ↦ elim (first_among node last.fit) [
    | inl f ↦ inl f
    | inr none ↦ elim (head_some strict t (kind_of node) last.h) [
      | inr (s, k, f) ↦ inr (none_leads none (λ v x. head_never_both k x.head f) last.last)
      | inl (v, label, y) ↦ elim (node_or_other (name_of last.n label) node) [
        | inl same ↦ inl (v, named_leads none (record { label = label; head = y; name = same }))
        | inr other ↦ inr (none_leads none (λ w x. other (named_one (record { label = label; head = y; name = refl }) x).1) last.last)
      ]
    ]
  ]
]

-- a node leads on to one place
pub leads_on_one : {t : List ℕ} {i v w : ℕ} {node : Node} → LeadsOn t i node v → LeadsOn t i node w → v ≡ w
leads_on_one {t} {i} {v} {w} {node} a b = elim (cases_order a.n b.n) [
  | inl e ↦
      let fit : ItemsFit strict t (kind_of node) i a.n b.h = rw (← e) at b.before.fit in
      let item : IsNamed t (kind_of node) a.n a.h w node = rw (← e, items_one fit a.before.fit) at b.item in
      (named_one a.item item).0
  | inr (inl less) ↦ absurd (b.before.none a.n a.h v less a.before.fit a.item)
  | inr (inr less) ↦ absurd (a.before.none b.n b.h w less b.before.fit b.item)
]

-- another node than that of the item
pub not_named : {t : List ℕ} {n h v : ℕ} {kind : Kind} {a b : Node} → IsNamed t kind n h v a → a ≢ b → (w : ℕ) → ¬ IsNamed t kind n h w b
not_named x other = λ w y. other (named_one x y).1

-- after the fault of an item's value no further item fits
pub past_value : {t : List ℕ} {i n h v : ℕ} {kind : Kind} {node : Node} {s : Stop} → ItemsFit strict t kind i n h → IsNamed t kind n h v node
    → IsFault strict t v s → NoFurther t i kind n
past_value is x f = λ p g l fs. not_past_value is l x.head f fs

-- nor after a byte that is no comma
pub past_byte : {t : List ℕ} {i n h v e : ℕ} {kind : Kind} {node : Node} → ItemsFit strict t kind i n h → IsNamed t kind n h v node → IsValue strict t v e
    → byte t (after_space t e) ≢ 44 → NoFurther t i kind n
past_byte is x y c = λ p g l fs. not_past_byte is l x.head y c fs

-- nor after what is no key
pub past_key : {t : List ℕ} {i n h : ℕ} {kind : Kind} {s : Stop} → kind ≡ Object → ItemsFit strict t kind i n h → IsKeyFault strict t h s
    → NoFurther t i kind n
past_key same is f = λ p g l fs. not_past_key same is l f fs

-- the items that fit are fewer than the places before the next
pub count_below : {t : List ℕ} {i n h : ℕ} {kind : Kind} → ItemsFit strict t kind i n h → n < h
count_below {t} {i} (first_item b q d o) = omega (arith, after_space_later t (i + 1))
count_below {t} (next_item {e = e} is y x c q o) =
    let l = count_below is in
    let g = head-later y in
    let k = value-longer x in
    omega (arith, after_space_later t e, after_space_later t (after_space t e + 1))

-- before the first item no node names one
pub first_unnamed : {t : List ℕ} {i h : ℕ} {kind : Kind} (node : Node) → ItemsFit strict t kind i 0 h → NoneNamed t i kind 0 h node
first_unnamed node is = record { fit = is; none = λ p g v l. absurd (omega arith) }

-- where no container of the kind begins, a node that asks for one leads nowhere
pub none_unopened : {t : List ℕ} {i : ℕ} {kind : Kind} → byte t i ≢ opening kind → (node : Node) (v : ℕ) → kind_of node ≡ kind → ¬ LeadsOn t i node v
none_unopened other node v same l = other (rw same at (items_open l.before.fit))

-- nor where an empty one does
pub none_empty : {t : List ℕ} {i : ℕ} {kind : Kind} → byte t (after_space t (i + 1)) ≡ closing kind → (node : Node) (v : ℕ) → kind_of node ≡ kind
    → ¬ LeadsOn t i node v
none_empty {t} {i} {kind} c node v same l =
    let other : byte t (after_space t (i + 1)) ≢ closing kind = rw same at (items_not_empty l.before.fit) in
    other c
