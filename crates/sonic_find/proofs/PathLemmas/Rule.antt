-- Under a rule for equal keys a node leads on to one place, or nowhere.
use Rattle.std.proofs.Common.{ℕ, ◌+◌, ◌<◌, List, arith, ◌≡◌, ◌≢◌, ◌⊎◌, inl, inr, refl}
use Rattle.std.proofs.lemmas.Bool.{cases_order}
use Rattle.std.specs.Prelude.{Option}
use Rattle.sonic_find.proofs.PathLemmas.Lead.{node_or_other, named_one, one_more_unnamed, named_leads, first_among, leads_or_not, leads_on_one, none_leads}
use Rattle.sonic_find.specs.Paths.{LeadsOn, LeadsToLast, LeadsToOnly, Repeats, LeadsBy, kind_of, name_of, IsNamed, NoneNamed}
use Rattle.sonic_pointer.specs.declared.rule.KeyRule.{KeyRule}
use Rattle.sonic_pointer.specs.declared.rule.KeyRule.TheVariants.{First, Last, Refuse}
use Rattle.sonic_text.proofs.Insides.{last_fit, comma_after, items_after}
use Rattle.sonic_text.proofs.Items.{head_some}
use Rattle.sonic_text.proofs.Values.{value_never_both, items_one, head-later, value-longer}
use Rattle.sonic_text.specs.Faults.{IsFault}
use Rattle.sonic_text.specs.Faults.IsFault.{in_value, in_key}
use Rattle.sonic_text.specs.Paths.{Node, key, index}
use Rattle.sonic_text.specs.Strings.{strict}
use Rattle.sonic_text.specs.Values.{IsValue, ItemHead, ItemsFit}
use Rattle.sonic_text.specs.Values.ItemsFit.{first_item, next_item}
use Rattle.sonic_text.specs.declared.kind.Kind.{Kind}
use Rattle.sonic_text.specs.declared.kind.Kind.TheVariants.{Object, Array}
use Rattle.sonic_text.specs.declared.stop.Stop.{Stop}

-- the node names an item of the container at i, whose value is expected at v
pub record NamesItem (t : List ℕ) (i : ℕ) (node : Node) (v : ℕ) : Type 0 where
  pub n : ℕ
  pub h : ℕ
  pub fit : ItemsFit strict t (kind_of node) i n h
  pub item : IsNamed t (kind_of node) n h v node

-- so does one that leads on to its first item
pub first_named : {t : List ℕ} {i v : ℕ} {node : Node} → LeadsOn t i node v → NamesItem t i node v
first_named l = record { n = l.n; h = l.h; fit = l.before.fit; item = l.item }

-- or to its last
pub last_named : {t : List ℕ} {i v : ℕ} {node : Node} → LeadsToLast t i node v → NamesItem t i node v
last_named l = record { n = l.n; h = l.h; fit = l.fit; item = l.item }

-- or to any
pub by_named : {t : List ℕ} {i v : ℕ} (r : KeyRule) (node : Node) → LeadsBy r t i node v → NamesItem t i node v
by_named First node l = first_named l
by_named Last (key k) l = last_named l
by_named Last (index n) l = first_named l
by_named Refuse (key k) l = first_named l.first
by_named Refuse (index n) l = first_named l

-- a node that names some item leads to the first of these
pub named_first : {t : List ℕ} {i v : ℕ} (node : Node) → NamesItem t i node v → (w : ℕ) × LeadsOn t i node w
named_first {v = v} node x = elim (first_among node x.fit) [ inl f ↦ f | inr none ↦ (v, named_leads none x.item) ]

-- so a node that leads to no first item leads on to none
pub by_first : {t : List ℕ} {i : ℕ} (r : KeyRule) (node : Node) (v : ℕ) → LeadsBy r t i node v → ((w : ℕ) → ¬ LeadsOn t i node w) → ⊥
by_first r node v l none = let f = named_first node (by_named r node l) in none f.0 f.1

-- the last item that a node names is one
last_one : {t : List ℕ} {i v w : ℕ} {node : Node} → LeadsToLast t i node v → LeadsToLast t i node w → v ≡ w
last_one {t} {i} {v} {w} {node} a b = elim (cases_order a.n b.n) [
  | inl e ↦
      let fit : ItemsFit strict t (kind_of node) i a.n b.h = rw (← e) at b.fit in
      let item : IsNamed t (kind_of node) a.n a.h w node = rw (← e, items_one fit a.fit) at b.item in
      (named_one a.item item).0
  | inr (inl less) ↦ absurd (a.after b.n b.h w less b.fit b.item)
  | inr (inr less) ↦ absurd (b.after a.n a.h v less a.fit a.item)
]

-- under a rule a node leads on to one place
pub leads_by_one : {v w : ℕ} (r : KeyRule) (t : List ℕ) (i : ℕ) (node : Node) → LeadsBy r t i node v → LeadsBy r t i node w → v ≡ w
leads_by_one First t i node a b = leads_on_one a b
leads_by_one Last t i (key k) a b = last_one a b
leads_by_one Last t i (index n) a b = leads_on_one a b
leads_by_one Refuse t i (key k) a b = leads_on_one a.first b.first
leads_by_one Refuse t i (index n) a b = leads_on_one a b

-- of the first n items the node names this one, and none after it
pub record LastAmong (t : List ℕ) (i : ℕ) (kind : Kind) (n : ℕ) (node : Node) : Type 0 where
  pub m : ℕ
  pub g : ℕ
  pub v : ℕ
  pub less : m < n
  pub fit : ItemsFit strict t kind i m g
  pub item : IsNamed t kind m g v node
  pub after : (p f w : ℕ) → m < p → p < n → ItemsFit strict t kind i p f → ¬ IsNamed t kind p f w node

-- it stays the last one where the next item has another name
pub still_last : {t : List ℕ} {i n h v : ℕ} {kind : Kind} {a b : Node} → LastAmong t i kind n b → ItemsFit strict t kind i n h → IsNamed t kind n h v a
    → a ≢ b → LastAmong t i kind (n + 1) b
still_last {t} {i} {n} {h} {kind = kind} {b = b} x is y other = record {
  m = x.m;
  g = x.g;
  v = x.v;
  less = (let l = x.less in omega (arith, l));
  fit = x.fit;
  item = x.item;
  after = λ p f w more l fits named. elim (cases_order p n) [
    | inl same ↦
        let there : ItemsFit strict t kind i n f = rw same at fits in
        let at_n : IsNamed t kind n h w b = rw (same, items_one there is) at named in
        other (named_one y at_n).1
    | inr (inl less) ↦ x.after p f w more less fits named
    | inr (inr past) ↦ absurd (omega (arith, l, past))
  ];
}

-- where the node names the next item, that is the last one
pub now_last : {t : List ℕ} {i n h v : ℕ} {kind : Kind} {node : Node} → ItemsFit strict t kind i n h → IsNamed t kind n h v node
    → LastAmong t i kind (n + 1) node
now_last {n = n} {h} {v} is y = record {
  m = n;
  g = h;
  v = v;
  less = omega arith;
  fit = is;
  item = y;
  after = λ p f w more l fits named. absurd (omega (arith, more, l));
}

-- of the first n items the node names one last, or none
pub last_among : {t : List ℕ} {i n h : ℕ} {kind : Kind} (node : Node) → ItemsFit strict t kind i n h → LastAmong t i kind n node ⊎ NoneNamed t i kind n h node
last_among node (first_item b q d e) = inr (record { fit = first_item b q d e; none = λ p g v l is y. absurd (omega arith) })
last_among {t} {i} {kind = kind} node (next_item {p} {u} {v} {l = label} is y x c q o) = elim (node_or_other (name_of p label) node) [
  | inl same ↦ inl (rw (← o) at (now_last is (record { label = label; head = y; name = same })))
  | inr other ↦ elim (last_among node is) [
    | inl among ↦ inl (rw (← o) at (still_last among is (record { label = label; head = y; name = refl }) other))
    | inr none ↦ inr (one_more_unnamed none (record { label = label; head = y; name = refl }) other (next_item is y x c q o) o)
  ]
]

-- the last one of all that fit is that of a whole container
pub last_of_all : {t : List ℕ} {i n end : ℕ} {node : Node} → IsValue strict t i end → LastAmong t i (kind_of node) n node
    → ((p g : ℕ) → ItemsFit strict t (kind_of node) i p g → p < n) → (v : ℕ) × LeadsToLast t i node v
last_of_all {end = end} whole x most = (
  x.v,
  record {
    end = end;
    whole = whole;
    n = x.m;
    h = x.g;
    fit = x.fit;
    item = x.item;
    after = λ p g w more is y. x.after p g w more (most p g is) is y;
  },
)

-- no more than the items up to the last one fit
past_last : {t : List ℕ} {i n : ℕ} {kind : Kind} → ((p g : ℕ) → n < p → ¬ ItemsFit strict t kind i p g) → (p g : ℕ) → ItemsFit strict t kind i p g → p < n + 1
past_last {n = n} last p g is = elim (cases_order p n) [
  | inl same ↦ omega (arith, same)
  | inr (inl less) ↦ omega (arith, less)
  | inr (inr more) ↦ absurd (last p g more is)
]

-- in a whole value the node leads to the last item that it names, or names none
pub last_or_none : {t : List ℕ} {i end : ℕ} (node : Node) → IsValue strict t i end
    → ((v : ℕ) × LeadsToLast t i node v) ⊎ ((v : ℕ) → ¬ LeadsOn t i node v)
last_or_none {t} {i} node whole = elim (last_fit strict t (kind_of node) i) [
  | inr none ↦ inr (λ v l. none l.n l.h l.before.fit)
  | inl last ↦ elim (head_some strict t (kind_of node) last.h) [
    | inr (s, k, g) ↦
        let fit : ItemsFit strict t Object i last.n last.h = rw k at last.fit in
        absurd (value_never_both whole (in_key fit g))
    | inl (v, label, y) ↦ elim (node_or_other (name_of last.n label) node) [
      | inl same ↦ inl (last_of_all whole (now_last last.fit (record { label = label; head = y; name = same })) (past_last last.last))
      | inr other ↦ elim (last_among node last.fit) [
        | inl among ↦ inl (last_of_all whole (still_last among last.fit (record { label = label; head = y; name = refl }) other) (past_last last.last))
        | inr none ↦ inr (none_leads none (λ w x. other (named_one (record { label = label; head = y; name = refl }) x).1) last.last)
      ]
    ]
  ]
]

-- between two items the node names none
abbrev pub NoneBetween : List ℕ → ℕ → Kind → ℕ → ℕ → Node → Type 0
NoneBetween t i kind m n node = (p g u : ℕ) → m < p → p < n → ItemsFit strict t kind i p g → ¬ IsNamed t kind p g u node

-- the first item after the m-th, of the first n, that the node names
pub record SecondAmong (t : List ℕ) (i : ℕ) (kind : Kind) (m n : ℕ) (node : Node) : Type 0 where
  pub p : ℕ
  pub g : ℕ
  pub w : ℕ
  pub later : m < p
  pub less : p < n
  pub fit : ItemsFit strict t kind i p g
  pub item : IsNamed t kind p g w node
  pub between : NoneBetween t i kind m p node

-- there is one, or none
second_among : {t : List ℕ} {i n h : ℕ} {kind : Kind} (m : ℕ) (node : Node) → ItemsFit strict t kind i n h
    → SecondAmong t i kind m n node ⊎ NoneBetween t i kind m n node
second_among m node (first_item b q d e) = inr (λ p g u more less is y. absurd (omega (arith, less, e)))
second_among {t} {i} {kind = kind} m node (next_item {p} {u} {v} {l = label} is y x c q o) = elim (second_among m node is) [
  | inl a ↦ inl (record { p = a.p; g = a.g; w = a.w; later = a.later; less = (let l = a.less in omega (arith, l, o)); fit = a.fit; item = a.item; between = a.between })
  | inr none ↦ elim (cases_order m p) [
    | inl same ↦ inr (λ j g w more less is y. absurd (omega (arith, more, less, same, o)))
    | inr (inr before) ↦ inr (λ j g w more less is y. absurd (omega (arith, more, less, before, o)))
    | inr (inl after) ↦ elim (node_or_other (name_of p label) node) [
      | inl same ↦ inl (record {
        p = p;
        g = u;
        w = v;
        later = after;
        less = omega (arith, o);
        fit = is;
        item = record { label = label; head = y; name = same };
        between = none;
      })
      | inr other ↦ inr (λ j g w more less fits named. elim (cases_order j p) [
        | inl same ↦
            let there : ItemsFit strict t kind i p g = rw same at fits in
            let at_p : IsNamed t kind p g w node = rw same at named in
            let here : IsNamed t kind p u w node = rw (items_one there is) at at_p in
            other (named_one (record { label = label; head = y; name = refl }) here).1
        | inr (inl before) ↦ none j g w more before fits named
        | inr (inr past) ↦ absurd (omega (arith, less, past, o))
      ])
    ]
  ]
]

-- in a whole value the node leads to the only item that it names, or names a second one, or none
pub only_or_repeats : {t : List ℕ} {i end : ℕ} (node : Node) → IsValue strict t i end
    → ((v : ℕ) × LeadsToOnly t i node v) ⊎ (((q : ℕ) × Repeats t i node q) ⊎ ((v : ℕ) → ¬ LeadsOn t i node v))
only_or_repeats {t} {i} {end} node whole = elim (leads_or_not t i node) [
  | inr none ↦ inr (inr none)
  | inl (v, f) ↦ elim (last_or_none node whole) [
    | inr none ↦ inr (inr none)
    | inl (w, l) ↦ elim (cases_order f.n l.n) [
      | inl same ↦
          let fit : ItemsFit strict t (kind_of node) i f.n l.h = rw (← same) at l.fit in
          let item : IsNamed t (kind_of node) f.n f.h w node = rw (← same, items_one fit f.before.fit) at l.item in
          let one : w ≡ v = (named_one item f.item).0 in
          inl (v, record { first = f; last = rw one at l })
      | inr (inl less) ↦ elim (second_among f.n node l.fit) [
        | inl a ↦ inr (inl (a.g, record { end = end; whole = whole; v = v; first = f; n = a.p; w = a.w; later = a.later; fit = a.fit; item = a.item; between = a.between }))
        | inr none ↦ inr (inl (l.h, record { end = end; whole = whole; v = v; first = f; n = l.n; w = w; later = less; fit = l.fit; item = l.item; between = none }))
      ]
      | inr (inr more) ↦ absurd (l.after f.n f.h v more f.before.fit f.item)
    ]
  ]
]

-- a whole value is at v, and ends before w
abbrev pub EndsBefore : List ℕ → ℕ → ℕ → Type 0
EndsBefore t v w = (e : ℕ) × IsValue strict t v e × (e < w)

-- an item's value ends before a later item, and so before the value of that
pub item_ends : {t : List ℕ} {kind : Kind} {i n m h g v w : ℕ} {l k : Option (List ℕ)} → ItemsFit strict t kind i n h → ItemHead strict t kind h v l
    → ItemsFit strict t kind i m g → ItemHead strict t kind g w k → n < m → EndsBefore t v w
item_ends is y fs z l =
    let x = comma_after is l y fs in
    let after = items_after is y x.1 fs l in
    let later = head-later z in
    (x.0, x.1, omega arith)

-- the first item that a node names has one number
first_place : {t : List ℕ} {i v w : ℕ} {node : Node} (a : LeadsOn t i node v) (b : LeadsOn t i node w) → a.n ≡ b.n
first_place {v = v} {w} a b = elim (cases_order a.n b.n) [
  | inl same ↦ same
  | inr (inl less) ↦ absurd (b.before.none a.n a.h v less a.before.fit a.item)
  | inr (inr less) ↦ absurd (a.before.none b.n b.h w less b.before.fit b.item)
]

-- where the last one has the same value as the first, it is the first
last_place : {t : List ℕ} {i v : ℕ} {node : Node} (a : LeadsOn t i node v) (b : LeadsToLast t i node v) → a.n ≡ b.n
last_place {v = v} a b = elim (cases_order a.n b.n) [
  | inl same ↦ same
  | inr (inl less) ↦ (let x = item_ends a.before.fit a.item.head b.fit b.item.head less in absurd (omega (arith, value-longer x.1, x.2)))
  | inr (inr less) ↦ absurd (b.after a.n a.h v less a.before.fit a.item)
]

-- a second item is no only one
pub only_no_repeats : {t : List ℕ} {i v q : ℕ} {node : Node} → LeadsToOnly t i node v → ¬ Repeats t i node q
only_no_repeats {t} {i} {v} {q} {node} x y =
    let a = first_place x.first y.first in
    let b = last_place x.first x.last in
    let less : x.last.n < y.n = (let l = y.later in omega (arith, a, b, l)) in
    x.last.after y.n q y.w less y.fit y.item

-- a node has one second item
pub repeats_one : {t : List ℕ} {i q p : ℕ} {node : Node} → Repeats t i node q → Repeats t i node p → q ≡ p
repeats_one {t} {i} {q} {p} {node} a b = (let first = first_place a.first b.first in elim (cases_order a.n b.n) [
  | inl same ↦ (let there : ItemsFit strict t (kind_of node) i a.n p = rw (← same) at b.fit in items_one a.fit there)
  | inr (inl less) ↦ absurd (b.between a.n q a.w (let l = a.later in omega (arith, first, l)) less a.fit a.item)
  | inr (inr less) ↦ absurd (a.between b.n p b.w (let l = b.later in omega (arith, first, l)) less b.fit b.item)
])

-- under a rule a node leads on in a whole value, or its key comes twice and that is refused, or it leads to nothing
pub data ByRule : KeyRule → List ℕ → ℕ → Node → Type 0 where
  leads_there : {r : KeyRule} {t : List ℕ} {i : ℕ} {node : Node} (v : ℕ) → LeadsBy r t i node v → ByRule r t i node
  repeats_there : {t : List ℕ} {i q : ℕ} {k : List ℕ} → Repeats t i (key k) q → ByRule Refuse t i (key k)
  nowhere_there : {r : KeyRule} {t : List ℕ} {i : ℕ} {node : Node} → ((v : ℕ) → ¬ LeadsOn t i node v) → ByRule r t i node

-- by the first item
first_by_rule : (t : List ℕ) (i : ℕ) (node : Node) → ByRule First t i node
first_by_rule t i node = elim (leads_or_not t i node) [ inl l ↦ leads_there l.0 l.1 | inr none ↦ nowhere_there none ]

pub by_rule : {t : List ℕ} {i end : ℕ} (r : KeyRule) (node : Node) → IsValue strict t i end → ByRule r t i node
by_rule {t} {i} First node x = first_by_rule t i node
by_rule Last (key k) x = elim (last_or_none (key k) x) [ inl l ↦ leads_there l.0 l.1 | inr none ↦ nowhere_there none ]
by_rule {t} {i} Last (index n) x = elim (leads_or_not t i (index n)) [ inl l ↦ leads_there l.0 l.1 | inr none ↦ nowhere_there none ]
by_rule Refuse (key k) x = elim (only_or_repeats (key k) x) [
  | inl l ↦ leads_there l.0 l.1
  | inr (inl y) ↦ repeats_there y.1
  | inr (inr none) ↦ nowhere_there none
]
by_rule {t} {i} Refuse (index n) x = elim (leads_or_not t i (index n)) [ inl l ↦ leads_there l.0 l.1 | inr none ↦ nowhere_there none ]

-- where the value has a fault, it leads on or doesn't
pub by_rule_or_not : {t : List ℕ} {i : ℕ} {s : Stop} (r : KeyRule) (node : Node) → IsFault strict t i s
    → ((v : ℕ) × LeadsBy r t i node v) ⊎ ((v : ℕ) → ¬ LeadsBy r t i node v)
by_rule_or_not {t} {i} First node f = leads_or_not t i node
by_rule_or_not Last (key k) f = inr (λ v l. value_never_both l.whole f)
by_rule_or_not {t} {i} Last (index n) f = leads_or_not t i (index n)
by_rule_or_not Refuse (key k) f = inr (λ v l. value_never_both l.last.whole f)
by_rule_or_not {t} {i} Refuse (index n) f = leads_or_not t i (index n)

-- a fault of the value to which a node leads is one of the container
pub by_fault : {t : List ℕ} {i v : ℕ} {s : Stop} (r : KeyRule) (node : Node) → LeadsBy r t i node v → IsFault strict t v s → IsFault strict t i s
by_fault r node l f = let y = by_named r node l in in_value y.fit y.item.head f

-- an index leads on under each rule as it does by first equal keys, and so does a key under First
pub plain_leads : (r : KeyRule) (t : List ℕ) (i : ℕ) (node : Node) (v : ℕ) → (r ≡ First) ⊎ (kind_of node ≡ Array) → LeadsOn t i node v → LeadsBy r t i node v
plain_leads First t i node v plain l = l
plain_leads Last t i (index n) v plain l = l
plain_leads Last t i (key k) v (inl e) l = absurd cc
plain_leads Last t i (key k) v (inr e) l = absurd cc
plain_leads Refuse t i (index n) v plain l = l
plain_leads Refuse t i (key k) v (inl e) l = absurd cc
plain_leads Refuse t i (key k) v (inr e) l = absurd cc
