-- Where containers are nested, and that the first that is too deep comes before the fault.
use Rattle.std.proofs.Common.{◌≡◌, ◌≢◌, inl, inr, ℕ, ◌+◌, ◌<◌, ◌≤◌, List, arith, refl, sym, ◌∙◌}
use Rattle.std.proofs.Common.{Ok, Err}
use Rattle.std.proofs.lemmas.Bool.{cases_order}
use Rattle.std.specs.Prelude.{Option}
use Rattle.sonic_text.proofs.Insides.{not_past_byte, not_past_key, not_past_value, comma_after, items_after, item_whole, item_before_end, item_before_fault}
use Rattle.sonic_text.proofs.Items.{at_key, at_value, head_one, head_never_both, opening_one}
use Rattle.sonic_text.proofs.Outcomes.{value_some_outcome}
use Rattle.sonic_text.proofs.Places.{after_space_later}
use Rattle.sonic_text.proofs.Stops.{stop_at_from, key_fault_from, fault_from}
use Rattle.sonic_text.proofs.Values.{ContainerOutcome, no_item, at_last, container_outcome, head-later, value-longer, items-later, items_open, items_not_empty, items_one, value_fault_one}
use Rattle.sonic_text.proofs.Within.{value_within, items_within, head_within}
use Rattle.sonic_text.specs.Faults.{code_after_item, IsKeyFault, IsFault, in_value}
use Rattle.sonic_text.specs.Places.{byte, after_space, stop_at}
use Rattle.sonic_text.specs.Strings.{strict}
use Rattle.sonic_text.specs.Values.{opening, closing, ItemHead, IsValue, ItemsFit}
use Rattle.sonic_text.specs.declared.kind.Kind.{Kind}
use Rattle.sonic_text.specs.declared.kind.Kind.TheVariants.{Object}
use Rattle.sonic_text.specs.declared.stop.Stop.{Stop}
use Rattle.sonic_value.specs.Depths.{IsInside, at_the_value, inside_an_item, IsNested, IsTooDeep, IsShallow}

-- a place inside comes at or after the value's own
pub inside-later : {t : List ℕ} {i p n : ℕ} → IsInside t i p n → i ≤ p
inside-later (at_the_value e z) = omega arith
inside-later (inside_an_item is y x e) = omega (arith, items-later is, head-later y, inside-later x)

-- and before its end
pub inside_before_end : {t : List ℕ} {i p n j : ℕ} → IsInside t i p n → IsValue strict t i j → p < j
inside_before_end (at_the_value e z) x = omega (arith, value-longer x)
inside_before_end (inside_an_item is y inside e) x =
    let w = item_whole x is y in
    omega (arith, inside_before_end inside w.1, item_before_end is y w.1 x)

-- a container has its fault after its bracket
outcome_later : {t : List ℕ} {kind : Kind} {i : ℕ} {s : Stop} → ContainerOutcome strict t kind i (Err s) → i < s.place
outcome_later (no_item c q) = absurd cc
outcome_later {s = s} (at_last is (at_key {s = r} k f q)) =
    let same : s ≡ r = cc in
    rw same (omega (arith, items-later is, key_fault_from f (items_within is)))
outcome_later {s = s} (at_last is (at_value (Err r) y f q)) =
    let same : s ≡ r = cc in
    rw same (omega (arith, items-later is, head-later y, fault_from f (head_within y (items_within is))))
outcome_later (at_last is (at_value (Ok e) y x (inl a))) = absurd (let clash = a.1 in cc)
outcome_later {t} {kind} {i} {s} (at_last is (at_value (Ok e) y x (inr a))) =
    let stop = a.1 in
    let later = after_space_later t e in
    let order : i + 1 ≤ e = omega (arith, items-later is, head-later y, value-longer x) in
    let is_stop : s ≡ stop_at t (after_space t e) (code_after_item kind) = cc in
    let from : i + 1 ≤ s.place = stop_at_from t (after_space t e) (code_after_item kind) s is_stop (omega arith) (omega (arith, value_within x)) in
    omega (arith, from)

-- a container inside comes before the fault
pub nested_before_fault : {t : List ℕ} (kind : Kind) {i p n : ℕ} {s : Stop} → IsInside t i p n → byte t p ≡ opening kind → IsFault strict t i s → p < s.place
nested_before_fault {t} kind {i} {s = s} (at_the_value e z) b f =
    let own : byte t i ≡ opening kind = rw e at b in
    rw e (outcome_later (container_outcome (Err s) own f))
nested_before_fault {t} kind {s = s} (inside_an_item {v = v} is y inside e) b f = elim (value_some_outcome strict t v) [
  | inl w ↦ omega (arith, inside_before_end inside w.1, item_before_fault is y w.1 f)
  | inr g ↦
      let same = value_fault_one (in_value is y g.1) f in
      rw (← same) (nested_before_fault kind inside b g.1)
]

-- in what is no container none is nested
pub scalar_shallow : {t : List ℕ} {n i : ℕ} → ((kind : Kind) → byte t i ≢ opening kind) → IsShallow t n i
scalar_shallow {t} {i = i} none p x = elim x.inside [
  | at_the_value e z ↦ (let own : byte t i ≡ opening x.kind = rw e at x.bracket in none x.kind own)
  | inside_an_item {kind} is y inside e ↦ none kind (items_open is)
]

-- a container is too deep where none may be
pub too_deep_here : {t : List ℕ} (kind : Kind) {i : ℕ} → byte t i ≡ opening kind → IsTooDeep t 0 i i
too_deep_here kind b = record {
  nested = record { kind = kind; inside = at_the_value refl refl; bracket = b };
  first = λ q x. inside-later x.inside;
}

-- a container at q inside m open ones of an item of the container at i
record IsInItem (t : List ℕ) (kind : Kind) (m i q : ℕ) : Type 0 where
  count : ℕ
  h : ℕ
  v : ℕ
  label : Option (List ℕ)
  fit : ItemsFit strict t kind i count h
  head : ItemHead strict t kind h v label
  nested : IsNested t m v q

-- what is nested in a container is so in one of its items
in_item : {t : List ℕ} (kind : Kind) (m : ℕ) {i q : ℕ} → byte t i ≡ opening kind → IsNested t (m + 1) i q → IsInItem t kind m i q
in_item {t} kind m {i} {q} b x = elim x.inside [
  | at_the_value e z ↦ absurd (omega (arith, z))
  | inside_an_item {kind = k} {h = h} {v = v} {m = r} {l = l} is y inside e ↦
      let depth : r ≡ m = omega (arith, e) in
      let same : k ≡ kind = opening_one k kind (sym (items_open is) ∙ b) in
      record {
        count = _;
        h = h;
        v = v;
        label = l;
        fit = rw same at is;
        head = rw same at y;
        nested = record { kind = x.kind; inside = rw depth at inside; bracket = x.bracket };
      }
]

-- nothing is nested in an empty container
pub empty_shallow : {t : List ℕ} (kind : Kind) (m : ℕ) {i : ℕ} → byte t i ≡ opening kind → byte t (after_space t (i + 1)) ≡ closing kind → IsShallow t (m + 1) i
empty_shallow kind m b c q x = items_not_empty (in_item kind m b x).fit c

-- in none of the first n items a container is inside m others
abbrev pub AreShallow : List ℕ → Kind → ℕ → ℕ → ℕ → Type 0
AreShallow t kind m i n = (p h v : ℕ) (l : Option (List ℕ)) → p < n → ItemsFit strict t kind i p h → ItemHead strict t kind h v l → IsShallow t m v

module _ {t : List ℕ} {kind : Kind} {i n h : ℕ} (m : ℕ) (is : ItemsFit strict t kind i n h) (before : AreShallow t kind m i n) where
  -- nor in one that is at the same place as one in which there is none
  same_shallow : {g v w : ℕ} {l k : Option (List ℕ)} → ItemHead strict t kind h v l → IsShallow t m v → ItemsFit strict t kind i n g → ItemHead strict t kind g w k
      → IsShallow t m w
  same_shallow {w = w} {k = k} y shallow fs z =
      let head : ItemHead strict t kind h w k = rw (items_one fs is) at z in
      rw (← (head_one y head).0) shallow

  -- so in none of one item more
  pub more_shallow : {v : ℕ} {l : Option (List ℕ)} → ItemHead strict t kind h v l → IsShallow t m v → AreShallow t kind m i (n + 1)
  more_shallow y shallow p g w k less fs z = elim (cases_order p n) [
    | inl e ↦ (let gs : ItemsFit strict t kind i n g = rw e at fs in same_shallow y shallow gs z)
    | inr (inl l) ↦ before p g w k l fs z
    | inr (inr l) ↦ absurd (omega arith)
  ]

  -- and where no further one fits, in none of the container
  last_shallow : {v : ℕ} {l : Option (List ℕ)} → ItemHead strict t kind h v l → IsShallow t m v → ((p g : ℕ) → n < p → ¬ ItemsFit strict t kind i p g)
      → IsShallow t (m + 1) i
  last_shallow y shallow last q x =
      let w = in_item kind m (items_open is) x in
      elim (cases_order w.count n) [
        | inl e ↦ (let gs : ItemsFit strict t kind i n w.h = rw e at w.fit in same_shallow y shallow gs w.head q w.nested)
        | inr (inl l) ↦ before w.count w.h w.v w.label l w.fit w.head q w.nested
        | inr (inr l) ↦ last w.count w.h l w.fit
      ]

  -- the container ends after the item, or nothing that fits follows it
  pub whole_shallow : {v e : ℕ} {l : Option (List ℕ)} → ItemHead strict t kind h v l → IsShallow t m v → IsValue strict t v e → byte t (after_space t e) ≢ 44
      → IsShallow t (m + 1) i
  whole_shallow y shallow x other = last_shallow y shallow (λ p g l. not_past_byte is l y x other)

  -- or the item's value has a fault
  pub fault_shallow : {v : ℕ} {l : Option (List ℕ)} {s : Stop} → ItemHead strict t kind h v l → IsShallow t m v → IsFault strict t v s → IsShallow t (m + 1) i
  fault_shallow y shallow f = last_shallow y shallow (λ p g l. not_past_value is l y f)

  -- or its key
  pub key_shallow : {s : Stop} → kind ≡ Object → IsKeyFault strict t h s → IsShallow t (m + 1) i
  key_shallow k f q x =
      let w = in_item kind m (items_open is) x in
      elim (cases_order w.count n) [
        | inl e ↦
            let gs : ItemsFit strict t kind i n w.h = rw e at w.fit in
            let head : ItemHead strict t kind h w.v w.label = rw (items_one gs is) at w.head in
            head_never_both k head f
        | inr (inl l) ↦ before w.count w.h w.v w.label l w.fit w.head q w.nested
        | inr (inr l) ↦ not_past_key k is l f w.fit
      ]

  -- what is too deep in the item is so in the container
  pub item_too_deep : {v p : ℕ} {l : Option (List ℕ)} → ItemHead strict t kind h v l → IsTooDeep t m v p → IsTooDeep t (m + 1) i p
  item_too_deep {v} {p} {l} y x = record {
    nested = record { kind = x.nested.kind; inside = inside_an_item is y x.nested.inside refl; bracket = x.nested.bracket };
    first = λ q z.
        let w = in_item kind m (items_open is) z in
        elim (cases_order w.count n) [
          | inl e ↦
              let gs : ItemsFit strict t kind i n w.h = rw e at w.fit in
              let head : ItemHead strict t kind h w.v w.label = rw (items_one gs is) at w.head in
              x.first q (rw (← (head_one y head).0) at w.nested)
          | inr (inl less) ↦ absurd (before w.count w.h w.v w.label less w.fit w.head q w.nested)
          | inr (inr more) ↦
              let ends = comma_after is more y w.fit in
              omega (arith, inside_before_end x.nested.inside ends.1, items_after is y ends.1 w.fit more, head-later w.head, inside-later w.nested.inside)
        ];
  }
