-- What is in a container: its items within the text, one after the other, before its end and its fault.
use Rattle.std.proofs.Common.{refl, ◌≡◌, ◌≢◌, ◌⊎◌, inl, inr, ℕ, ◌+◌, ◌<◌, ◌≤◌, arith}
use Rattle.std.proofs.Common.{Result, Ok, Err, MatchResult}
use Rattle.std.proofs.lemmas.Bool.{cases_eq, cases_order}
use Rattle.std.specs.Prelude.{Bool, List, Option}
use Rattle.sonic_text.specs.declared.kind.Kind.{Kind}
use Rattle.sonic_text.specs.declared.kind.Kind.TheVariants.{Object}
use Rattle.sonic_text.specs.declared.stop.Stop.{Stop}
use Rattle.sonic_text.specs.Places.{byte, after_space}
use Rattle.sonic_text.specs.Values.{opening, ItemHead, IsValue, ItemsFit, first_item, next_item}
use Rattle.sonic_text.specs.Faults.{IsFault, IsKeyFault, in_value, code_after_item}
use Rattle.sonic_text.proofs.Items.{at_key, at_value, head_one, head-later, head_never_both, closing_no_comma}
use Rattle.sonic_text.proofs.Outcomes.{value_some_outcome}
use Rattle.sonic_text.proofs.Places.{after_space_later}
use Rattle.sonic_text.proofs.Values.{value-longer, items_open, items_not_empty, items_before, items_one, value_end_one, value_never_both}
use Rattle.sonic_text.proofs.Within.{value_within, items_within, head_within}
use Rattle.sonic_text.proofs.Stops.{stop_at_from, key_fault_from, fault_from}
use Rattle.sonic_text.proofs.Values.{ContainerOutcome, no_item, at_last, container_outcome}

-- the values of items that are as many begin at one place
item_start_one : {m : Bool} {t : List ℕ} {kind : Kind} {i n p h g v w : ℕ} {l k : Option (List ℕ)} → n ≡ p → ItemsFit m t kind i n h → ItemHead m t kind h v l
    → ItemsFit m t kind i p g → ItemHead m t kind g w k → w ≡ v
item_start_one {m} {t} {kind} {i} {n} {h = h} {g} {w = w} {k = k} j is y fs z =
    let gs : ItemsFit m t kind i n g = rw j fs in
    let head : ItemHead m t kind h w k = rw (items_one gs is) at z in
    (head_one head y).0

-- after a key that isn't there no further item fits
pub not_past_key : {m : Bool} {t : List ℕ} {kind : Kind} {i n p h g : ℕ} {s : Stop} → kind ≡ Object → ItemsFit m t kind i n h → n < p → IsKeyFault m t h s
    → ¬ ItemsFit m t kind i p g
not_past_key k is l f fs =
    let x = items_before fs l in
    head_never_both k (rw (items_one x.before is) at x.head) f

-- the value of the item that is expected at h, where a later one fits, is its own, with a comma after it
pub comma_after : {m : Bool} {t : List ℕ} {kind : Kind} {i n p h g v : ℕ} {l : Option (List ℕ)} → ItemsFit m t kind i n h → n < p → ItemHead m t kind h v l
    → ItemsFit m t kind i p g → (e : ℕ) × IsValue m t v e × (byte t (after_space t e) ≡ 44)
comma_after {m} {t} {kind} {h = h} {v = v} is l y fs =
    let x = items_before fs l in
    let value : IsValue m t v x.e = rw (item_start_one refl is y x.before x.head) at x.value in
    (x.e, value, x.comma)

-- nor after the fault of an item's value
pub not_past_value : {m : Bool} {t : List ℕ} {kind : Kind} {i n p h g v : ℕ} {l : Option (List ℕ)} {s : Stop} → ItemsFit m t kind i n h → n < p
    → ItemHead m t kind h v l → IsFault m t v s → ¬ ItemsFit m t kind i p g
not_past_value is l y f fs = let x = comma_after is l y fs in value_never_both x.1 f

-- nor after a byte that fits after no item
pub not_past_byte : {m : Bool} {t : List ℕ} {kind : Kind} {i n p h g v e : ℕ} {l : Option (List ℕ)} → ItemsFit m t kind i n h → n < p
    → ItemHead m t kind h v l → IsValue m t v e → byte t (after_space t e) ≢ 44 → ¬ ItemsFit m t kind i p g
not_past_byte is l y w c fs = let x = comma_after is l y fs in c (rw (value_end_one x.1 w) at x.2)

-- an item ends before a later one begins
pub items_after : {m : Bool} {t : List ℕ} {kind : Kind} {i n p h g v e : ℕ} {l : Option (List ℕ)} → ItemsFit m t kind i n h → ItemHead m t kind h v l
    → IsValue m t v e → ItemsFit m t kind i p g → n < p → e < g
items_after is y x (first_item b q d o) l = absurd (omega arith)
items_after {m} {t} {kind} {i} {n = n} {h = h} {v = v} is y x (next_item {p = k} {u = a} {v = w} {e = f} {l = c} fs z r d q o) l = elim (cases_order n k) [
  | inl j ↦
      let s : IsValue m t v f = rw (item_start_one j is y fs z) at r in
      let u = value_end_one x s in
      omega (arith, after_space_later t f, after_space_later t (after_space t f + 1))
  | inr (inl less) ↦
      let u = items_after is y x fs less in
      let g = head-later z in
      let j = value-longer r in
      omega (arith, after_space_later t f, after_space_later t (after_space t f + 1))
  | inr (inr more) ↦ absurd (omega arith)
]

-- or at the beginning of the last one's value, which isn't one of its own
ends_by : {m : Bool} {t : List ℕ} {kind : Kind} {i n p h g v w e f : ℕ} {l k : Option (List ℕ)} → ItemsFit m t kind i n h → ItemHead m t kind h v l
    → IsValue m t v e → ItemsFit m t kind i p g → ItemHead m t kind g w k → IsValue m t w f → byte t (after_space t f) ≢ 44 → e ≤ f
ends_by {m} {t} {kind} {i} {n = n} {p} {h = h} {g} {v = v} {w} {f = f} {k = k} is y x fs z r c = elim (cases_order n p) [
  | inl j ↦
      let s : IsValue m t v f = rw (item_start_one j is y fs z) at r in
      let u = value_end_one x s in
      omega arith
  | inr (inl o) ↦ (let a = items_after is y x fs o in let b = head-later z in let d = value-longer r in omega arith)
  | inr (inr o) ↦ absurd (not_past_byte fs o z r c is)
]

-- an item ends before its container does, or at or before the place of its container's fault
item_before : {m : Bool} {t : List ℕ} {kind : Kind} {i n h v e : ℕ} {l : Option (List ℕ)} {r : Result ℕ Stop} → ItemsFit m t kind i n h
    → ItemHead m t kind h v l → IsValue m t v e → ContainerOutcome m t kind i r → MatchResult r (λ j. e < j) (λ s. e ≤ s.place)
item_before is y x (no_item c q) = absurd (items_not_empty is c)
item_before {m} {t} {kind} {i} {n} {v = v} {l = l} is y x (at_last {n = p} {h = g} fs (at_key k d q)) = rw q (elim (cases_order n p) [
  | inl j ↦
      let gs : ItemsFit m t kind i n g = rw j fs in
      let head : ItemHead m t kind g v l = rw (items_one is gs) at y in
      absurd (head_never_both k head d)
  | inr (inl o) ↦ (let a = items_after is y x fs o in let b = key_fault_from d (items_within fs) in omega arith)
  | inr (inr o) ↦ absurd (not_past_key k fs o d is)
])
item_before {m} {t} {kind} {i} {n} {h} {v} is y x (at_last {n = p} {h = g} fs (at_value {v = w} {l = k} (Err s) z d q)) = rw q (elim (cases_order n p) [
  | inl j ↦
      let u : IsFault m t v s = rw (item_start_one j is y fs z) at d in
      absurd (value_never_both x u)
  | inr (inl o) ↦ omega (arith, items_after is y x fs o, head-later z, fault_from d (head_within z (items_within fs)))
  | inr (inr o) ↦ absurd (not_past_value fs o z d is)
])
item_before {t = t} {kind} is y x (at_last fs (at_value (Ok f) z r (inl (c, q)))) =
    rw q (omega (arith, ends_by is y x fs z r (λ d. closing_no_comma kind (omega arith)), after_space_later t f))
item_before {t = t} {kind} is y x (at_last fs (at_value (Ok f) z r (inr (c, q)))) =
    rw q (stop_at_from t (after_space t f) (code_after_item kind) _ refl (omega (arith, ends_by is y x fs z r c.0, after_space_later t f)) (value_within x))

-- an item of a whole container is whole
pub item_whole : {m : Bool} {t : List ℕ} {kind : Kind} {i n h v j : ℕ} {l : Option (List ℕ)} → IsValue m t i j → ItemsFit m t kind i n h
    → ItemHead m t kind h v l → (e : ℕ) × IsValue m t v e
item_whole {m} {t} {v = v} x is y = elim (value_some_outcome m t v) [
  | inl z ↦ z
  | inr f ↦ absurd (value_never_both x (in_value is y f.1))
]

pub item_before_end : {m : Bool} {t : List ℕ} {kind : Kind} {i n h v e j : ℕ} {l : Option (List ℕ)} → ItemsFit m t kind i n h → ItemHead m t kind h v l
    → IsValue m t v e → IsValue m t i j → e < j
item_before_end {j = j} is y x z = item_before is y x (container_outcome (Ok j) (items_open is) z)

pub item_before_fault : {m : Bool} {t : List ℕ} {kind : Kind} {i n h v e : ℕ} {l : Option (List ℕ)} {s : Stop}
    → ItemsFit m t kind i n h → ItemHead m t kind h v l → IsValue m t v e → IsFault m t i s → e ≤ s.place
item_before_fault {s = s} is y x f = item_before is y x (container_outcome (Err s) (items_open is) f)

-- the items of the container at i fit as far as this, and no further
pub record LastFit (m : Bool) (t : List ℕ) (kind : Kind) (i : ℕ) : Type 0 where
  pub n : ℕ
  pub h : ℕ
  pub fit : ItemsFit m t kind i n h
  pub last : (p g : ℕ) → n < p → ¬ ItemsFit m t kind i p g

-- no item is expected in a container of this kind at i
abbrev pub NoneFit : Bool → List ℕ → Kind → ℕ → Type 0
NoneFit m t kind i = (n h : ℕ) → ¬ ItemsFit m t kind i n h

last_of : {m : Bool} {t : List ℕ} {kind : Kind} {i : ℕ} {r : Result ℕ Stop} → ContainerOutcome m t kind i r → LastFit m t kind i ⊎ NoneFit m t kind i
last_of (no_item c q) = inr (λ n h is. items_not_empty is c)
last_of (at_last {n} {h} is (at_key k f q)) = inl (record { n = n; h = h; fit = is; last = λ p g l. not_past_key k is l f })
last_of (at_last {n} {h} is (at_value (Err s) y f q)) = inl (record { n = n; h = h; fit = is; last = λ p g l. not_past_value is l y f })
last_of {kind = kind} (at_last {n} {h} is (at_value (Ok e) y x (inl a))) =
    inl (record { n = n; h = h; fit = is; last = λ p g l. not_past_byte is l y x (λ d. closing_no_comma kind (omega (arith, a.0))) })
last_of (at_last {n} {h} is (at_value (Ok e) y x (inr a))) = inl (record { n = n; h = h; fit = is; last = λ p g l. not_past_byte is l y x a.0.0 })

-- items fit up to a last one, or none is expected
pub last_fit : (m : Bool) (t : List ℕ) (kind : Kind) (i : ℕ) → LastFit m t kind i ⊎ NoneFit m t kind i
last_fit m t kind i = elim (cases_eq (byte t i) (opening kind)) [
  | inr other ↦ inr (λ n h is. other (items_open is))
  | inl b ↦ elim (value_some_outcome m t i) [
    | inl x ↦ last_of (container_outcome (Ok x.0) b x.1)
    | inr f ↦ last_of (container_outcome (Err f.0) b f.1)
  ]
]
