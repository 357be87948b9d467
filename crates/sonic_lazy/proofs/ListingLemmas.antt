-- A container has one list of items, with one end or one error.
use Rattle.std.proofs.Common.{◌≡◌, ◌≢◌, ◌⊎◌, ◌∙◌, inl, inr, ap, ap₂, ℕ, ◌+◌, ◌<◌, List, [], ◌∷◌, ◌++◌, Bool, true, false, length, arith, refl, sym}
use Rattle.std.proofs.Common.{Result, Ok, Err}
use Rattle.std.proofs.lemmas.Bool.{cases_eq, cases_order}
use Rattle.std.specs.Prelude.{Option}
use Rattle.std.specs.Str.{IsUtf8}
use Rattle.sonic_error.specs.declared.code.ErrorCode.TheVariants.{InvalidUTF8}
use Rattle.sonic_error.specs.Texts.{valid_up_to}
use Rattle.sonic_find.proofs.AnswerLemmas.One.{utf8_or_not}
use Rattle.sonic_lazy.proofs.IteratorLemmas.{never_ends}
use Rattle.sonic_find.specs.Answers.{Span}
use Rattle.sonic_lazy.specs.Items.{Item, Ending, closed, stopped, Listing, ItemsReach, IsItemAt, AreClosed, closed_empty, closed_after, BeginsNoItem, no_quote, text_ends, code_before_item, code_of_start, stop_with, AreStopped, no_container, no_item, no_separator, no_key, no_value, EndsItems, at_broken_text, at_bracket, at_stop, AreItems, no_items, one_more_item, IsListing}
use Rattle.sonic_find.specs.Laws.{ExactlyOne}
use Rattle.sonic_text.proofs.Insides.{not_past_byte}
use Rattle.sonic_text.proofs.Items.{at_key, at_value, head_one, head_never_both, key_fault_one, closing_no_comma}
use Rattle.sonic_text.proofs.Outcomes.{value_some_outcome}
use Rattle.sonic_text.proofs.Places.{byte_after}
use Rattle.sonic_text.proofs.Values.{ContainerOutcome, no_item as empty_container, at_last, container_outcome, items_open, items_not_empty, items_one, value_end_one, value_fault_one, value_never_both}
use Rattle.sonic_text.specs.Documents.{StartsWithUtf8Value}
use Rattle.sonic_text.specs.Faults.{BeginsNone, IsFault, IsKeyFault, no_quote as quote_fault, NothingFits, code_after_item, no_value as no_value_here, in_key, in_value, after_item}
use Rattle.sonic_text.specs.Places.{byte, after_space}
use Rattle.sonic_text.specs.Strings.{strict}
use Rattle.sonic_text.specs.Values.{opening, closing, ItemHead, no_head, key_head, IsValue, ItemsFit, first_item, next_item}
use Rattle.sonic_text.specs.declared.kind.Kind.{Kind}
use Rattle.sonic_text.specs.declared.kind.Kind.TheVariants.{Array, Object}
use Rattle.sonic_text.specs.declared.stop.Stop.{Stop}

-- an item by its parts
item_parts : {a b : Item} → a.label ≡ b.label → a.span.0 ≡ b.span.0 → a.span.1 ≡ b.span.1 → a ≡ b
item_parts {a} {b} e f g =
    let span : a.span ≡ b.span = ap₂ (λ i j. (i, j)) f g in
    ap₂ (λ (l : Option (List ℕ)) (s : Span). record { label = l; span = s }) e span

-- after n others there is one item
item_one : {t : List ℕ} {kind : Kind} {n : ℕ} {a b : Item} → IsItemAt t kind n a → IsItemAt t kind n b → a ≡ b
item_one {t} {kind} {a = a} {b} x y =
    let head : ItemHead strict t kind x.place b.span.0 b.label = rw (items_one y.before x.before) at y.head in
    let same = head_one x.head head in
    let value : IsValue strict t a.span.0 b.span.1 = rw (sym same.0) at y.value in
    item_parts same.1 same.0 (value_end_one x.value value)

-- n items are one list
items_same : {t : List ℕ} {kind : Kind} {n p : ℕ} {xs ys : List Item} → n ≡ p → AreItems t kind n xs → AreItems t kind p ys → xs ≡ ys
items_same e (no_items z is) (no_items y are) = is ∙ sym are
items_same e (no_items z is) (one_more_item ys y m are) = absurd (omega arith)
items_same e (one_more_item xs x m is) (no_items z are) = absurd (omega arith)
items_same {t} {kind} e (one_more_item {p = k} {item = a} xs x m is) (one_more_item {p = j} {item = b} ys y o are) =
    let before = items_same (omega arith) xs ys in
    let place : j ≡ k = omega arith in
    let other : IsItemAt t kind k b = rw place at y in
    rw (is, are, before, item_one x other) refl

-- and hold each of them
item_of : {t : List ℕ} {kind : Kind} {n p : ℕ} {items : List Item} → AreItems t kind p items → n < p → (item : Item) × IsItemAt t kind n item
item_of (no_items z is) l = absurd (omega arith)
item_of {t} {kind} {n} (one_more_item {p = k} {item = item} xs x m is) l = elim (cases_order n k) [
  | inl e ↦ (let own : IsItemAt t kind n item = rw e x in (item, own))
  | inr (inl less) ↦ item_of xs less
  | inr (inr more) ↦ absurd (omega arith)
]

-- why no item follows those that fit up to h
data IsSlot (t : List ℕ) (kind : Kind) (n h : ℕ) (s : Stop) : Type 0 where
  none_begins : BeginsNoItem t kind n h → s ≡ stop_with h (code_before_item kind n) → IsSlot t kind n h s
  key_fails : kind ≡ Object → byte t h ≡ 34 → IsKeyFault strict t h s → IsSlot t kind n h s
  value_fails : {v : ℕ} {label : Option (List ℕ)} → ¬ BeginsNoItem t kind n h → ItemHead strict t kind h v label → IsFault strict t v s → IsSlot t kind n h s

-- no item of an object begins at a quote
quote_begins : {t : List ℕ} {kind : Kind} {n h : ℕ} → kind ≡ Object → byte t h ≡ 34 → ¬ BeginsNoItem t kind n h
quote_begins k b (no_quote other) = other b
quote_begins k b (text_ends z e) = absurd cc

-- there is one reason
slot_one : {t : List ℕ} {kind : Kind} {n h : ℕ} {s r : Stop} → IsSlot t kind n h s → IsSlot t kind n h r → s ≡ r
slot_one (none_begins b is) (none_begins c are) = is ∙ sym are
slot_one (none_begins b is) (key_fails k q f) = absurd (quote_begins k q b)
slot_one (none_begins b is) (value_fails c y f) = absurd (c b)
slot_one (key_fails k q f) (none_begins b is) = absurd (quote_begins k q b)
slot_one (key_fails k q f) (key_fails j p g) = key_fault_one f g
slot_one (key_fails k q f) (value_fails c y g) = absurd (head_never_both k y f)
slot_one (value_fails c y f) (none_begins b is) = absurd (c b)
slot_one (value_fails c y f) (key_fails k q g) = absurd (head_never_both k y g)
slot_one {t} {r = r} (value_fails {v} c y f) (value_fails {v = w} d z g) =
    let fault : IsFault strict t v r = rw (head_one z y).0 at g in
    value_fault_one f fault

-- the three ways to stop
data IsWay (t : List ℕ) (kind : Kind) (n : ℕ) (s : Stop) : Type 0 where
  at_start : n ≡ 0 → byte t (after_space t 0) ≢ opening kind → s ≡ stop_with (after_space t 0) (code_of_start kind) → IsWay t kind n s
  at_slot : {h : ℕ} → ItemsReach t kind n h → IsSlot t kind n h s → IsWay t kind n s
  at_end : {p : ℕ} {last : Item} → IsItemAt t kind p last → n ≡ p + 1 → NothingFits t last.span.1 (closing kind)
      → s ≡ stop_with (after_space t last.span.1) (code_after_item kind) → IsWay t kind n s

way_of : {t : List ℕ} {kind : Kind} {n : ℕ} {s : Stop} → AreStopped t kind n s → IsWay t kind n s
way_of (no_container z b is) = at_start z b is
way_of (no_item r b is) = at_slot r (none_begins b is)
way_of (no_separator x e f is) = at_end x e f is
way_of {t} {kind} {n} (no_key {h} k r b f) = at_slot r (key_fails k b f)
way_of (no_value r b y f) = at_slot r (value_fails b y f)

-- after an item with no comma no further one is expected
reach_past : {t : List ℕ} {kind : Kind} {n p h : ℕ} {last : Item} → IsItemAt t kind p last → n ≡ p + 1 → byte t (after_space t last.span.1) ≢ 44 → ¬ ItemsReach t kind n h
reach_past x e c r = not_past_byte x.before (omega arith) x.head x.value c r

-- the last of the same items is the same
last_same : {t : List ℕ} {kind : Kind} {n p q : ℕ} {a b : Item} → IsItemAt t kind p a → n ≡ p + 1 → IsItemAt t kind q b → n ≡ q + 1 → a ≡ b
last_same {t} {kind} {p = p} {q} {b = b} x e y f =
    let place : q ≡ p = omega arith in
    let own : IsItemAt t kind p b = rw place at y in
    item_one x own

-- there is one stop
way_one : {t : List ℕ} {kind : Kind} {n : ℕ} {s r : Stop} → IsWay t kind n s → IsWay t kind n r → s ≡ r
way_one (at_start z b is) (at_start y c are) = is ∙ sym are
way_one (at_start z b is) (at_slot x f) = absurd (b (items_open x))
way_one (at_start z b is) (at_end x e f are) = absurd (omega arith)
way_one (at_slot x f) (at_start z b is) = absurd (b (items_open x))
way_one {t} {kind} {n} {r = r} (at_slot {h} x f) (at_slot y g) =
    let slot : IsSlot t kind n h r = rw (items_one y x) at g in
    slot_one f slot
way_one (at_slot r f) (at_end x e g are) = absurd (reach_past x e g.0 r)
way_one (at_end x e f is) (at_start z b are) = absurd (omega arith)
way_one (at_end x e g is) (at_slot r f) = absurd (reach_past x e g.0 r)
way_one (at_end x e f is) (at_end y d g are) = rw (is, are, last_same x e y d) refl

-- a container that is closed has none
never_closed : {t : List ℕ} {kind : Kind} {n : ℕ} {s : Stop} → AreClosed t kind n → IsWay t kind n s → ⊥
never_closed (closed_empty z b c) (at_start y other is) = other b
never_closed (closed_empty z b c) (at_slot r f) = items_not_empty r c
never_closed (closed_empty z b c) (at_end x e f is) = omega arith
never_closed (closed_after x e c) (at_start y other is) = omega arith
never_closed {kind = kind} (closed_after x e c) (at_slot r f) = reach_past x e (λ comma. closing_no_comma kind (sym c ∙ comma)) r
never_closed {t} {kind} (closed_after {last = last} x e c) (at_end {last = other} y d f is) =
    let same : byte t (after_space t last.span.1) ≢ closing kind = rw (last_same x e y d) f.1 in
    same c

-- there is one ending
ending_one : {t : List ℕ} {is_bytes : Bool} {kind : Kind} {n : ℕ} {e f : Ending} → EndsItems t is_bytes kind n e → EndsItems t is_bytes kind n f → e ≡ f
ending_one (at_broken_text b broken z is) (at_broken_text c other y are) = is ∙ sym are
ending_one (at_broken_text b broken z is) (at_bracket utf8 c are) = absurd (broken (utf8 b))
ending_one (at_broken_text b broken z is) (at_stop utf8 s are) = absurd (broken (utf8 b))
ending_one (at_bracket utf8 c is) (at_broken_text b broken z are) = absurd (broken (utf8 b))
ending_one (at_bracket utf8 c is) (at_bracket also d are) = is ∙ sym are
ending_one (at_bracket utf8 c is) (at_stop also s are) = absurd (never_closed c (way_of s))
ending_one (at_stop utf8 s is) (at_broken_text b broken z are) = absurd (broken (utf8 b))
ending_one (at_stop utf8 s is) (at_bracket also c are) = absurd (never_closed c (way_of s))
ending_one (at_stop utf8 s is) (at_stop also r are) = is ∙ ap stopped (way_one (way_of s) (way_of r)) ∙ sym are

-- a text that has items is UTF-8, where that is looked at
some_utf8 : {t : List ℕ} {is_bytes : Bool} {kind : Kind} {n : ℕ} {e : Ending} → EndsItems t is_bytes kind n e → 0 < n → is_bytes ≡ true → IsUtf8 t
some_utf8 (at_broken_text b broken z is) l e = absurd (omega arith)
some_utf8 (at_bracket utf8 c is) l e = utf8 e
some_utf8 (at_stop utf8 s is) l e = utf8 e

-- no list ends before another
never_shorter : {t : List ℕ} {is_bytes : Bool} {kind : Kind} {a b : Listing} → (x : IsListing t is_bytes kind a) → (y : IsListing t is_bytes kind b)
    → x.count < y.count → ⊥
never_shorter x y l = never_ends (some_utf8 y.ending (omega arith)) (item_of y.items l).1 x.ending

-- a list by its parts
listing_parts : {a b : Listing} → a.items ≡ b.items → a.ending ≡ b.ending → a ≡ b
listing_parts e f = ap₂ (λ (i : List Item) (o : Ending). record { items = i; ending = o }) e f

-- there is one list
listing_same : {t : List ℕ} {is_bytes : Bool} {kind : Kind} {a b : Listing} → IsListing t is_bytes kind a → IsListing t is_bytes kind b → a ≡ b
listing_same {t} {is_bytes} {kind} {a} {b} x y = elim (cases_order x.count y.count) [
  | inl e ↦
      let items : a.items ≡ b.items = items_same e x.items y.items in
      let other : EndsItems t is_bytes kind x.count b.ending = rw (sym e) at y.ending in
      listing_parts items (ending_one x.ending other)
  | inr (inl less) ↦ absurd (never_shorter x y less)
  | inr (inr more) ↦ absurd (never_shorter y x more)
]

-- the items that fit
fitting : {t : List ℕ} {kind : Kind} {i n h : ℕ} → i ≡ after_space t 0 → ItemsFit strict t kind i n h → (items : List Item) × AreItems t kind n items
fitting e (first_item b q d z) = ([], no_items z refl)
fitting {t} {kind} {i} e (next_item {p = p} {u} {v} {e = end} {l = label} is y x c q m) =
    let before = fitting e is in
    let reach : ItemsReach t kind p u = rw e at is in
    let item : Item = record { label = label; span = (v, end) } in
    let own : IsItemAt t kind p item = record { place = u; before = reach; head = y; value = x } in
    (before.0 ++ item ∷ [], one_more_item before.1 own m refl)

-- how a container ends, and after how many items
abbrev SomeEnding : List ℕ → Kind → Type 0
SomeEnding t kind = (n : ℕ) × (items : List Item) × AreItems t kind n items × (AreClosed t kind n ⊎ ((s : Stop) × AreStopped t kind n s))

-- of those that fit it stops after
stops_after : {t : List ℕ} {kind : Kind} {n h : ℕ} {s : Stop} → ItemsReach t kind n h → AreStopped t kind n s → SomeEnding t kind
stops_after {t} {kind} {n} {s = s} r f = let x = fitting refl r in (n, x.0, x.1, inr (s, f))

-- or ends after one more
ends_with : {t : List ℕ} {kind : Kind} {n h v e : ℕ} {label : Option (List ℕ)} → ItemsReach t kind n h → ItemHead strict t kind h v label → IsValue strict t v e
    → (IsItemAt t kind n (record { label = label; span = (v, e) }) → AreClosed t kind (n + 1) ⊎ ((s : Stop) × AreStopped t kind (n + 1) s)) → SomeEnding t kind
ends_with {t} {kind} {n} {h} {v} {e} {label} r y x end =
    let before = fitting refl r in
    let item : Item = record { label = label; span = (v, e) } in
    let own : IsItemAt t kind n item = record { place = h; before = r; head = y; value = x } in
    (n + 1, before.0 ++ item ∷ [], one_more_item before.1 own refl refl, end own)

-- a key that isn't there
key_ends : {t : List ℕ} {n h : ℕ} {s : Stop} → ItemsReach t Object n h → IsKeyFault strict t h s → SomeEnding t Object
key_ends {t} {n} {h} r f = elim (cases_eq (byte t h) 34) [
  | inl b ↦ stops_after r (no_key refl r b f)
  | inr other ↦ stops_after r (no_item r (no_quote other) refl)
]

-- no element begins where an array ends after its bracket
array_ends : {t : List ℕ} {n h : ℕ} → BeginsNoItem t Array n h → (n ≡ 0) × (h ≡ length t)
array_ends (text_ends z e) = (z, e)

-- a value that isn't there
value_ends : {t : List ℕ} {kind : Kind} {n h v : ℕ} {label : Option (List ℕ)} {s : Stop} → ItemsReach t kind n h → ItemHead strict t kind h v label
    → IsFault strict t v s → SomeEnding t kind
value_ends r (key_head y) f = stops_after r (no_value r (quote_begins refl y.string.opens) (key_head y) f)
value_ends {t} {n = n} {h} r (no_head e) f = elim (cases_eq n 0) [
  | inr more ↦ stops_after r (no_value r (λ b. more (array_ends b).0) (no_head e) f)
  | inl z ↦ elim (cases_eq h (length t)) [
    | inl ends ↦ stops_after r (no_item r (text_ends z ends) refl)
    | inr goes ↦ stops_after r (no_value r (λ b. goes (array_ends b).1) (no_head e) f)
  ]
]

-- each container ends
container_ends : {t : List ℕ} {kind : Kind} {r : Result ℕ Stop} → byte t (after_space t 0) ≡ opening kind → ContainerOutcome strict t kind (after_space t 0) r
    → SomeEnding t kind
container_ends b (empty_container c q) = (0, [], no_items refl refl, inl (closed_empty refl b c))
container_ends {t} {kind} b (at_last {n} {h} is (at_key k f q)) =
    let reach : ItemsReach t Object n h = rw k at is in
    rw k (key_ends reach f)
container_ends b (at_last is (at_value (Err s) y f a)) = value_ends is y f
container_ends b (at_last is (at_value (Ok e) y x (inl a))) = ends_with is y x (λ own. inl (closed_after own refl a.0))
container_ends b (at_last is (at_value (Ok e) y x (inr a))) = ends_with is y x (λ own. inr (_, no_separator own refl a.0 refl))

-- and so does what is none
some_ending : (t : List ℕ) (kind : Kind) → SomeEnding t kind
some_ending t kind = elim (cases_eq (byte t (after_space t 0)) (opening kind)) [
  | inr other ↦ (0, [], no_items refl refl, inr (_, no_container refl other refl))
  | inl b ↦ elim (value_some_outcome strict t (after_space t 0)) [
    | inl x ↦ container_ends b (container_outcome (Ok x.0) b x.1)
    | inr f ↦ container_ends b (container_outcome (Err f.0) b f.1)
  ]
]

-- a list of items, over a text that is UTF-8 where that is looked at
listed : {t : List ℕ} {is_bytes : Bool} {kind : Kind} → (is_bytes ≡ true → IsUtf8 t) → SomeEnding t kind → (listing : Listing) × IsListing t is_bytes kind listing
listed utf8 (n, items, are, inl c) = (record { items = items; ending = closed }, record { count = n; items = are; ending = at_bracket utf8 c refl })
listed utf8 (n, items, are, inr s) = (record { items = items; ending = stopped s.0 }, record { count = n; items = are; ending = at_stop utf8 s.1 refl })

-- there is some list
listing_some : (t : List ℕ) (is_bytes : Bool) (kind : Kind) → (listing : Listing) × IsListing t is_bytes kind listing
listing_some t false kind = listed (λ e. absurd cc) (some_ending t kind)
listing_some t true kind = elim (utf8_or_not t) [
  | inl utf8 ↦ listed (λ e. utf8) (some_ending t kind)
  | inr broken ↦ (
    record { items = []; ending = stopped (stop_with (valid_up_to t) InvalidUTF8) },
    record { count = 0; items = no_items refl refl; ending = at_broken_text refl broken refl refl },
  )
]

-- and no other
pub listing_one : (t : List ℕ) (is_bytes : Bool) (kind : Kind) → ExactlyOne (IsListing t is_bytes kind)
listing_one t is_bytes kind = record { some = listing_some t is_bytes kind; one = λ a b. listing_same }

-- a look at text in UTF-8 changes nothing
ends_either : {t : List ℕ} {a b : Bool} {kind : Kind} {n : ℕ} {e : Ending} → IsUtf8 t → EndsItems t a kind n e → EndsItems t b kind n e
ends_either utf8 (at_broken_text e broken z is) = absurd (broken utf8)
ends_either utf8 (at_bracket known c is) = at_bracket (λ e. utf8) c is
ends_either utf8 (at_stop known s is) = at_stop (λ e. utf8) s is

pub listing_either : {t : List ℕ} {a b : Bool} {kind : Kind} {listing : Listing} → IsUtf8 t → IsListing t a kind listing → IsListing t b kind listing
listing_either utf8 x = record { count = x.count; items = x.items; ending = ends_either utf8 x.ending }

-- no value begins at no byte
at_no_byte : BeginsNone 0
at_no_byte = grind arith

-- where no item begins, the value has a fault
nothing_begins : {t : List ℕ} {kind : Kind} {n h : ℕ} → ItemsReach t kind n h → BeginsNoItem t kind n h → (s : Stop) × IsFault strict t (after_space t 0) s
nothing_begins r (no_quote b) = (_, in_key r (quote_fault b refl))
nothing_begins {t} {h = h} r (text_ends z e) =
    let none : byte t h ≡ 0 = byte_after t h (omega arith) in
    (_, in_value r (no_head refl) (no_value_here (rw none at_no_byte) refl))

-- in a text that starts with a value the container alone may be missing
stop_of_whole : {t : List ℕ} {kind : Kind} {n : ℕ} {s : Stop} → StartsWithUtf8Value t → AreStopped t kind n s → s ≡ stop_with (after_space t 0) (code_of_start kind)
stop_of_whole x (no_container z b is) = is
stop_of_whole x (no_item r b is) = absurd (value_never_both x.root (nothing_begins r b).1)
stop_of_whole x (no_separator y e f is) = absurd (value_never_both x.root (after_item y.before y.head y.value f refl))
stop_of_whole {t} {n = n} x (no_key {h} k r b f) =
    let reach : ItemsReach t Object n h = rw k at r in
    absurd (value_never_both x.root (in_key reach f))
stop_of_whole x (no_value r b y f) = absurd (value_never_both x.root (in_value r y f))

-- so its items end with the closing bracket, or there are none
ending_of_whole : {t : List ℕ} {kind : Kind} {n : ℕ} {e : Ending} → StartsWithUtf8Value t → EndsItems t false kind n e
    → (e ≡ closed) ⊎ (e ≡ stopped (stop_with (after_space t 0) (code_of_start kind)))
ending_of_whole x (at_broken_text e broken z is) = absurd cc
ending_of_whole x (at_bracket utf8 c is) = inl is
ending_of_whole x (at_stop utf8 s is) = inr (is ∙ ap stopped (stop_of_whole x s))

pub listing_of_whole : {t : List ℕ} {kind : Kind} {listing : Listing} → StartsWithUtf8Value t → IsListing t false kind listing
    → (listing.ending ≡ closed) ⊎ (listing.ending ≡ stopped (stop_with (after_space t 0) (code_of_start kind)))
listing_of_whole x y = ending_of_whole x y.ending
