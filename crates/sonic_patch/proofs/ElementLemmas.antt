-- The elements of an array are one list of texts, which an iterator over it gives.
use Rattle.std.proofs.Common.{◌≡◌, ◌∙◌, inl, inr, ap, ap₂, sym, refl, ℕ, ◌+◌, ◌<◌, ◌≤◌, List, [], ◌∷◌, ◌++◌, Option, false, true, length, length-append, append_assoc, map, arith}
use Rattle.std.proofs.lemmas.Bool.{cases_lt, cases_order}
use Rattle.std.proofs.lemmas.List.{append-nil, length-map, map-append}
use Rattle.sonic_error.specs.declared.code.ErrorCode.TheVariants.{ExpectedArrayStart}
use Rattle.sonic_find.specs.Answers.{Span, span_text}
use Rattle.sonic_lazy.proofs.IteratorLemmas.{never_ends}
use Rattle.sonic_lazy.proofs.ListingLemmas.{listing_one, listing_of_whole}
use Rattle.sonic_lazy.proofs.WholeLemmas.{lazy_is_whole}
use Rattle.sonic_lazy.specs.Items.{Item, Listing, closed, stopped, stop_with, Ending, EndsItems, at_broken_text, at_bracket, at_stop, IsItemAt, AreItems, no_items, one_more_item, AreClosed, closed_empty, closed_after, AreStopped, no_container, no_item, no_separator, no_key, no_value, IsListing}
use Rattle.sonic_lazy.specs.Iterators.{IteratorState, iterator_over, ShowsElement, IsOver}
use Rattle.sonic_lazy.specs.LazyValues.{raw_bytes}
use Rattle.sonic_lazy.specs.Scalars.{container, scalar_of}
use Rattle.sonic_lazy.specs.declared.lazyvalue.LazyValue.{LazyValue}
use Rattle.sonic_owned.specs.Forms.{Form}
use Rattle.sonic_patch.specs.Internal.Elements.{IsFaultIn, SaysOperations}
use Rattle.sonic_patch.specs.Operations.{Operation}
use Rattle.sonic_patch.specs.Pointers.{SaysFewTokens}
use Rattle.sonic_patch.specs.Reading.{IsOperation, Fault, HasFault, AreOperations, no_operation, one_more_operation, IsFirstFault, fault_here, fault_later, AreItemTexts}
use Rattle.sonic_text.proofs.Items.{head_one}
use Rattle.sonic_text.proofs.Values.{items_one, items_open, value_end_one, value_never_both, value_starts}
use Rattle.sonic_text.specs.Documents.{StartsWithUtf8Value}
use Rattle.sonic_text.specs.Faults.{in_value}
use Rattle.sonic_text.specs.Places.{byte, after_space}
use Rattle.sonic_text.specs.Strings.{strict}
use Rattle.sonic_text.specs.Values.{ItemHead, IsValue}
use Rattle.sonic_text.specs.declared.kind.Kind.TheVariants.{Array}
use Rattle.sonic_text.specs.declared.stop.Stop.{Stop}

-- the texts of items
abbrev pub texts_of : List ℕ → List Item → List (List ℕ)
texts_of t = map (λ (x : Item). span_text t x.span)

never_bytes : false ≡ true → ⊥
never_bytes e = cc

-- an array has one list of elements
pub elements_one : {t : List ℕ} {xs ys : List (List ℕ)} → AreItemTexts t xs → AreItemTexts t ys → xs ≡ ys
elements_one {t} x y =
    let a : Listing = record { items = x.items; ending = closed } in
    let b : Listing = record { items = y.items; ending = closed } in
    let same = (listing_one t false Array).one a b x.listing y.listing in
    x.are ∙ ap (λ (l : Listing). texts_of t l.items) same ∙ sym y.are

-- the elements of a text that starts with a value and with a bracket end with a bracket
stop_never : {t : List ℕ} {n : ℕ} {s : Stop} → StartsWithUtf8Value t → byte t (after_space t 0) ≡ 91 → AreStopped t Array n s
    → s ≡ stop_with (after_space t 0) ExpectedArrayStart → ⊥
stop_never x opens (no_container z b is) e = b opens
stop_never x opens (no_item r b is) e = let clash = ap (λ (s : Stop). s.code) (sym is ∙ e) in absurd cc
stop_never x opens (no_separator y z f is) e = let clash = ap (λ (s : Stop). s.code) (sym is ∙ e) in absurd cc
stop_never x opens (no_key k r b f) e = absurd cc
stop_never x opens (no_value r b y f) e = value_never_both x.root (in_value r y f)

ends_closed : {t : List ℕ} {n : ℕ} {e : Ending} → StartsWithUtf8Value t → byte t (after_space t 0) ≡ 91 → EndsItems t false Array n e
    → e ≡ stopped (stop_with (after_space t 0) ExpectedArrayStart) → ⊥
ends_closed x opens (at_broken_text b broken z is) e = never_bytes b
ends_closed x opens (at_bracket u c is) e = let clash = sym is ∙ e in absurd cc
ends_closed {t} x opens (at_stop {s} u stop is) e =
    let same : s ≡ stop_with (after_space t 0) ExpectedArrayStart = cc in
    stop_never x opens stop same

listing_closed : {t : List ℕ} (l : Listing) → StartsWithUtf8Value t → byte t (after_space t 0) ≡ 91 → IsListing t false Array l → l.ending ≡ closed
listing_closed l x opens is = elim (listing_of_whole x is) [
  | inl e ↦ e
  | inr e ↦ absurd (ends_closed x opens is.ending e)
]

pub closed_again : {t : List ℕ} (l : Listing) → l.ending ≡ closed → IsListing t false Array l → IsListing t false Array (record { items = l.items; ending = closed })
closed_again l e is = record { count = is.count; items = is.items; ending = rw e at is.ending }

-- after n others there is one item
item_one : {t : List ℕ} {n : ℕ} {a b : Item} → IsItemAt t Array n a → IsItemAt t Array n b → a ≡ b
item_one {t} {a = a} {b} x y =
    let head : ItemHead strict t Array x.place b.span.0 b.label = rw (items_one y.before x.before) at y.head in
    let same = head_one x.head head in
    let value : IsValue strict t a.span.0 b.span.1 = rw (sym same.0) at y.value in
    let span : a.span ≡ b.span = ap₂ (λ i j. (i, j)) same.0 (value_end_one x.value value) in
    ap₂ (λ (l : Option (List ℕ)) (s : Span). record { label = l; span = s }) same.1 span

items_same : {t : List ℕ} {n p : ℕ} {xs ys : List Item} → n ≡ p → AreItems t Array n xs → AreItems t Array p ys → xs ≡ ys
items_same e (no_items z is) (no_items y are) = is ∙ sym are
items_same e (no_items z is) (one_more_item ys y m are) = absurd (omega arith)
items_same e (one_more_item xs x m is) (no_items z are) = absurd (omega arith)
items_same {t} e (one_more_item {p = k} xs x m is) (one_more_item {p = j} {item = b} ys y o are) =
    let before = items_same (omega arith) xs ys in
    let place : j ≡ k = omega arith in
    let other : IsItemAt t Array k b = rw place at y in
    rw (is, are, before, item_one x other) refl

-- the items begin with those that are fewer
items_start : {t : List ℕ} {n p : ℕ} {xs ys : List Item} → AreItems t Array n xs → AreItems t Array p ys → n ≤ p → (rest : List Item) × (ys ≡ xs ++ rest)
items_start {xs = xs} are (no_items z is) l = ([], items_same (omega (arith, z, l)) (no_items z is) are ∙ sym (append-nil xs))
items_start {n = n} {p} {xs} are (one_more_item {p = k} {before = before} {item = item} ys y m is) l = elim (cases_lt n p) [
  | inl less ↦
      let start = items_start are ys (omega (arith, less, m)) in
      (start.0 ++ item ∷ [], is ∙ ap (λ l. l ++ item ∷ []) start.1 ∙ append_assoc xs start.0 (item ∷ []))
  | inr past ↦ ([], items_same (omega (arith, past, l)) (one_more_item ys y m is) are ∙ sym (append-nil xs))
]

item_at : {t : List ℕ} {n p : ℕ} {items : List Item} → AreItems t Array p items → n < p → (item : Item) × IsItemAt t Array n item
item_at (no_items z is) l = absurd (omega arith)
item_at {t} {n} (one_more_item {p = k} {item = item} xs x m is) l = elim (cases_order n k) [
  | inl e ↦ (let own : IsItemAt t Array n item = rw e x in (item, own))
  | inr (inl less) ↦ item_at xs less
  | inr (inr more) ↦ absurd (omega arith)
]

-- a list that ends has no item after it
ends_later : {t : List ℕ} {n p : ℕ} {items : List Item} → AreItems t Array n items → EndsItems t false Array p closed → n ≤ p
ends_later {n = n} {p} are ends = elim (cases_lt p n) [
  | inr past ↦ past
  | inl less ↦ let i = item_at are less in absurd (never_ends (λ e. absurd (never_bytes e)) i.1 ends)
]

items_count : {t : List ℕ} {n : ℕ} {items : List Item} → AreItems t Array n items → length items ≡ n
items_count (no_items z is) = rw is (sym z)
items_count (one_more_item {before = before} {item = item} are x e is) = rw is (omega (arith, length-append before (item ∷ []), items_count are))

-- one operation more after others
more_operations : {es : List (List ℕ)} {ops : List (Operation Form)} {e : List ℕ} {op : Operation Form} → AreOperations es ops → IsOperation SaysFewTokens e op
    → AreOperations (es ++ e ∷ []) (ops ++ op ∷ [])
more_operations no_operation x = one_more_operation x no_operation
more_operations (one_more_operation y ys) x = one_more_operation y (more_operations ys x)

-- and one that is none
fault_after : {es : List (List ℕ)} {ops : List (Operation Form)} {e : List ℕ} {fault : Fault} (rest : List (List ℕ)) → AreOperations es ops → HasFault e fault
    → IsFirstFault (es ++ e ∷ rest) (length es) fault
fault_after rest no_operation x = fault_here x refl
fault_after rest (one_more_operation {elements = es} y ys) x = fault_later y (fault_after rest ys x) (omega arith)

-- the first n elements are these operations
pub record AreFirst (t : List ℕ) (n : ℕ) (ops : List (Operation Form)) : Type 0 where
  pub items : List Item
  pub are : AreItems t Array n items
  pub say : AreOperations (texts_of t items) ops

pub none_first : {t : List ℕ} → AreFirst t 0 []
none_first = record { items = []; are = no_items refl refl; say = no_operation }

-- a text that an element shows
shown_one : {t : List ℕ} {n : ℕ} {v : LazyValue} (items : List Item) (x : ShowsElement t n v) → texts_of t (items ++ x.item ∷ []) ≡ texts_of t items ++ raw_bytes v ∷ []
shown_one {t} items x = rw x.shown (map-append (λ (x : Item). span_text t x.span) items (x.item ∷ []))

-- each call gives one more
pub element_first : {t : List ℕ} {n : ℕ} {ops : List (Operation Form)} {op : Operation Form} {v : LazyValue} → AreFirst t n ops → ShowsElement t n v
    → IsOperation SaysFewTokens (raw_bytes v) op → AreFirst t (n + 1) (ops ++ op ∷ [])
element_first first x is = record {
  items = first.items ++ x.item ∷ [];
  are = one_more_item first.are x.is refl refl;
  say = rw (shown_one first.items x) (more_operations first.say is);
}

-- an iterator over an array that has given so many elements
abbrev pub HasGiven : IteratorState → List ℕ → ℕ → Type 0
HasGiven it t n = it ≡ record (iterator_over Array t false false) { given = n }

-- where the iterator is over these are all
pub all_first : {it now : IteratorState} {t : List ℕ} {ops : List (Operation Form)} → HasGiven it t it.given → AreFirst t it.given ops → IsOver it now → SaysOperations t ops
all_first {it} {t = t} g first over = elim over.reason [
  | inl ended ↦ (let going : it.ended ≡ false = rw g refl in absurd cc)
  | inr ends ↦
      let closes : EndsItems t false Array it.given closed = rw g at ends in
      record {
        texts = texts_of t first.items;
        elements = record { items = first.items; listing = record { count = it.given; items = first.are; ending = closes }; are = refl };
        are = first.say;
      }
]

-- and where one that is no operation comes it is the first
fault_at : {t : List ℕ} {n : ℕ} {l : List Item} {ops : List (Operation Form)} {v : LazyValue} {fault : Fault} → IsListing t false Array (record { items = l; ending = closed })
    → AreFirst t n ops → ShowsElement t n v → HasFault (raw_bytes v) fault → IsFaultIn t n fault
fault_at {t} {n} {l} {v = v} {fault} own first x bad =
    let given : AreItems t Array (n + 1) (first.items ++ x.item ∷ []) = one_more_item first.are x.is refl refl in
    let start = items_start given own.items (ends_later given own.ending) in
    let before = texts_of t first.items in
    let after = texts_of t start.0 in
    let shown : texts_of t l ≡ before ++ raw_bytes v ∷ after = ap (texts_of t) start.1
    ∙ map-append (λ (x : Item). span_text t x.span) (first.items ++ x.item ∷ []) start.0
    ∙ ap (λ l. l ++ after) (shown_one first.items x) ∙ append_assoc before (raw_bytes v ∷ []) after in
    let count : length before ≡ n = length-map first.items (λ (x : Item). span_text t x.span) ∙ items_count first.are in
    let found : IsFirstFault (before ++ raw_bytes v ∷ after) n fault = rw count at (fault_after after first.say bad) in
    record {
      texts = texts_of t l;
      elements = record { items = l; listing = own; are = refl };
      first = rw shown found;
    }

pub fault_first : {t : List ℕ} {n : ℕ} {ops : List (Operation Form)} {v : LazyValue} {fault : Fault} → StartsWithUtf8Value t → AreFirst t n ops → ShowsElement t n v
    → HasFault (raw_bytes v) fault → IsFaultIn t n fault
fault_first {t} starts first x bad =
    let some = (listing_one t false Array).some in
    let ending = listing_closed some.0 starts (items_open x.is.before) some.1 in
    fault_at (closed_again some.0 ending some.1) first x bad

-- an array begins with its bracket
closed_opens : {t : List ℕ} {n : ℕ} → AreClosed t Array n → byte t (after_space t 0) ≡ 91
closed_opens (closed_empty z b c) = b
closed_opens (closed_after x e c) = items_open x.before

bracket_closed : {t : List ℕ} {n : ℕ} → EndsItems t false Array n closed → AreClosed t Array n
bracket_closed (at_broken_text e n z is) = absurd cc
bracket_closed (at_bracket u x e) = x
bracket_closed (at_stop u x is) = absurd cc

pub elements_array : (value : LazyValue) (texts : List (List ℕ)) → AreItemTexts (raw_bytes value) texts → scalar_of (raw_bytes value) ≡ container Array
elements_array value texts all =
    let start : after_space (raw_bytes value) 0 ≡ 0 = value_starts (lazy_is_whole value).value in
    let opens : byte (raw_bytes value) 0 ≡ 91 = rw start at (closed_opens (bracket_closed all.listing.ending)) in
    rw opens refl
