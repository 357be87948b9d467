-- The elements of an array are one list of texts, which an iterator over it gives.
use Rattle.std.proofs.Common.{◌≡◌, ◌∙◌, inl, inr, ap, sym, refl, ℕ, ◌+◌, ◌<◌, List, [], ◌∷◌, ◌++◌, Option, None, true, false, length, length-append, map, arith}
use Rattle.std.proofs.lemmas.Bool.{cases_lt, cases_order}
use Rattle.std.proofs.lemmas.List.{length-map, map-append}
use Rattle.std.proofs.lemmas.List.Elements.{All-nil, All-push, All-head, All-tail}
use Rattle.std.specs.List.{All}
use Rattle.sonic_edits.specs.Lines.{AreElementTexts}
use Rattle.sonic_edits.specs.Internal.Reading.{HasElements}
use Rattle.sonic_lazy.proofs.WholeLemmas.{lazy_is_whole}
use Rattle.sonic_find.specs.Documents.{IsDocumentValue}
use Rattle.sonic_lazy.specs.Scalars.{container, scalar_of}
use Rattle.sonic_text.proofs.Values.{items_open, value_starts}
use Rattle.sonic_text.specs.Places.{byte, after_space}
use Rattle.sonic_lazy.proofs.IteratorLemmas.{never_ends}
use Rattle.sonic_lazy.proofs.ListingLemmas.{listing_one}
use Rattle.sonic_lazy.specs.Items.{Item, closed, Listing, EndsItems, at_broken_text, at_bracket, at_stop, IsItemAt, AreItems, no_items, one_more_item, AreClosed, closed_empty, closed_after, IsListing}
use Rattle.sonic_lazy.specs.Iterators.{IteratorState, iterator_over, ShowsElement, IsOver}
use Rattle.sonic_lazy.specs.LazyValues.{raw_bytes}
use Rattle.sonic_find.specs.Answers.{span_text}
use Rattle.sonic_lazy.specs.declared.lazyvalue.LazyValue.{LazyValue}
use Rattle.sonic_owned.proofs.DocumentLemmas.{value_one}
use Rattle.sonic_owned.specs.Forms.{raw, Members, unnamed}
use Rattle.sonic_owned.specs.Opened.{raw_members, AreAllMembers}
use Rattle.sonic_text.specs.Strings.{strict}
use Rattle.sonic_text.specs.Values.{opening, ItemHead, no_head}
use Rattle.sonic_text.specs.declared.kind.Kind.{Kind}
use Rattle.sonic_text.specs.declared.kind.Kind.TheVariants.{Array}

-- the texts of items
abbrev pub texts_of : List ℕ → List Item → List (List ℕ)
texts_of t = map (λ (x : Item). span_text t x.span)

-- what holds of an item at its place holds of each of some items
pub each_item : {t : List ℕ} {kind : Kind} {n : ℕ} {items : List Item} (P : Item → Type 0) → ((k : ℕ) (x : Item) → IsItemAt t kind k x → P x) → AreItems t kind n items
    → All P items
each_item P f (no_items z is) = rw is (All-nil P)
each_item P f (one_more_item {p = k} {before = before} {item = item} are x e is) = rw is (All-push P before item (each_item P f are) (f k item x))

-- an element has no key
abbrev IsUnnamed : Item → Type 0
IsUnnamed x = x.label ≡ None

no_key : {t : List ℕ} {h v : ℕ} {l : Option (List ℕ)} → ItemHead strict t Array h v l → l ≡ None
no_key (no_head e) = refl

members_unnamed : (t : List ℕ) (items : List Item) → All IsUnnamed items → raw_members t items ≡ unnamed (map raw (texts_of t items))
members_unnamed t [] h = refl
members_unnamed t (x ∷ xs) h = rw (All-head IsUnnamed x xs h, members_unnamed t xs (All-tail IsUnnamed x xs h)) refl

-- elements by their items
pub items_elements : {t : List ℕ} {n : ℕ} {items : List Item} → AreItems t Array n items → AreClosed t Array n → AreElementTexts t (texts_of t items)
items_elements {t} {n} {items} are closes = record { count = n; items = items; are = are; closed = closes; shown = sym (members_unnamed t items (each_item IsUnnamed (λ k x is. no_key is.head) are)) }

-- a closed container has one list of items
items_one : {t : List ℕ} {kind : Kind} {n p : ℕ} {xs ys : List Item} → AreItems t kind n xs → AreClosed t kind n → AreItems t kind p ys
    → AreClosed t kind p → xs ≡ ys
items_one {t} {kind} {xs = xs} {ys} x c y d =
    let a : Listing = record { items = xs; ending = closed } in
    let b : Listing = record { items = ys; ending = closed } in
    let is : IsListing t false kind a = record { count = _; items = x; ending = at_bracket (λ e. absurd cc) c refl } in
    let are : IsListing t false kind b = record { count = _; items = y; ending = at_bracket (λ e. absurd cc) d refl } in
    ap (λ (l : Listing). l.items) ((listing_one t false kind).one a b is are)

-- all members of a text are one list
pub all_members_one : {t : List ℕ} {kind : Kind} {ms ns : Members} → AreAllMembers t kind ms → AreAllMembers t kind ns → ms ≡ ns
all_members_one {t} a b = a.shown ∙ ap (raw_members t) (items_one a.are a.closed b.are b.closed) ∙ sym b.shown

texts_one : (xs ys : List (List ℕ)) → unnamed (map raw xs) ≡ unnamed (map raw ys) → xs ≡ ys
texts_one [] [] e = refl
texts_one [] (y ∷ ys) e = absurd cc
texts_one (x ∷ xs) [] e = absurd cc
texts_one (x ∷ xs) (y ∷ ys) e =
    let rest : unnamed (map raw xs) ≡ unnamed (map raw ys) = cc in
    let first : x ≡ y = cc in
    rw (first, texts_one xs ys rest) refl

-- and so are the texts of elements
pub elements_one : {t : List ℕ} {xs ys : List (List ℕ)} → AreElementTexts t xs → AreElementTexts t ys → xs ≡ ys
elements_one {xs = xs} {ys} a b = texts_one xs ys (all_members_one a b)

-- items hold each of them
item_at : {t : List ℕ} {kind : Kind} {n p : ℕ} {items : List Item} → AreItems t kind p items → n < p → (item : Item) × IsItemAt t kind n item
item_at (no_items z is) l = absurd (omega arith)
item_at {t} {kind} {n} (one_more_item {p = k} {item = item} xs x m is) l = elim (cases_order n k) [
  | inl e ↦ (let own : IsItemAt t kind n item = rw e x in (item, own))
  | inr (inl less) ↦ item_at xs less
  | inr (inr more) ↦ absurd (omega arith)
]

-- items are as many as is said
items_count : {t : List ℕ} {kind : Kind} {n : ℕ} {items : List Item} → AreItems t kind n items → length items ≡ n
items_count (no_items z is) = rw is (sym z)
items_count (one_more_item {before = before} {item = item} are x e is) = rw is (omega (arith, length-append before (item ∷ []), items_count are))

pub never_bytes : false ≡ true → ⊥
never_bytes e = cc

-- a container with so many items and one more isn't closed before them
closes_later : {t : List ℕ} {kind : Kind} {n p : ℕ} {items : List Item} {item : Item} → AreItems t kind n items → IsItemAt t kind n item → AreClosed t kind p → n < p
closes_later {t} {kind} {n} {p} are x c = elim (cases_lt n p) [
  | inl less ↦ less
  | inr past ↦
      let five : AreItems t kind (n + 1) _ = one_more_item are x refl refl in
      let i : (item : Item) × IsItemAt t kind p item = item_at five (omega (arith, past)) in
      let ends : EndsItems t false kind p closed = at_bracket (λ e. absurd cc) c refl in
      absurd (never_ends (λ e. absurd (never_bytes e)) i.1 ends)
]

-- the first n elements have these texts
pub record AreFirst (t : List ℕ) (n : ℕ) (texts : List (List ℕ)) : Type 0 where
  pub items : List Item
  pub are : AreItems t Array n items
  pub shown : texts ≡ texts_of t items

pub none_first : {t : List ℕ} → AreFirst t 0 []
none_first = record { items = []; are = no_items refl refl; shown = refl }

-- each call gives one more
pub element_first : {t : List ℕ} {n : ℕ} (vs : List LazyValue) (v : LazyValue) → AreFirst t n (map raw_bytes vs) → ShowsElement t n v
    → AreFirst t (n + 1) (map raw_bytes (vs ++ v ∷ []))
element_first {t} vs v first x = record {
  items = first.items ++ x.item ∷ [];
  are = one_more_item first.are x.is refl refl;
  shown = map-append raw_bytes vs (v ∷ []) ∙ rw (first.shown, x.shown) (sym (map-append (λ (x : Item). span_text t x.span) first.items (x.item ∷ [])));
}

-- an iterator over an array that has given so many elements
abbrev pub HasGiven : IteratorState → List ℕ → ℕ → Type 0
HasGiven it t n = it ≡ record (iterator_over Array t false false) { given = n }

-- where items end with the bracket, they are closed
ends_closed : {t : List ℕ} {kind : Kind} {n : ℕ} → EndsItems t false kind n closed → AreClosed t kind n
ends_closed (at_broken_text e n z is) = absurd cc
ends_closed (at_bracket u x e) = x
ends_closed (at_stop u x is) = absurd cc

-- where the iterator is over these are all
pub all_first : {it now : IteratorState} {t : List ℕ} {texts : List (List ℕ)} → HasGiven it t it.given → AreFirst t it.given texts → IsOver it now → AreElementTexts t texts
all_first {it} {t = t} g first over = elim over.reason [
  | inl ended ↦ (let going : it.ended ≡ false = rw g refl in absurd cc)
  | inr ends ↦
      let closes : EndsItems t false Array it.given closed = rw g at ends in
      rw first.shown (items_elements first.are (ends_closed closes))
]

-- where one more comes they are more
pub more_first : {t : List ℕ} {n : ℕ} {first : List (List ℕ)} (v : LazyValue) (texts : List (List ℕ)) → AreFirst t n first → ShowsElement t n v → AreElementTexts t texts
    → length first < length texts
more_first {t} {n} {first} v texts f x all =
    let later : n < all.count = closes_later f.are x.is all.closed in
    let one : texts ≡ texts_of t all.items = elements_one all (items_elements all.are all.closed) in
    let count : length texts ≡ all.count = ap length one ∙ length-map all.items (λ (x : Item). span_text t x.span) ∙ items_count all.are in
    let few : length first ≡ n = ap length f.shown ∙ length-map f.items (λ (x : Item). span_text t x.span) ∙ items_count f.are in
    omega arith

-- a line's elements are those of its value
pub own_elements : {line text : List ℕ} {texts : List (List ℕ)} → IsDocumentValue line text → HasElements line texts → AreElementTexts text texts
own_elements x h = rw (value_one x h.value) h.array

pub own_one : {line : List ℕ} {xs ys : List (List ℕ)} → HasElements line xs → HasElements line ys → xs ≡ ys
own_one x y = elements_one x.array (own_elements x.value y)

-- a text that begins with an array begins with its bracket
closed_opens : {t : List ℕ} {kind : Kind} {n : ℕ} → AreClosed t kind n → byte t (after_space t 0) ≡ opening kind
closed_opens (closed_empty z b c) = b
closed_opens (closed_after x e c) = items_open x.before

pub elements_array : (value : LazyValue) (texts : List (List ℕ)) → AreElementTexts (raw_bytes value) texts → scalar_of (raw_bytes value) ≡ container Array
elements_array value texts all =
    let start : after_space (raw_bytes value) 0 ≡ 0 = value_starts (lazy_is_whole value).value in
    let opens : byte (raw_bytes value) 0 ≡ 91 = rw start at (closed_opens all.closed) in
    rw opens refl
