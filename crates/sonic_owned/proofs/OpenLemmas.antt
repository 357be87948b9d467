-- A loop over an iterator opens exactly the items.
use Rattle.std.proofs.Common.{◌≡◌, ◌∙◌, sym, ap, inl, inr, refl, ℕ, ◌+◌, List, [], ◌∷◌, ◌++◌, Option, Some, None, false, map}
use Rattle.std.proofs.lemmas.List.{map-append}
use Rattle.sonic_lazy.specs.Items.{Item, closed, EndsItems, at_broken_text, at_bracket, at_stop, AreItems, AreClosed, no_items, one_more_item}
use Rattle.sonic_lazy.specs.Iterators.{IteratorState, iterator_over, ShowsElement, ShowsMember, IsOver}
use Rattle.sonic_lazy.specs.LazyValues.{raw_bytes}
use Rattle.sonic_lazy.specs.declared.lazyvalue.LazyValue.{LazyValue}
use Rattle.std.specs.Cow.{cow_str_bytes}
use Rattle.std.specs.declared.borrow.CowStr.{CowStr}
use Rattle.sonic_find.specs.Answers.{span_text}
use Rattle.sonic_owned.proofs.Folds.{formed, elements_of, members_of}
use Rattle.sonic_owned.specs.Forms.{Form, raw, Members, no_member, member, unnamed, named}
use Rattle.sonic_owned.specs.Opened.{raw_members, AreAllMembers}
use Rattle.sonic_owned.specs.Views.{form, pair_of}
use Rattle.sonic_owned.specs.declared.made.MadeText.{MadeText}
use Rattle.sonic_owned.specs.declared.value.OwnedLazyValue.{OwnedLazyValue}
use Rattle.sonic_text.specs.Strings.{strict}
use Rattle.sonic_text.specs.Values.{ItemHead, no_head}
use Rattle.sonic_text.specs.declared.kind.Kind.{Kind}
use Rattle.sonic_text.specs.declared.kind.Kind.TheVariants.{Array, Object}

-- one item more at the end
then_member : Members → Option (List ℕ) → Form → Members
then_member no_member l f = member l f no_member
then_member (member k g ms) l f = member k g (then_member ms l f)

unnamed_more : (fs : List Form) (f : Form) → unnamed (fs ++ f ∷ []) ≡ then_member (unnamed fs) None f
unfolding then_member
unnamed_more [] f = refl
unnamed_more (g ∷ gs) f = ap (λ ms. member None g ms) (unnamed_more gs f)

named_more : (ms : List (List ℕ × Form)) (m : List ℕ × Form) → named (ms ++ m ∷ []) ≡ then_member (named ms) (Some m.0) m.1
unfolding then_member
named_more [] m = refl
named_more (n ∷ ns) m = ap (λ ms. member (Some n.0) n.1 ms) (named_more ns m)

raw_more : (t : List ℕ) (xs : List Item) (x : Item) → raw_members t (xs ++ x ∷ []) ≡ then_member (raw_members t xs) x.label (raw (span_text t x.span))
unfolding then_member
raw_more t [] x = refl
raw_more t (y ∷ ys) x = ap (λ ms. member y.label (raw (span_text t y.span)) ms) (raw_more t ys x)

-- the first n items were opened
pub record AreFirst (t : List ℕ) (kind : Kind) (n : ℕ) (ms : Members) : Type 0 where
  pub items : List Item
  pub are : AreItems t kind n items
  pub shown : ms ≡ raw_members t items

pub none_first : {t : List ℕ} {kind : Kind} → AreFirst t kind 0 no_member
none_first = record { items = []; are = no_items refl refl; shown = refl }

-- an element has no key
no_key : {t : List ℕ} {h v : ℕ} {l : Option (List ℕ)} → ItemHead strict t Array h v l → l ≡ None
no_key (no_head e) = refl

-- each call opens one more
pub element_first : {t : List ℕ} {n : ℕ} (vs : List OwnedLazyValue) (v : OwnedLazyValue) {element : LazyValue} → AreFirst t Array n (unnamed (elements_of vs))
    → ShowsElement t n element → form v ≡ raw (raw_bytes element) → AreFirst t Array (n + 1) (unnamed (elements_of (vs ++ v ∷ [])))
element_first {t} vs v {element} first x made =
    let label : x.item.label ≡ None = no_key x.is.head in
    let shown : form v ≡ raw (span_text t x.item.span) = made ∙ ap raw x.shown in
    record {
      items = first.items ++ x.item ∷ [];
      are = one_more_item first.are x.is refl refl;
      shown = ap unnamed (map-append form vs (v ∷ [])) ∙ unnamed_more (elements_of vs) (form v) ∙ ap (λ ms. then_member ms None (form v)) first.shown
          ∙ rw (shown, ← label) (sym (raw_more t first.items x.item));
    }

pub member_first : {t : List ℕ} {n : ℕ} {Z : Type 0} (ms : List (MadeText × OwnedLazyValue)) (key : MadeText) (v : OwnedLazyValue) {pair : CowStr Z × LazyValue}
    → AreFirst t Object n (named (members_of ms)) → ShowsMember t n pair → key.text ≡ cow_str_bytes pair.0 → form v ≡ raw (raw_bytes pair.1)
    → AreFirst t Object (n + 1) (named (members_of (ms ++ (key, v) ∷ [])))
member_first {t} ms key v {pair} first x named_so made =
    let label : x.item.label ≡ Some key.text = x.key ∙ ap (λ k. Some k) (sym named_so) in
    let shown : form v ≡ raw (span_text t x.item.span) = made ∙ ap raw x.shown in
    let more : members_of (ms ++ (key, v) ∷ []) ≡ members_of ms ++ (key.text, form v) ∷ [] = ap (map pair_of) (map-append formed ms ((key, v) ∷ [])) ∙ map-append pair_of (map formed ms) ((key, form v) ∷ []) in
    record {
      items = first.items ++ x.item ∷ [];
      are = one_more_item first.are x.is refl refl;
      shown = ap named more ∙ named_more (members_of ms) (key.text, form v) ∙ ap (λ l. then_member l (Some key.text) (form v)) first.shown
          ∙ rw (shown, ← label) (sym (raw_more t first.items x.item));
    }

-- an iterator over a text that has given so many items
abbrev pub HasGiven : IteratorState → Kind → List ℕ → ℕ → Type 0
HasGiven it kind t n = it ≡ record (iterator_over kind t false false) { given = n }

-- where items end with the bracket, they are closed
ends_closed : {t : List ℕ} {kind : Kind} {n : ℕ} → EndsItems t false kind n closed → AreClosed t kind n
ends_closed (at_broken_text e n z is) = absurd cc
ends_closed (at_bracket u x e) = x
ends_closed (at_stop u x is) = absurd cc

-- where the iterator is over these are all
pub all_first : {it now : IteratorState} {kind : Kind} {t : List ℕ} {ms : Members} → HasGiven it kind t it.given → AreFirst t kind it.given ms → IsOver it now → AreAllMembers t kind ms
all_first {it} {kind = kind} {t} g first over = elim over.reason [
  | inl ended ↦ (let going : it.ended ≡ false = rw g refl in absurd cc)
  | inr ends ↦
      let closes : EndsItems t false kind it.given closed = rw g at ends in
      record { count = it.given; items = first.items; are = first.are; closed = ends_closed closes; shown = first.shown }
]
