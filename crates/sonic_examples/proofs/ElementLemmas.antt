-- A loop over an iterator sees exactly the elements.
use Rattle.std.proofs.Common.{◌≡◌, ◌∙◌, sym, ap, inl, inr, refl, ℕ, ◌+◌, List, [], ◌∷◌, ◌++◌, true, false, map}
use Rattle.std.proofs.lemmas.List.{map-append}
use Rattle.sonic_error.specs.declared.code.ErrorCode.TheVariants.{NoMemory}
use Rattle.sonic_error.specs.declared.error.Error.{Error}
use Rattle.sonic_error.specs.Errors.{IsPlainError}
use Rattle.sonic_text.specs.declared.kind.Kind.TheVariants.{Array}
use Rattle.sonic_examples.specs.Elements.{item_text, AreFirst, AreElements, IsClosedArray, IsElementsError, out_of_memory, stop}
use Rattle.sonic_lazy.specs.declared.lazyvalue.LazyValue.{LazyValue}
use Rattle.sonic_lazy.proofs.ListingLemmas.{listing_one}
use Rattle.sonic_lazy.specs.Items.{Listing, closed, stopped, EndsItems, no_items, one_more_item}
use Rattle.sonic_lazy.specs.Iterators.{IteratorState, iterator_over, ShowsElement, IsNextError, out_of_memory as no_memory, no_next_item, IsOver}
use Rattle.sonic_lazy.specs.LazyValues.{raw_bytes}

-- before the first call no element was seen
pub none_first : {t : List ℕ} → AreFirst t 0 []
none_first = record { items = []; are = no_items refl refl; shown = refl }

-- each call shows one more
pub one_more_first : {t : List ℕ} {n : ℕ} (values : List LazyValue) {value : LazyValue} → AreFirst t n values → ShowsElement t n value
    → AreFirst t (n + 1) (values ++ value ∷ [])
one_more_first {t} values {value} first x = record {
  items = first.items ++ x.item ∷ [];
  are = one_more_item first.are x.is refl refl;
  shown = map-append raw_bytes values (value ∷ [])
      ∙ ap (λ l. l ++ raw_bytes value ∷ []) first.shown
      ∙ ap (λ b. map (item_text t) first.items ++ b ∷ []) x.shown
      ∙ sym (map-append (item_text t) first.items (x.item ∷ []));
}

-- an iterator over text that has given so many elements
abbrev pub HasGiven : IteratorState → List ℕ → ℕ → Type 0
HasGiven it t n = it ≡ record (iterator_over Array t false true) { given = n }

-- where it is over these are all
pub all_first : {it now : IteratorState} {t : List ℕ} {values : List LazyValue} → HasGiven it t it.given → AreFirst t it.given values → IsOver it now
    → AreElements t values
all_first {it} {t} g first over = elim over.reason [
  | inl ended ↦ (let going : it.ended ≡ false = rw g refl in absurd cc)
  | inr ends ↦
      let closes : EndsItems t false Array it.given closed = rw g at ends in
      record { items = first.items; all = record { count = it.given; items = first.are; ending = closes }; shown = first.shown }
]

-- its error is where they stop
pub error_after : {it : IteratorState} {t : List ℕ} {values : List LazyValue} {e : Error} → HasGiven it t it.given → AreFirst t it.given values → IsNextError it e
    → IsElementsError t e
error_after g first (no_memory plain takes) = out_of_memory plain
error_after {it} {t} g first (no_next_item {s} ends at) =
    let end : EndsItems t false Array it.given (stopped s) = rw g at ends in
    stop (record { count = it.given; items = first.are; ending = end }) (rw g at at)

-- where the array is closed there is no such place
pub plain_only : {t : List ℕ} {e : Error} → IsClosedArray t → IsElementsError t e → IsPlainError e NoMemory
plain_only closes (out_of_memory plain) = plain
plain_only {t} (items, all) (stop {items = others} {s} stops at) =
    let same = (listing_one t false Array).one (record { items = items; ending = closed }) (record { items = others; ending = stopped s }) all stops in
    let endings : closed ≡ stopped s = ap (λ (l : Listing). l.ending) same in
    absurd cc
