-- The elements of an array as a caller collects them.
use Rattle.std.specs.Prelude.{◌≡◌, ℕ, false, List, map}
use Rattle.sonic_error.specs.declared.code.ErrorCode.TheVariants.{NoMemory}
use Rattle.sonic_error.specs.declared.error.Error.{Error}
use Rattle.sonic_error.specs.Errors.{IsErrorAt, IsPlainError}
use Rattle.sonic_text.specs.declared.kind.Kind.TheVariants.{Array}
use Rattle.sonic_text.specs.declared.stop.Stop.{Stop}
use Rattle.sonic_lazy.specs.declared.lazyvalue.LazyValue.{LazyValue}
use Rattle.sonic_lazy.specs.Items.{Item, closed, stopped, AreItems, IsListing}
use Rattle.sonic_lazy.specs.LazyValues.{raw_bytes}
use Rattle.sonic_find.specs.Answers.{span_text}

-- the text of an item's value
abbrev pub item_text : List ℕ → Item → List ℕ
item_text t item = span_text t item.span

-- the values are the first n elements of the array that begins the text
pub record AreFirst (t : List ℕ) (n : ℕ) (values : List LazyValue) : Type 0 where
  pub items : List Item
  pub are : AreItems t Array n items
  pub shown : map raw_bytes values ≡ map (item_text t) items

-- the values are all its elements, and it is closed
pub record AreElements (t : List ℕ) (values : List LazyValue) : Type 0 where
  pub items : List Item
  pub all : IsListing t false Array (record { items = items; ending = closed })
  pub shown : map raw_bytes values ≡ map (item_text t) items

-- the array is closed after all its elements
abbrev pub IsClosedArray : List ℕ → Type 0
IsClosedArray t = (items : List Item) × IsListing t false Array (record { items = items; ending = closed })

-- why the elements aren't given: the error is where they stop, or memory ran out
pub data IsElementsError (t : List ℕ) (e : Error) : Type 0 where
  out_of_memory : IsPlainError e NoMemory → IsElementsError t e
  stop : {items : List Item} {s : Stop} → IsListing t false Array (record { items = items; ending = stopped s }) → IsErrorAt e s.code t s.place
      → IsElementsError t e
