-- The items of the container that begins a text (RFC 8259, sections 4 and 5), and what the calls that go through them come to.
use Rattle.std.specs.Prelude.{◌≡◌, ◌≢◌, ℕ, ◌+◌, Bool, true, false, List, length, IsTrue, IsFalse}
use Rattle.std.specs.Str.{IsUtf8}
use Rattle.sonic_error.specs.declared.json_type.JsonType.{JsonType}
use Rattle.sonic_error.specs.declared.code.ErrorCode.TheVariants.{InvalidUTF8}
use Rattle.sonic_error.specs.Texts.{valid_up_to}
use Rattle.sonic_find.specs.Documents.{IsInvalid}
use Rattle.sonic_parser.specs.Containers.{IsEnd}
use Rattle.sonic_text.specs.Places.{byte, after_space}
use Rattle.sonic_text.specs.Strings.{strict, IsString}
use Rattle.sonic_text.specs.Values.{opening, IsKey, IsValue, ItemsFit}
use Rattle.sonic_text.specs.declared.kind.Kind.{Kind}
use Rattle.sonic_text.specs.declared.kind.Kind.TheVariants.{Array, Object}
use Rattle.sonic_text.specs.declared.stop.Stop.{Stop}
use Rattle.sonic_c.specs.Begun.{Begins, IsExpected, IsNotBegun, IsTextRefused}
use Rattle.sonic_c.specs.Statuses.{status_ok, status_document_error, status_no_memory, status_end}
use Rattle.sonic_c.specs.Told.{AreNumbersOf}
use Rattle.sonic_c.specs.Values.{ValueCells}
use Rattle.sonic_c.specs.declared.begun.Expected.TheVariants.{Container}
use Rattle.sonic_c.specs.declared.fault.Fault.{Fault}
use Rattle.sonic_c.specs.declared.walk.Item.{Item}
use Rattle.sonic_c.specs.declared.items.Items.{Items}
use Rattle.sonic_c.specs.declared.span.Span.{Span}

-- of the item of this kind that is expected at h the value is expected at v, and this is the span of its key, twice 0 for an element
pub data IsHeadAt (t : List ℕ) : Kind → ℕ → ℕ → Span → Type 0 where
  no_key : {h v : ℕ} {key : Span} → v ≡ h → key ≡ record { start = 0; end = 0 } → IsHeadAt t Array h v key
  a_key : {h v : ℕ} {key : Span} {b : List ℕ} → key.start ≡ h → IsString strict t h key.end b → IsKey strict t h v b → IsHeadAt t Object h v key

-- this is the item that is expected at h
pub record IsExpectedItem (t : List ℕ) (kind : Kind) (h : ℕ) (item : Item) : Type 0 where
  pub head : IsHeadAt t kind h item.value.start item.key
  pub value : IsValue strict t item.value.start item.value.end

-- it comes after n others of the container of this kind that begins the text
pub record IsNthItem (t : List ℕ) (kind : Kind) (n : ℕ) (item : Item) : Type 0 where
  pub place : ℕ
  pub before : ItemsFit strict t kind (after_space t 0) n place
  pub found : IsExpectedItem t kind place item

-- the container that begins the text has n items, and ends at e
pub data HasItemCount (t : List ℕ) (n e : ℕ) : Type 0 where
  no_items : (kind : Kind) → n ≡ 0 → byte t (after_space t 0) ≡ opening kind → IsEnd t kind (after_space t 0 + 1) e → HasItemCount t n e
  last_item : (kind : Kind) (m : ℕ) (item : Item) → IsNthItem t kind m item → n ≡ m + 1 → IsEnd t kind item.value.end e → HasItemCount t n e

-- the text is a container of n items with nothing but white space round it
pub record IsContainerAlone (t : List ℕ) (n : ℕ) : Type 0 where
  pub end : ℕ
  pub items : HasItemCount t n end
  pub after : after_space t end ≡ length t

-- what a call for the number of items comes to, with these cells before and after it
pub data IsCountCall (t : List ℕ) (before after : ValueCells ℕ) (status : ℕ) : Type 0 where
  count_told : (n : ℕ) → IsContainerAlone t n → IsUtf8 t → status ≡ status_ok → after ≡ record before { value = n } → IsCountCall t before after status
  count_refused : IsTextRefused Container t before.error after.error status → after.value ≡ before.value → IsCountCall t before after status
  count_unknown : status ≡ status_no_memory → after ≡ before → IsCountCall t before after status

-- n items of the container of this kind that begins the text were passed up to p: none, and p is its bracket, or the last of them ends there, but for
-- white space
pub data HasPassed (t : List ℕ) (kind : Kind) (n : ℕ) (is_first : Bool) (p : ℕ) : Type 0 where
  none_passed : n ≡ 0 → IsTrue is_first → p ≡ after_space t 0 → byte t p ≡ opening kind → HasPassed t kind n is_first p
  some_passed : (m : ℕ) (item : Item) → IsNthItem t kind m item → n ≡ m + 1 → IsFalse is_first → after_space t p ≡ after_space t item.value.end
      → HasPassed t kind n is_first p

-- the state of a cursor that expects the first item of a container of this kind, or another one; any other number is that of one that has ended
abbrev pub state_number : Kind → Bool → ℕ
state_number Array true = 1
state_number Array false = 2
state_number Object true = 3
state_number Object false = 4

-- the cursor has ended: it expects no item
abbrev pub HasEnded : Items → Type 0
HasEnded items = (kind : Kind) (is_first : Bool) → items.state ≢ state_number kind is_first

-- the cursor has told n items of the container of this kind that begins the text
pub record HasTold (t : List ℕ) (kind : Kind) (n : ℕ) (items : Items) : Type 0 where
  pub is_first : Bool
  pub state : items.state ≡ state_number kind is_first
  pub passed : HasPassed t kind n is_first items.place

-- where the bytes of the text are no UTF-8
abbrev pub broken_at : List ℕ → Stop
broken_at t = record { place = valid_up_to t; code = InvalidUTF8 }

-- the caller's cursor and error
pub record BeginCells : Type 0 where
  pub items : Items
  pub error : Fault

-- what a call that begins to go through items comes to, with these cells before and after it
pub data IsBeginCall (t : List ℕ) (before after : BeginCells) (status : ℕ) : Type 0 where
  has_begun : (kind : Kind) → HasTold t kind 0 after.items → IsUtf8 t → status ≡ status_ok → after.error ≡ before.error → IsBeginCall t before after status
  not_begun : IsNotBegun Container t before.error after.error status → after.items ≡ before.items → IsBeginCall t before after status
  no_text : (kind : JsonType) → Begins t kind → IsExpected Container kind → ¬ IsUtf8 t → status ≡ status_document_error → AreNumbersOf t (broken_at t) after.error
      → after.items ≡ before.items → IsBeginCall t before after status

-- the caller's cursor, item and error
pub record ItemCells : Type 0 where
  pub items : Items
  pub item : Item
  pub error : Fault

-- of each container that the cursor may be in, and of how many items it has told of it, this holds
abbrev pub OfEach : List ℕ → Items → (Kind → ℕ → Type 0) → Type 0
OfEach t items Says = (kind : Kind) (n : ℕ) → HasTold t kind n items → Says kind n

-- no item comes after n others
abbrev pub LacksItem : List ℕ → Kind → ℕ → Type 0
LacksItem t kind n = (item : Item) → ¬ IsNthItem t kind n item

-- the text is invalid for this reason, and the next item isn't there
abbrev pub IsNextFault : List ℕ → Items → Stop → Type 0
IsNextFault t items s = OfEach t items (λ kind n. ((is_bytes : Bool) → IsInvalid t is_bytes s) × LacksItem t kind n)

-- what a call for the next item comes to, with these cells before and after it
pub data IsNextCall (t : List ℕ) (before after : ItemCells) (status : ℕ) : Type 0 where
  item_told : OfEach t before.items (λ kind n. IsNthItem t kind n after.item × HasTold t kind (n + 1) after.items) → status ≡ status_ok
      → after.error ≡ before.error → IsNextCall t before after status
  all_told : OfEach t before.items (λ kind n. IsContainerAlone t n) → status ≡ status_end → after ≡ record before { items = record before.items { state = 0 } }
      → IsNextCall t before after status
  item_fails : (s : Stop) → IsNextFault t before.items s → status ≡ status_document_error → AreNumbersOf t s after.error
      → after.items ≡ record before.items { state = 0 } → after.item ≡ before.item → IsNextCall t before after status
  has_ended : OfEach t before.items (λ kind n. ⊥) → status ≡ status_end → after ≡ before → IsNextCall t before after status
  next_unknown : status ≡ status_no_memory → after ≡ before → IsNextCall t before after status
