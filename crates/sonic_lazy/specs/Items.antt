-- The items of the container that begins a text (RFC 8259, sections 4 and 5): a list, and then its end or the one error.
use Rattle.std.specs.Prelude.{◌≡◌, ◌≢◌, ℕ, ◌+◌, ◌==◌, if◌then◌else◌, Bool, List, [], ◌∷◌, ◌++◌, Option, length, IsTrue}
use Rattle.std.specs.Str.{IsUtf8}
use Rattle.sonic_error.specs.declared.code.ErrorCode.{ErrorCode}
use Rattle.sonic_error.specs.declared.code.ErrorCode.TheVariants.{ExpectedArrayCommaOrEnd, ExpectedArrayStart, ExpectedObjectCommaOrEnd, ExpectedObjectStart, ExpectObjectKeyOrEnd, InvalidUTF8}
use Rattle.sonic_error.specs.Texts.{valid_up_to}
use Rattle.sonic_text.specs.declared.kind.Kind.{Kind}
use Rattle.sonic_text.specs.declared.kind.Kind.TheVariants.{Array, Object}
use Rattle.sonic_text.specs.declared.stop.Stop.{Stop}
use Rattle.sonic_text.specs.Places.{byte, after_space}
use Rattle.sonic_text.specs.Strings.{strict}
use Rattle.sonic_text.specs.Values.{opening, closing, ItemHead, IsValue, ItemsFit}
use Rattle.sonic_text.specs.Faults.{NothingFits, code_after_item, IsFault, IsKeyFault}
use Rattle.sonic_find.specs.Answers.{Span}

-- an item: what the key of a member denotes, or nothing for an element, and the span of its value
pub record Item : Type 0 where
  pub label : Option (List ℕ)
  pub span : Span

-- how a list of items ends: with the closing bracket, or at a stop that says why the next item isn't there
pub data Ending : Type 0 where
  closed : Ending
  stopped : Stop → Ending

-- items, and how they end
pub record Listing : Type 0 where
  pub items : List Item
  pub ending : Ending

-- the first n items of the container of this kind that begins the text fit, each with its comma, and the next is expected at h
abbrev pub ItemsReach : List ℕ → Kind → ℕ → ℕ → Type 0
ItemsReach t kind n h = ItemsFit strict t kind (after_space t 0) n h

-- the item comes after n others
pub record IsItemAt (t : List ℕ) (kind : Kind) (n : ℕ) (item : Item) : Type 0 where
  pub place : ℕ
  pub before : ItemsReach t kind n place
  pub head : ItemHead strict t kind place item.span.0 item.label
  pub value : IsValue strict t item.span.0 item.span.1

-- the items are n, and the closing bracket comes
pub data AreClosed (t : List ℕ) (kind : Kind) (n : ℕ) : Type 0 where
  closed_empty : n ≡ 0 → byte t (after_space t 0) ≡ opening kind → byte t (after_space t (after_space t 0 + 1)) ≡ closing kind → AreClosed t kind n
  closed_after : {p : ℕ} {last : Item} → IsItemAt t kind p last → n ≡ p + 1 → byte t (after_space t last.span.1) ≡ closing kind → AreClosed t kind n

-- no item begins at h, where it is expected after n others: no quote of a key is there, or an array ends after its bracket
pub data BeginsNoItem (t : List ℕ) : Kind → ℕ → ℕ → Type 0 where
  no_quote : {n h : ℕ} → byte t h ≢ 34 → BeginsNoItem t Object n h
  text_ends : {n h : ℕ} → n ≡ 0 → h ≡ length t → BeginsNoItem t Array n h

-- and the code for that
abbrev pub code_before_item : Kind → ℕ → ErrorCode
code_before_item Array n = ExpectedArrayCommaOrEnd
code_before_item Object n = if n == 0 then ExpectedObjectCommaOrEnd else ExpectObjectKeyOrEnd

-- the code where no container of this kind begins
abbrev pub code_of_start : Kind → ErrorCode
code_of_start Array = ExpectedArrayStart
code_of_start Object = ExpectedObjectStart

-- a stop at p for this reason, which may be the end of the text
abbrev pub stop_with : ℕ → ErrorCode → Stop
stop_with p code = record { place = p; code = code }

-- why n items are all of a container that isn't closed after them
pub data AreStopped (t : List ℕ) (kind : Kind) (n : ℕ) (s : Stop) : Type 0 where
  -- what the container itself lacks has codes of its own, at the end of the text too
  no_container : n ≡ 0 → byte t (after_space t 0) ≢ opening kind → s ≡ stop_with (after_space t 0) (code_of_start kind) → AreStopped t kind n s
  no_item : {h : ℕ} → ItemsReach t kind n h → BeginsNoItem t kind n h → s ≡ stop_with h (code_before_item kind n) → AreStopped t kind n s
  no_separator : {p : ℕ} {last : Item} → IsItemAt t kind p last → n ≡ p + 1 → NothingFits t last.span.1 (closing kind)
      → s ≡ stop_with (after_space t last.span.1) (code_after_item kind) → AreStopped t kind n s
  -- and keys, colons and values those of each text
  no_key : {h : ℕ} → kind ≡ Object → ItemsReach t kind n h → byte t h ≡ 34 → IsKeyFault strict t h s → AreStopped t kind n s
  no_value : {h v : ℕ} {label : Option (List ℕ)} → ItemsReach t kind n h → ¬ BeginsNoItem t kind n h → ItemHead strict t kind h v label → IsFault strict t v s
      → AreStopped t kind n s

-- how the list ends whose items are n, over a text that came as bytes whose UTF-8 is looked at first, or not
pub data EndsItems (t : List ℕ) (is_bytes : Bool) (kind : Kind) (n : ℕ) (ending : Ending) : Type 0 where
  at_broken_text : IsTrue is_bytes → ¬ IsUtf8 t → n ≡ 0 → ending ≡ stopped (stop_with (valid_up_to t) InvalidUTF8) → EndsItems t is_bytes kind n ending
  at_bracket : (IsTrue is_bytes → IsUtf8 t) → AreClosed t kind n → ending ≡ closed → EndsItems t is_bytes kind n ending
  at_stop : {s : Stop} → (IsTrue is_bytes → IsUtf8 t) → AreStopped t kind n s → ending ≡ stopped s → EndsItems t is_bytes kind n ending

-- these are the first n items, in order
pub data AreItems (t : List ℕ) (kind : Kind) : ℕ → List Item → Type 0 where
  no_items : {n : ℕ} {items : List Item} → n ≡ 0 → items ≡ [] → AreItems t kind n items
  one_more_item : {p n : ℕ} {before items : List Item} {item : Item} → AreItems t kind p before → IsItemAt t kind p item → n ≡ p + 1
      → items ≡ before ++ item ∷ [] → AreItems t kind n items

-- these are all items of the container of this kind that begins the text, and so they end
pub record IsListing (t : List ℕ) (is_bytes : Bool) (kind : Kind) (listing : Listing) : Type 0 where
  pub count : ℕ
  pub items : AreItems t kind count listing.items
  pub ending : EndsItems t is_bytes kind count listing.ending
