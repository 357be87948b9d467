-- What the reader knows of the values that it passed: facts on which no public clause rests.
use Rattle.std.specs.Prelude.{◌≡◌, ◌≢◌, ℕ, ◌+◌, ◌<◌, Bool, true, false, List, [], ◌∷◌, map, Option}
use Rattle.sonic_error.specs.declared.code.ErrorCode.TheVariants.{RecursionLimitExceeded}
use Rattle.sonic_find.specs.Documents.{IsAlone}
use Rattle.sonic_text.specs.Faults.{IsFault}
use Rattle.sonic_text.specs.Places.{byte, after_space}
use Rattle.sonic_text.specs.Strings.{strict, IsString}
use Rattle.sonic_text.specs.Trees.{Tree, container, Items, no_item, item, Means, ItemsMean}
use Rattle.sonic_text.specs.Values.{opening, ItemHead, IsValue, ItemsFit}
use Rattle.sonic_text.specs.declared.kind.Kind.{Kind}
use Rattle.sonic_text.specs.declared.stop.Stop.{Stop}
use Rattle.sonic_value.specs.Depths.{IsTooDeep, IsShallow}
use Rattle.sonic_value.specs.Internal.Keeping.{kept_text, kept_label, kept}
use Rattle.sonic_parser.specs.declared.value_span.ValueSpan.{ValueSpan}
use Rattle.sonic_parser.specs.ValueSpans.{FlagsEscape}

-- a text, and whether it is known to be UTF-8
pub record Source : Type 0 where
  pub text : List ℕ
  pub is_utf8 : Bool

-- and the place in it that is read next
pub record ReaderState : Type 0 where
  pub source : Source
  pub place : ℕ

-- no container begins at i
abbrev pub BeginsNoContainer : List ℕ → ℕ → Type 0
BeginsNoContainer t i = (kind : Kind) → byte t i ≢ opening kind

-- a value of the text that is no container
pub record IsScalarSpan (t : List ℕ) (x : ValueSpan) : Type 0 where
  pub value : IsValue strict t x.start x.end
  pub begins : BeginsNoContainer t x.start
  pub escaped : FlagsEscape t x

-- this is kept of what the string from i to j denotes
pub record IsKeptText (s : Source) (i j : ℕ) (c : List ℕ) : Type 0 where
  pub bytes : List ℕ
  pub string : IsString strict s.text i j bytes
  pub is : c ≡ kept_text s.is_utf8 bytes

-- and this of what the value means
pub record IsKept (s : Source) (i j : ℕ) (x : Tree) : Type 0 where
  pub meant : Tree
  pub means : Means s.text i j meant
  pub is : x ≡ kept s.is_utf8 meant

-- the value from i to j was read, in which no container is inside so many others
pub record IsValueRead (s : Source) (depth_left i j : ℕ) (x : Tree) : Type 0 where
  pub kept : IsKept s i j x
  pub shallow : IsShallow s.text depth_left i

-- no value was read at i: a container is inside so many others, or else it has a fault
pub data IsUnreadValue (t : List ℕ) (depth_left i : ℕ) (s : Stop) : Type 0 where
  too_deep : {p : ℕ} → IsTooDeep t depth_left i p → s ≡ record { place = p; code = RecursionLimitExceeded } → IsUnreadValue t depth_left i s
  at_fault : IsShallow t depth_left i → IsFault strict t i s → IsUnreadValue t depth_left i s

-- of the item of this kind that is expected at h the value is expected at v, and this is kept of its label
pub record IsHeadRead (s : Source) (kind : Kind) (h v : ℕ) (l : Option (List ℕ)) : Type 0 where
  pub label : Option (List ℕ)
  pub head : ItemHead strict s.text kind h v label
  pub is : l ≡ kept_label s.is_utf8 label

-- what is kept of an item with its label
abbrev pub kept_item : Bool → Option (List ℕ) × Tree → Option (List ℕ) × Tree
kept_item u x = (kept_label u x.0, kept u x.1)

-- these items, each with its label, before others
abbrev pub items_before : List (Option (List ℕ) × Tree) → Items → Items
items_before [] ys = ys
items_before (x ∷ xs) ys = item x.0 x.1 (items_before xs ys)

-- of the container of this kind at i the first items were read, and the next one is expected at h: this is kept of them, and inside none of them a
-- container is inside so many others
pub record AreItemsRead (s : Source) (kind : Kind) (depth_left i h : ℕ) (xs : List (Option (List ℕ) × Tree)) : Type 0 where
  pub count : ℕ
  pub fit : ItemsFit strict s.text kind i count h
  pub items : List (Option (List ℕ) × Tree)
  pub kept : xs ≡ map (kept_item s.is_utf8) items
  pub mean : (j : ℕ) (ys : Items) → ItemsMean s.text kind h j ys → ItemsMean s.text kind (after_space s.text (i + 1)) j (items_before items ys)
  pub shallow : (p g v : ℕ) (l : Option (List ℕ)) → p < count → ItemsFit strict s.text kind i p g → ItemHead strict s.text kind g v l → IsShallow s.text depth_left v

-- the container of this kind at i was read up to an item that is expected at h, or to its end there
abbrev pub IsContainerRead : Source → Kind → ℕ → ℕ → ℕ → List (Option (List ℕ) × Tree) → Bool → Type 0
IsContainerRead s kind depth_left i h xs true = AreItemsRead s kind depth_left i h xs
IsContainerRead s kind depth_left i h xs false = IsValueRead s (depth_left + 1) i h (container kind (items_before xs no_item))

-- the text is one value, in which no container is inside 255 others, and this is kept of it
pub record IsDocumentRead (s : Source) (x : Tree) : Type 0 where
  pub start : ℕ
  pub end : ℕ
  pub alone : IsAlone s.text start end
  pub kept : IsKept s start end x
  pub shallow : IsShallow s.text 255 start
