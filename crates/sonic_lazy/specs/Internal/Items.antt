-- What the cursor of an iterator knows of the items that it passes.
use Rattle.std.specs.Prelude.{◌≡◌, ℕ, ◌+◌, ◌<◌, ◌≤◌, List, length, IfSome, IsTrue, IsFalse}
use Rattle.std.specs.Str.{IsUtf8}
use Rattle.std.specs.declared.borrow.CowStr.{CowStr}
use Rattle.std.specs.declared.option.Option.{Option}
use Rattle.std.specs.declared.option.Option.TheVariants.{Some, None}
use Rattle.sonic_text.specs.declared.kind.Kind.{Kind}
use Rattle.sonic_text.specs.declared.kind.Kind.TheVariants.{Array, Object}
use Rattle.sonic_text.specs.Documents.{StartsWithUtf8Value}
use Rattle.sonic_text.specs.Places.{after_space}
use Rattle.sonic_text.specs.Strings.{strict}
use Rattle.sonic_text.specs.Values.{IsValue}
use Rattle.sonic_input.specs.Slices.{slice_bytes}
use Rattle.sonic_lazy.specs.declared.items.Found.{Found}
use Rattle.sonic_lazy.specs.declared.iteration.Items.TheInside.{Inside}
use Rattle.sonic_parser.specs.declared.value_span.ValueSpan.{ValueSpan}
use Rattle.sonic_parser.specs.ValueSpans.{FlagsEscape, IsKeyAt, IsStringSpan, DenotesUtf8, IsTextAt}
use Rattle.sonic_lazy.specs.Items.{Item, ItemsReach, IsItemAt}
use Rattle.sonic_lazy.specs.Iterators.{IteratorState}
use Rattle.sonic_find.specs.Parts.{IsPart}

-- so many items were passed up to here: none before the container, or the last of them ends here
pub data IsAfterItems (t : List ℕ) (kind : Kind) (n p : ℕ) : Type 0 where
  before_all : n ≡ 0 → p ≡ after_space t 0 → IsAfterItems t kind n p
  after_last : {m : ℕ} {last : Item} → IsItemAt t kind m last → n ≡ m + 1 → p ≡ last.span.1 → IsAfterItems t kind n p

-- of the item that is expected at h the value is expected at v, and this is the key before it
pub data IsFoundHead (t : List ℕ) : Kind → ℕ → ℕ → Option ValueSpan → Type 0 where
  no_key : {h v : ℕ} → v ≡ h → IsFoundHead t Array h v None
  a_key : {h v : ℕ} {key : ValueSpan} → IsKeyAt strict t h key v → IsFoundHead t Object h v (Some key)

-- this is the item after n others
pub record IsFound (t : List ℕ) (kind : Kind) (n : ℕ) (x : Found) : Type 0 where
  pub place : ℕ
  pub before : ItemsReach t kind n place
  pub head : IsFoundHead t kind place x.value.start x.key
  pub value : IsValue strict t x.value.start x.value.end
  pub escaped : FlagsEscape t x.value

-- a string is there that denotes bytes in UTF-8
pub record IsTextSpan (t : List ℕ) (string : ValueSpan) : Type 0 where
  pub span : IsStringSpan t string
  pub utf8 : DenotesUtf8 t string.start string.end

-- and its value is a part of the text in UTF-8, and its key a string
pub record IsFoundPart (t : List ℕ) (kind : Kind) (n : ℕ) (x : Found) : Type 0 where
  pub found : IsFound t kind n x
  pub part : IsPart t x.value.start x.value.end
  pub key : IfSome x.key (IsTextSpan t)

-- a key is there, and a part of the text
abbrev pub IsKeyOf : List ℕ → Option ValueSpan → Type 0
IsKeyOf t None = ⊥
IsKeyOf t (Some key) = IsTextSpan t key

-- the text is what the key denotes, and borrowed exactly where no backslash is in it
abbrev pub IsKeyText : {Z : Type 0} → List ℕ → Option ValueSpan → CowStr Z → Type 0
IsKeyText t None text = ⊥
IsKeyText t (Some key) text = IsTextAt t key.start key.end text

-- the iterator that its callers see
abbrev pub iterator_state_of : Inside → IteratorState
iterator_state_of items = record {
  kind = items.kind;
  text = items.cursor.text;
  is_bytes = items.is_bytes;
  checks = items.cursor.checks;
  given = items.given;
  ended = items.ended;
}

-- it has passed the items that it gave; its text is UTF-8 once that was looked at, or starts with a value, which needs no look
pub record IsIterator (items : Inside) : Type 0 where
  pub raw : slice_bytes items.raw ≡ items.cursor.text
  pub text : items.text.now ≡ items.cursor.text
  pub after : IsFalse items.ended → IsAfterItems items.cursor.text items.kind items.given items.cursor.place
  pub within : items.given ≤ length items.cursor.text
  pub utf8 : IsTrue items.cursor.checks → (IsTrue items.is_bytes → 0 < items.given) → IsUtf8 items.cursor.text
  pub sure : IsFalse items.cursor.checks → StartsWithUtf8Value items.cursor.text × IsFalse items.is_bytes
