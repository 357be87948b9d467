-- The entries of the values of a document.
use Rattle.std.specs.Prelude.{◌≡◌, ℕ, ◌<◌, List, Contains, Some, slice_get}
use Rattle.sonic_text.specs.declared.kind.Kind.{Kind}
use Rattle.sonic_text.specs.declared.kind.Kind.TheVariants.{Array, Object}
use Rattle.sonic_text.specs.Strings.{IsString, strict}
use Rattle.sonic_text.specs.Values.{type_at}
use Rattle.sonic_find.specs.Documents.{IsAlone}
use Rattle.sonic_index.specs.declared.entry.Entry.{Entry}
use Rattle.sonic_index.specs.declared.entry.Label.{Label}
use Rattle.sonic_index.specs.declared.entry.Label.TheVariants.{Root, Key, At}
use Rattle.sonic_index.specs.Nodes.{Part, IsPartAt, IsNode}

-- the item that is expected at h after n others is labelled so: a member by its key with the quotes, an element by its number
abbrev pub IsLabelled : List ℕ → Kind → ℕ → ℕ → Label → Type 0
IsLabelled t Array n h label = label ≡ At n
IsLabelled t Object n h label = (e : ℕ) × (b : List ℕ) × IsString strict t h e b × (label ≡ Key h e)

-- the entry says this of the part that comes after n others
pub record IsEntryOf (t : List ℕ) (n : ℕ) (part : Part) (x : Entry) : Type 0 where
  pub start : x.start ≡ part.start
  pub end : x.end ≡ part.end
  pub label : IsLabelled t part.kind n part.item x.label
  pub kind : x.kind ≡ type_at t part.start

-- the entry is that of the root, or of a direct part of the value of the entry whose number is its parent
pub data IsEntry (t : List ℕ) (es : List Entry) (x : Entry) : Type 0 where
  of_root : IsAlone t x.start x.end → x.parent ≡ 0 → x.label ≡ Root → x.kind ≡ type_at t x.start → IsEntry t es x
  of_part : {n : ℕ} {part : Part} (p : Entry) → slice_get es x.parent ≡ Some p → IsPartAt t p.start n part → IsEntryOf t n part x → IsEntry t es x

-- these are the entries of all values of the document, by the places where they begin
pub record AreEntries (t : List ℕ) (es : List Entry) : Type 0 where
  pub rising : (a b : ℕ) (x y : Entry) → a < b → slice_get es a ≡ Some x → slice_get es b ≡ Some y → x.start < y.start
  pub sound : (x : Entry) → Contains es x → IsEntry t es x
  pub complete : (i j : ℕ) → IsNode t i j → (x : Entry) × Contains es x × (x.start ≡ i) × (x.end ≡ j)

-- a text, and the entries of all its values
pub record Indexed : Type 0 where
  pub text : List ℕ
  pub entries : List Entry
