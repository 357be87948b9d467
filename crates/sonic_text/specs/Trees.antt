-- What a value means (RFC 8259, section 1).
use Rattle.std.specs.Prelude.{◌≡◌, ◌≢◌, ℕ, ◌+◌, Bool, true, false, List, Option, codes, slice_range}
use Rattle.sonic_error.specs.declared.json_type.JsonType.{JsonType}
use Rattle.sonic_error.specs.declared.json_type.JsonType.TheVariants.{Null, Boolean, Number, String, Object as AnObject, Array as AnArray}
use Rattle.sonic_text.specs.declared.kind.Kind.{Kind}
use Rattle.sonic_text.specs.declared.kind.Kind.TheVariants.{Array, Object}
use Rattle.sonic_text.specs.Places.{byte, after_space}
use Rattle.sonic_text.specs.Literals.{IsLiteral}
use Rattle.sonic_text.specs.Numbers.{IsNumber}
use Rattle.sonic_text.specs.Strings.{IsString, strict}
use Rattle.sonic_text.specs.Values.{opening, closing, ItemHead}

mutual
  -- a value as a tree: items keep their order, members their keys and their repeats, numbers their text, strings the bytes that they denote
  pub data Tree : Type 0 where
    null : Tree
    truth : Bool → Tree
    numeral : List ℕ → Tree
    text : List ℕ → Tree
    container : Kind → Items → Tree

  -- the items of a container, each member with its key
  pub data Items : Type 0 where
    no_item : Items
    item : Option (List ℕ) → Tree → Items → Items

mutual
  -- from i to j is a value, and it means this tree
  pub data Means (t : List ℕ) : ℕ → ℕ → Tree → Type 0 where
    means_null : {i j : ℕ} → IsLiteral (codes "null") t i j → Means t i j null
    means_true : {i j : ℕ} → IsLiteral (codes "true") t i j → Means t i j (truth true)
    means_false : {i j : ℕ} → IsLiteral (codes "false") t i j → Means t i j (truth false)
    means_number : {i j : ℕ} {b : List ℕ} → IsNumber t i j → b ≡ slice_range t i j → Means t i j (numeral b)
    means_string : {i j : ℕ} {b : List ℕ} → IsString strict t i j b → Means t i j (text b)
    means_empty : {kind : Kind} {i j : ℕ} → byte t i ≡ opening kind → byte t (after_space t (i + 1)) ≡ closing kind → j ≡ after_space t (i + 1) + 1
        → Means t i j (container kind no_item)
    means_filled : {kind : Kind} {i h j : ℕ} {xs : Items} → byte t i ≡ opening kind → h ≡ after_space t (i + 1) → byte t h ≢ closing kind
        → ItemsMean t kind h j xs → Means t i j (container kind xs)

  -- from h are items of this kind, one comma between two of them, and a closing bracket that ends at j
  pub data ItemsMean (t : List ℕ) : Kind → ℕ → ℕ → Items → Type 0 where
    last_item : {kind : Kind} {h v e j : ℕ} {l : Option (List ℕ)} {x : Tree} → ItemHead strict t kind h v l → Means t v e x
        → byte t (after_space t e) ≡ closing kind → j ≡ after_space t e + 1 → ItemsMean t kind h j (item l x no_item)
    more_items : {kind : Kind} {h v e g j : ℕ} {l : Option (List ℕ)} {x : Tree} {xs : Items} → ItemHead strict t kind h v l → Means t v e x
        → byte t (after_space t e) ≡ 44 → g ≡ after_space t (after_space t e + 1) → ItemsMean t kind g j xs → ItemsMean t kind h j (item l x xs)

-- the type of a tree
abbrev pub type_of_tree : Tree → JsonType
type_of_tree null = Null
type_of_tree (truth b) = Boolean
type_of_tree (numeral b) = Number
type_of_tree (text b) = String
type_of_tree (container Array xs) = AnArray
type_of_tree (container Object xs) = AnObject
