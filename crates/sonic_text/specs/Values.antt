-- Values (RFC 8259, sections 3 to 5).
use Rattle.std.specs.Prelude.{◌≡◌, ◌≢◌, ℕ, ◌+◌, ◌==◌, ◌||◌, Bool, List, Option, Some, None, codes, if◌then◌else◌}
use Rattle.sonic_error.specs.declared.json_type.JsonType.{JsonType}
use Rattle.sonic_error.specs.declared.json_type.JsonType.TheVariants.{Null, Boolean, Number, String, Object as AnObject, Array as AnArray}
use Rattle.sonic_text.specs.declared.kind.Kind.{Kind}
use Rattle.sonic_text.specs.declared.kind.Kind.TheVariants.{Array, Object}
use Rattle.sonic_text.specs.Places.{byte, after_space}
use Rattle.sonic_text.specs.Literals.{IsLiteral}
use Rattle.sonic_text.specs.Numbers.{IsNumber}
use Rattle.sonic_text.specs.Strings.{IsString}

-- a key for the bytes b is at k and a colon after it, and the member's value is expected at v
pub record IsKey (m : Bool) (t : List ℕ) (k v : ℕ) (b : List ℕ) : Type 0 where
  pub end : ℕ
  pub string : IsString m t k end b
  pub colon : byte t (after_space t end) ≡ 58
  pub value_start : v ≡ after_space t (after_space t end + 1)

-- the bracket that opens a container of this kind, and the one that closes it
abbrev pub opening : Kind → ℕ
opening Array = 91
opening Object = 123

abbrev pub closing : Kind → ℕ
closing Array = 93
closing Object = 125

-- of the item of this kind that is expected at h the value is expected at v: nothing comes before an element's, and this key and a colon before a member's
pub data ItemHead (m : Bool) (t : List ℕ) : Kind → ℕ → ℕ → Option (List ℕ) → Type 0 where
  no_head : {h v : ℕ} → v ≡ h → ItemHead m t Array h v None
  key_head : {h v : ℕ} {b : List ℕ} → IsKey m t h v b → ItemHead m t Object h v (Some b)

mutual
  -- from i to j is a value
  pub data IsValue (m : Bool) (t : List ℕ) : ℕ → ℕ → Type 0 where
    null_literal : {i j : ℕ} → IsLiteral (codes "null") t i j → IsValue m t i j
    true_literal : {i j : ℕ} → IsLiteral (codes "true") t i j → IsValue m t i j
    false_literal : {i j : ℕ} → IsLiteral (codes "false") t i j → IsValue m t i j
    number : {i j : ℕ} → IsNumber t i j → IsValue m t i j
    string : {i j : ℕ} {b : List ℕ} → IsString m t i j b → IsValue m t i j
    empty : (kind : Kind) {i j : ℕ} → byte t i ≡ opening kind → byte t (after_space t (i + 1)) ≡ closing kind → j ≡ after_space t (i + 1) + 1 → IsValue m t i j
    filled : {kind : Kind} {i n h v e j : ℕ} {l : Option (List ℕ)} → ItemsFit m t kind i n h → ItemHead m t kind h v l → IsValue m t v e → byte t (after_space t e) ≡ closing kind
        → j ≡ after_space t e + 1 → IsValue m t i j

  -- in the container of this kind at i the first n items, each with its comma, fit up to h, where the next item is expected
  pub data ItemsFit (m : Bool) (t : List ℕ) : Kind → ℕ → ℕ → ℕ → Type 0 where
    first_item : {kind : Kind} {i n h : ℕ} → byte t i ≡ opening kind → h ≡ after_space t (i + 1) → byte t h ≢ closing kind → n ≡ 0 → ItemsFit m t kind i n h
    next_item : {kind : Kind} {i p u v e n h : ℕ} {l : Option (List ℕ)} → ItemsFit m t kind i p u → ItemHead m t kind u v l → IsValue m t v e → byte t (after_space t e) ≡ 44
        → h ≡ after_space t (after_space t e + 1) → n ≡ p + 1 → ItemsFit m t kind i n h

-- the type of a value, by its first byte
abbrev pub type_of : ℕ → JsonType
type_of first =
    if first == 110 then Null
    else if first == 116 || first == 102 then Boolean
    else if first == 34 then String
    else if first == 91 then AnArray
    else if first == 123 then AnObject
    else Number

-- the type of the value at i
abbrev pub type_at : List ℕ → ℕ → JsonType
type_at t i = type_of (byte t i)
