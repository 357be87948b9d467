-- Rules by which the beginning of a value, a key and an item are read.
use Rattle.std.proofs.Common.{◌≡◌, ◌≢◌, ◌↔◌, ℕ, ◌<◌, ◌≤◌, Bool, false, List, length, arith, refl}
use Rattle.std.specs.Prelude.{Some, None, IsTrue}
use Rattle.sonic_text.specs.declared.kind.Kind.{Kind}
use Rattle.sonic_text.specs.declared.kind.Kind.TheVariants.{Array, Object}
use Rattle.sonic_text.specs.Places.{byte}
use Rattle.sonic_text.specs.Literals.{IsLiteral}
use Rattle.sonic_text.specs.Strings.{IsEscapedString}
use Rattle.sonic_text.specs.Values.{opening, IsKey, no_head, key_head, IsValue, null_literal, true_literal, false_literal, number, string, empty, ItemsFit, first_item}
use Rattle.sonic_text.specs.Faults.{no_value, null_fault, true_fault, false_fault, number_fault, string_fault, no_quote, key_fault, no_colon}
use Rattle.sonic_text.proofs.Items.{opening_no_quote}
use Rattle.sonic_text.proofs.Values.{value-longer, items_open}
use Rattle.sonic_parser.specs.declared.begin.ValueStart.TheVariants.{Inside}
use Rattle.sonic_parser.specs.declared.container.AfterItem.TheVariants.{Item, End}
use Rattle.sonic_parser.specs.Internal.Containers.{IsAfterBracket}
use Rattle.sonic_parser.specs.Internal.Skipping.{IsComplete, IsBegun}
use Rattle.sonic_parser.specs.Parts.{IsItem}

-- what begins with another byte is no string with a backslash
pub no_escape : (t : List ℕ) (i e : ℕ) → byte t i ≢ 34 → IsTrue false ↔ IsEscapedString t i e
no_escape t i e other = (λ h. absurd (cc), λ h. absurd (other h.0))

-- a value that is no string is complete
pub plain_value : {m : Bool} {t : List ℕ} {i e : ℕ} → byte t i ≢ 34 → i < e → e ≤ length t → IsValue m t i e
    → IsComplete m t i (record { start = i; end = e; escaped = false })
plain_value {t = t} {i} {e} other later within x = record { start = refl; later = later; within = within; value = x; escaped = no_escape t i e other }

-- so is an empty container
pub empty_begun : {m : Bool} {t : List ℕ} {i e : ℕ} (kind : Kind) → byte t i ≡ opening kind → IsAfterBracket t kind i (End e)
    → IsComplete m t i (record { start = i; end = e; escaped = false })
empty_begun kind b f = plain_value (λ q. opening_no_quote kind (omega arith)) f.0 f.1 (empty kind b f.2.0 f.2.1)

-- and one with items goes on with the first
pub filled_begun : {m : Bool} {t : List ℕ} {i h : ℕ} {kind : Kind} → byte t i ≡ opening kind → IsAfterBracket t kind i (Item h)
    → IsBegun m t i (Inside kind h)
filled_begun b f = (f.0, f.1, first_item b f.2 f.3 refl)

-- a container with items that was read to its end
pub container_value : {m : Bool} {t : List ℕ} {i n h e : ℕ} {kind : Kind} → ItemsFit m t kind i n h → e ≤ length t → IsValue m t i e
    → IsComplete m t i (record { start = i; end = e; escaped = false })
container_value {kind = kind} is within x =
    let b = items_open is in
    plain_value (λ q. opening_no_quote kind (omega arith)) (value-longer x) within x

-- an element's value is expected where the element is
pub element_item : {m : Bool} {t : List ℕ} {h : ℕ} → h ≤ length t → IsItem m t Array h h
element_item l = record { later = omega arith; within = l; label = None; head = no_head refl }

-- and a member's after its key
pub member_item : {m : Bool} {t : List ℕ} {h v : ℕ} {b : List ℕ} → h < v → v ≤ length t → IsKey m t h v b → IsItem m t Object h v
member_item {b = b} l w y = record { later = omega arith; within = w; label = Some b; head = key_head y }

-- a word with letters leads on
pub literal_ended : (word t : List ℕ) {i j : ℕ} → 0 < length word → IsLiteral word t i j → (i < j) × (j ≤ length t)
literal_ended word t some l = (omega (arith, l.1), omega (arith, l.0.0, l.1))

pub ruleset beginnings = (plain_value, empty_begun, filled_begun, null_literal, true_literal, false_literal, number, string, no_value, null_fault, true_fault, false_fault, number_fault, string_fault)

pub ruleset keys = (no_quote, key_fault, no_colon)

pub ruleset items = (element_item, member_item)
