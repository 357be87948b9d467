-- What a value is as far as its own first level says (RFC 8259, section 3).
use Rattle.std.specs.Prelude.{◌≢◌, ℕ, ◌<◌, ◌^◌, ◌==◌, if◌then◌else◌, Bool, true, false, List, Option, Some, None, FitsSigned, ℤ, pos}
use Rattle.std.specs.Int.{w64}
use Rattle.std.specs.Str.Parse.{digits_value, signed_digits_value}
use Rattle.sonic_error.specs.declared.json_type.JsonType.{JsonType}
use Rattle.sonic_error.specs.declared.json_type.JsonType.TheVariants.{Null, Boolean, Number, String, Object as AnObject, Array as AnArray}
use Rattle.sonic_text.specs.declared.kind.Kind.{Kind}
use Rattle.sonic_text.specs.declared.kind.Kind.TheVariants.{Array, Object}
use Rattle.sonic_text.specs.Numbers.{IsWholeText}
use Rattle.sonic_text.specs.Places.{byte}
use Rattle.sonic_text.specs.Trees.{Tree}
use Rattle.sonic_text.specs.Trees.Tree.{null as a_null, truth as a_truth, numeral as a_numeral, text as a_text, container as a_container}

-- a number keeps its text, a string is known as one, and a container by its kind
pub data Scalar : Type 0 where
  null : Scalar
  truth : Bool → Scalar
  numeral : List ℕ → Scalar
  text : Scalar
  container : Kind → Scalar

-- what the value is whose text this is, by its first byte
abbrev pub scalar_of : List ℕ → Scalar
scalar_of t =
    if byte t 0 == 110 then null
    else if byte t 0 == 116 then truth true
    else if byte t 0 == 102 then truth false
    else if byte t 0 == 34 then text
    else if byte t 0 == 91 then container Array
    else if byte t 0 == 123 then container Object
    else numeral t

-- what a value is that means this tree
abbrev pub scalar_of_tree : Tree → Scalar
scalar_of_tree a_null = null
scalar_of_tree (a_truth b) = truth b
scalar_of_tree (a_numeral t) = numeral t
scalar_of_tree (a_text b) = text
scalar_of_tree (a_container kind xs) = container kind

-- the type of a container of this kind
abbrev pub type_of_kind : Kind → JsonType
type_of_kind Array = AnArray
type_of_kind Object = AnObject

-- the type of a value
abbrev pub type_of : Scalar → JsonType
type_of null = Null
type_of (truth b) = Boolean
type_of (numeral t) = Number
type_of text = String
type_of (container kind) = type_of_kind kind

-- which of true and false a value is, if it is one
abbrev pub truth_of : Scalar → Option Bool
truth_of (truth b) = Some b
truth_of other = None

-- it is a number whose text is an integer with no sign that fits in 64 bits
abbrev pub IsU64 : Scalar → Type 0
IsU64 (numeral t) = IsWholeText t × (byte t 0 ≢ 45) × (digits_value 10 t < 2 ^ 64)
IsU64 other = ⊥

-- it is a number whose text is an integer that fits in 64 bits with a sign
abbrev pub IsI64 : Scalar → Type 0
IsI64 (numeral t) = IsWholeText t × FitsSigned w64 (signed_digits_value 10 t)
IsI64 other = ⊥

-- the value of an integer with no sign
abbrev pub natural_of : Scalar → ℕ
natural_of (numeral t) = digits_value 10 t
natural_of other = 0

-- the value of an integer
abbrev pub integer_of : Scalar → ℤ
integer_of (numeral t) = signed_digits_value 10 t
integer_of other = pos 0
