-- Documents that are read as plain values, and why a text is none (RFC 8259, section 9: a parser may limit the depth).
use Rattle.std.specs.Prelude.{◌≡◌, ℕ, Bool, List}
use Rattle.std.specs.Str.{IsUtf8}
use Rattle.sonic_error.specs.Errors.{IsErrorAt, IsPlainError}
use Rattle.sonic_error.specs.declared.code.ErrorCode.TheVariants.{NoMemory, RecursionLimitExceeded}
use Rattle.sonic_error.specs.declared.error.Error.{Error}
use Rattle.sonic_find.specs.Documents.{IsAlone, IsInvalid}
use Rattle.sonic_text.specs.Places.{after_space}
use Rattle.sonic_text.specs.Trees.{Tree, Means}
use Rattle.sonic_text.specs.declared.stop.Stop.{Stop}
use Rattle.sonic_value.specs.Depths.{IsTooDeep, IsShallow}

-- the text is a valid document that means this tree, and no container of it lies inside 255 others
pub record IsRead (t : List ℕ) (x : Tree) : Type 0 where
  pub start : ℕ
  pub end : ℕ
  pub alone : IsAlone t start end
  pub means : Means t start end x
  pub utf8 : IsUtf8 t
  pub shallow : IsShallow t 255 start

-- why the text, which came as bytes that may be no UTF-8 or not, isn't read: the first container inside 255 others, or else what makes it no valid document
pub data IsUnread (t : List ℕ) (is_bytes : Bool) (s : Stop) : Type 0 where
  too_deep : {p : ℕ} → IsTooDeep t 255 (after_space t 0) p → s ≡ record { place = p; code = RecursionLimitExceeded } → IsUnread t is_bytes s
  invalid : IsShallow t 255 (after_space t 0) → IsInvalid t is_bytes s → IsUnread t is_bytes s

-- there is no memory, or the error says why the text isn't read
pub data IsUnreadError (t : List ℕ) (is_bytes : Bool) (e : Error) : Type 0 where
  out_of_memory : IsPlainError e NoMemory → IsUnreadError t is_bytes e
  unread : (s : Stop) → IsUnread t is_bytes s → IsErrorAt e s.code t s.place → IsUnreadError t is_bytes e
