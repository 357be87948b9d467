-- Whole documents (RFC 8259, sections 2 and 8.1), and why a text is none.
use Rattle.std.specs.Prelude.{◌≡◌, ℕ, ◌<◌, Bool, List, length, slice_range, IsTrue}
use Rattle.std.specs.Str.{IsUtf8}
use Rattle.sonic_error.specs.declared.code.ErrorCode.TheVariants.{InvalidUTF8, TrailingCharacters, NoMemory}
use Rattle.sonic_error.specs.declared.error.Error.{Error}
use Rattle.sonic_error.specs.Errors.{IsErrorAt, IsPlainError}
use Rattle.sonic_error.specs.Texts.{valid_up_to}
use Rattle.sonic_text.specs.declared.stop.Stop.{Stop}
use Rattle.sonic_text.specs.Documents.{IsWhole, IsRootFault}
use Rattle.sonic_text.specs.Places.{after_space}

-- the root is whole, and p is the first place after it that holds no white space, or the end
pub record IsAfterRoot (t : List ℕ) (p : ℕ) : Type 0 where
  pub end : ℕ
  pub root : IsWhole t end
  pub place : after_space t end ≡ p

-- the text is the value from i to j with nothing but white space round it
pub record IsAlone (t : List ℕ) (i j : ℕ) : Type 0 where
  pub start : after_space t 0 ≡ i
  pub root : IsWhole t j
  pub end : after_space t j ≡ length t

-- the text is the value with these bytes, with nothing but white space round it
pub record IsDocumentValue (t bytes : List ℕ) : Type 0 where
  pub start : ℕ
  pub end : ℕ
  pub alone : IsAlone t start end
  pub is : bytes ≡ slice_range t start end

-- the text is one value with nothing but white space round it, in UTF-8
pub record IsValidDocument (t : List ℕ) : Type 0 where
  pub alone : IsAfterRoot t (length t)
  pub utf8 : IsUtf8 t

-- why the text, which came as bytes that may be no UTF-8 or not, is no valid document
pub data IsInvalid (t : List ℕ) (is_bytes : Bool) (s : Stop) : Type 0 where
  -- the fault of the root
  no_root : IsRootFault t s → IsInvalid t is_bytes s
  -- the first byte after the root that is no white space
  text_after : {p : ℕ} → IsAfterRoot t p → p < length t → s ≡ record { place = p; code = TrailingCharacters } → IsInvalid t is_bytes s
  -- the first broken place of bytes that are one value else
  broken_text : IsAfterRoot t (length t) → IsTrue is_bytes → ¬ IsUtf8 t → s ≡ record { place = valid_up_to t; code = InvalidUTF8 } → IsInvalid t is_bytes s

-- there is no memory, or the error says why the text is no valid document
pub data IsInvalidError (t : List ℕ) (is_bytes : Bool) (e : Error) : Type 0 where
  out_of_memory : IsPlainError e NoMemory → IsInvalidError t is_bytes e
  invalid : (s : Stop) → IsInvalid t is_bytes s → IsErrorAt e s.code t s.place → IsInvalidError t is_bytes e
