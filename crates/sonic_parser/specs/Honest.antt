-- What an error says of other texts that begin with the same bytes.
use Rattle.std.specs.Prelude.{◌≡◌, ◌≢◌, ℕ, ◌+◌, Bool, List, [], ◌++◌, length, take}
use Rattle.sonic_error.specs.declared.code.Category.TheVariants.{Syntax}
use Rattle.sonic_error.specs.declared.code.ErrorCode.{ErrorCode}
use Rattle.sonic_error.specs.declared.code.ErrorCode.TheVariants.{EofWhileParsing, InvalidUTF8, TrailingCharacters, DuplicateKey}
use Rattle.sonic_error.specs.declared.error.Error.{Error}
use Rattle.sonic_error.specs.Codes.{category_of}
use Rattle.sonic_error.specs.Errors.{error_code, error_offset}
use Rattle.sonic_text.specs.declared.stop.Stop.{Stop}
use Rattle.sonic_text.specs.Places.{after_space}
use Rattle.sonic_text.specs.Values.{IsValue}
use Rattle.sonic_text.specs.Faults.{IsFault}

-- some longer text that begins with this one has a value after white space from p on, up to its end
abbrev pub MayGoOnFrom : Bool → List ℕ → ℕ → Type 0
MayGoOnFrom m t p = (w : List ℕ) × (w ≢ []) × IsValue m (t ++ w) (after_space (t ++ w) p) (length (t ++ w))

-- every text with the same bytes up to the stop, and with its byte, has that fault after white space from p on
abbrev pub IsFinalFrom : Bool → List ℕ → ℕ → Stop → Type 0
IsFinalFrom m t p s = (u : List ℕ) → take (s.place + 1) u ≡ take (s.place + 1) t → IsFault m u (after_space u p) s

-- a syntax error of the value itself: neither of what follows it nor of bytes that aren't UTF-8, nor of a key that the value has twice
abbrev pub IsOfValue : ErrorCode → Type 0
IsOfValue code = (category_of code ≡ Syntax) × (code ≢ TrailingCharacters) × (code ≢ InvalidUTF8) × (code ≢ DuplicateKey)

-- the place and the code that an error shows
abbrev pub stop_of : Error → Stop
stop_of e = record { place = error_offset e; code = error_code e }

-- of a value that is expected after white space from p on the error says the end of the input only where more bytes complete it, and a syntax error of
-- the value only where none do
pub record IsHonest (m : Bool) (t : List ℕ) (p : ℕ) (e : Error) : Type 0 where
  pub goes_on : error_code e ≡ EofWhileParsing → MayGoOnFrom m t p
  pub is_final : IsOfValue (error_code e) → IsFinalFrom m t p (stop_of e)
