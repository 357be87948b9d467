-- Whole texts (RFC 8259, section 2).
use Rattle.std.specs.Prelude.{ℕ, List, take}
use Rattle.std.specs.Str.{IsUtf8}
use Rattle.sonic_text.specs.declared.stop.Stop.{Stop}
use Rattle.sonic_text.specs.Places.{after_space}
use Rattle.sonic_text.specs.Strings.{strict}
use Rattle.sonic_text.specs.Values.{IsValue}
use Rattle.sonic_text.specs.Faults.{IsFault}

-- a value begins the text after white space, and ends at j
abbrev pub IsWhole : List ℕ → ℕ → Type 0
IsWhole t j = IsValue strict t (after_space t 0) j

-- no value begins the text, for this reason
abbrev pub IsRootFault : List ℕ → Stop → Type 0
IsRootFault t s = IsFault strict t (after_space t 0) s

-- a value begins the text after white space, and the text is UTF-8 up to the value's end
pub record StartsWithUtf8Value (t : List ℕ) : Type 0 where
  pub end : ℕ
  pub root : IsWhole t end
  pub utf8 : IsUtf8 (take end t)
