-- Numbers (RFC 8259, section 6).
use Rattle.std.specs.Prelude.{◌≡◌, ◌≢◌, ℕ, ◌+◌, ◌≤◌, ◌==◌, ◌||◌, ◌⊎◌, List, length, if◌then◌else◌}
use Rattle.sonic_error.specs.declared.code.ErrorCode.TheVariants.{InvalidNumber}
use Rattle.sonic_text.specs.declared.stop.Stop.{Stop}
use Rattle.sonic_text.specs.Places.{byte, stop_at, IsDigit, digits_end}

-- after a minus sign, if one is at i
abbrev pub after_minus : List ℕ → ℕ → ℕ
after_minus t i = if byte t i == 45 then i + 1 else i

-- after a sign, if one is at i
abbrev pub after_sign : List ℕ → ℕ → ℕ
after_sign t i = if byte t i == 43 || byte t i == 45 then i + 1 else i

-- from i to j is a 0 alone, or a digit from 1 to 9 and all digits after it
abbrev pub IsInt : List ℕ → ℕ → ℕ → Type 0
IsInt t i j =
    (byte t i ≡ 48) × ¬ (IsDigit (byte t (i + 1))) × (j ≡ i + 1)
    ⊎ (49 ≤ byte t i) × (byte t i ≤ 57) × (j ≡ digits_end t i)

-- from i to j are a dot and all digits after it, at least one; or no dot is at i
abbrev pub IsFraction : List ℕ → ℕ → ℕ → Type 0
IsFraction t i j =
    (byte t i ≡ 46) × IsDigit (byte t (i + 1)) × (j ≡ digits_end t (i + 1))
    ⊎ (byte t i ≢ 46) × (j ≡ i)

-- an e or an E
abbrev pub IsE : ℕ → Type 0
IsE b = (b ≡ 101) ⊎ (b ≡ 69)

-- from i to j are an e, perhaps a sign, and all digits after it, at least one; or no e is at i
abbrev pub IsExponent : List ℕ → ℕ → ℕ → Type 0
IsExponent t i j =
    IsE (byte t i) × IsDigit (byte t (after_sign t (i + 1))) × (j ≡ digits_end t (after_sign t (i + 1)))
    ⊎ ¬ (IsE (byte t i)) × (j ≡ i)

-- from i to j is a number, the longest one: perhaps a minus sign, an integer, perhaps a fraction, perhaps an exponent
pub record IsNumber (t : List ℕ) (i j : ℕ) : Type 0 where
  pub int_end : ℕ
  pub fraction_end : ℕ
  pub int : IsInt t (after_minus t i) int_end
  pub fraction : IsFraction t int_end fraction_end
  pub exponent : IsExponent t fraction_end j

-- no digit is where one is expected, or one follows a first 0
abbrev pub IsIntFault : List ℕ → ℕ → Stop → Type 0
IsIntFault t i s =
    ¬ (IsDigit (byte t i)) × (s ≡ stop_at t i InvalidNumber)
    ⊎ (byte t i ≡ 48) × IsDigit (byte t (i + 1)) × (s ≡ stop_at t (i + 1) InvalidNumber)

-- no digit follows the dot
abbrev pub IsFractionFault : List ℕ → ℕ → Stop → Type 0
IsFractionFault t i s = (byte t i ≡ 46) × ¬ (IsDigit (byte t (i + 1))) × (s ≡ stop_at t (i + 1) InvalidNumber)

-- no digit follows the e and its sign
abbrev pub IsExponentFault : List ℕ → ℕ → Stop → Type 0
IsExponentFault t i s = IsE (byte t i) × ¬ (IsDigit (byte t (after_sign t (i + 1)))) × (s ≡ stop_at t (after_sign t (i + 1)) InvalidNumber)

-- the first part of a number that isn't there, as those before it are
pub data IsNumberFault (t : List ℕ) (i : ℕ) (s : Stop) : Type 0 where
  in_int : IsIntFault t (after_minus t i) s → IsNumberFault t i s
  in_fraction : {w : ℕ} → IsInt t (after_minus t i) w → IsFractionFault t w s → IsNumberFault t i s
  in_exponent : {w f : ℕ} → IsInt t (after_minus t i) w → IsFraction t w f → IsExponentFault t f s → IsNumberFault t i s

-- the text is an integer, with no fraction and no exponent
abbrev pub IsWholeText : List ℕ → Type 0
IsWholeText t = IsInt t (after_minus t 0) (length t)
