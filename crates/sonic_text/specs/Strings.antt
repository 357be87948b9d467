-- Strings (RFC 8259, section 7), with surrogate escapes in pairs (RFC 7493, section 2.1). A lossy reader takes single ones too.
use Rattle.std.specs.Prelude.{◌≡◌, ◌≢◌, ℕ, ◌+◌, ◌-◌, ◌*◌, ◌<◌, ◌≤◌, ◌==◌, ◌||◌, ◌&&◌, Bool, true, false, not, List, [], ◌∷◌, ◌++◌, nat_le, if◌then◌else◌, is_some, unwrap_or, slice_range, encode_utf8, Some, None}
use Rattle.std.specs.declared.option.Option.{Option}
use Rattle.sonic_error.specs.declared.code.ErrorCode.{ErrorCode}
use Rattle.sonic_error.specs.declared.code.ErrorCode.TheVariants.{ControlCharacterWhileParsingString, InvalidEscape, InvalidUnicodeCodePoint, InvalidSurrogateUnicodeCodePoint}
use Rattle.sonic_text.specs.declared.stop.Stop.{Stop}
use Rattle.sonic_text.specs.Places.{byte, stop_at}

-- a reader is strict, or lossy
abbrev pub strict : Bool
strict = false

abbrev pub lossy : Bool
lossy = true

-- what a hexadecimal digit denotes, in either case
unfoldable pub hex_digit : ℕ → Option ℕ
hex_digit b =
    if nat_le 48 b && nat_le b 57 then Some (b - 48)
    else if nat_le 65 b && nat_le b 70 then Some (b - 55)
    else if nat_le 97 b && nat_le b 102 then Some (b - 87)
    else None

-- at p are four hexadecimal digits, whose number is n
pub record IsHex4 (t : List ℕ) (p n : ℕ) : Type 0 where
  pub a : ℕ
  pub b : ℕ
  pub c : ℕ
  pub d : ℕ
  pub first : hex_digit (byte t p) ≡ Some a
  pub second : hex_digit (byte t (p + 1)) ≡ Some b
  pub third : hex_digit (byte t (p + 2)) ≡ Some c
  pub fourth : hex_digit (byte t (p + 3)) ≡ Some d
  pub number : n ≡ ((a * 16 + b) * 16 + c) * 16 + d

-- at p are a backslash, a u and four hexadecimal digits, whose number is n
abbrev pub IsEscape : List ℕ → ℕ → ℕ → Type 0
IsEscape t p n = (byte t p ≡ 92) × (byte t (p + 1) ≡ 117) × IsHex4 t (p + 2) n

-- the first half of a surrogate pair, and the second
abbrev pub IsHigh : ℕ → Type 0
IsHigh n = (0xD800 ≤ n) × (n ≤ 0xDBFF)

abbrev pub IsLow : ℕ → Type 0
IsLow n = (0xDC00 ≤ n) × (n ≤ 0xDFFF)

-- an escape of a second half is at p
abbrev pub IsLowEscape : List ℕ → ℕ → Type 0
IsLowEscape t p = (l : ℕ) × IsEscape t p l × IsLow l

-- what a letter after a backslash denotes
unfoldable pub escaped : ℕ → Option ℕ
escaped b =
    if b == 34 || b == 92 || b == 47 then Some b
    else if b == 98 then Some 8
    else if b == 102 then Some 12
    else if b == 110 then Some 10
    else if b == 114 then Some 13
    else if b == 116 then Some 9
    else None

-- the UTF-8 of U+FFFD, which a single surrogate denotes
abbrev pub replacement : List ℕ
replacement = 0xef ∷ 0xbf ∷ 0xbd ∷ []

-- a byte that denotes itself: from 0x20 up, and neither a quote nor a backslash
abbrev pub IsUnescaped : ℕ → Type 0
IsUnescaped b = (32 ≤ b) × (b ≢ 34) × (b ≢ 92)

-- the escape at p, whose number is n, begins a char that ends at q and denotes the bytes b
pub data IsUnicodeChar (m : Bool) (t : List ℕ) (p n q : ℕ) (b : List ℕ) : Type 0 where
  scalar : ¬ IsHigh n → ¬ IsLow n → q ≡ p + 6 → b ≡ encode_utf8 n → IsUnicodeChar m t p n q b
  pair : {l : ℕ} → IsHigh n → IsEscape t (p + 6) l → IsLow l → q ≡ p + 12
      → b ≡ encode_utf8 (0x10000 + (n - 0xD800) * 0x400 + (l - 0xDC00)) → IsUnicodeChar m t p n q b
  lone_high : m ≡ lossy → IsHigh n → ¬ IsLowEscape t (p + 6) → q ≡ p + 6 → b ≡ replacement → IsUnicodeChar m t p n q b
  lone_low : m ≡ lossy → IsLow n → q ≡ p + 6 → b ≡ replacement → IsUnicodeChar m t p n q b

-- from p to q is one char of a string, for the bytes b
pub data IsChar (m : Bool) (t : List ℕ) (p q : ℕ) (b : List ℕ) : Type 0 where
  unescaped : IsUnescaped (byte t p) → q ≡ p + 1 → b ≡ byte t p ∷ [] → IsChar m t p q b
  short_escape : {c : ℕ} → byte t p ≡ 92 → escaped (byte t (p + 1)) ≡ Some c → q ≡ p + 2 → b ≡ c ∷ [] → IsChar m t p q b
  unicode_escape : {n : ℕ} → IsEscape t p n → IsUnicodeChar m t p n q b → IsChar m t p q b

-- from i to k are chars, one after the other, for the bytes b
pub data AreChars (m : Bool) (t : List ℕ) (i : ℕ) : ℕ → List ℕ → Type 0 where
  no_char : {k : ℕ} {b : List ℕ} → k ≡ i → b ≡ [] → AreChars m t i k b
  one_more : {p k : ℕ} {b c d : List ℕ} → AreChars m t i p b → IsChar m t p k c → d ≡ b ++ c → AreChars m t i k d

-- from i to j is a string, for the bytes b: chars between two quotes
pub record IsString (m : Bool) (t : List ℕ) (i j : ℕ) (b : List ℕ) : Type 0 where
  pub close : ℕ
  pub opens : byte t i ≡ 34
  pub chars : AreChars m t (i + 1) close b
  pub closes : byte t close ≡ 34
  pub end : j ≡ close + 1

-- what is between the quotes of the string from i to j
abbrev pub contents : List ℕ → ℕ → ℕ → List ℕ
contents t i j = slice_range t (i + 1) (j - 1)

-- what is from i to j is a string with a backslash between its quotes
abbrev pub IsEscapedString : List ℕ → ℕ → ℕ → Type 0
IsEscapedString t i j = (byte t i ≡ 34) × (k : ℕ) × (i < k) × (k + 1 < j) × (byte t k ≡ 92)

-- the byte denotes a hexadecimal digit from low to high
unfoldable pub hex_within : ℕ → ℕ → ℕ → Bool
hex_within low high b = is_some (hex_digit b) && nat_le low (unwrap_or (hex_digit b) 0) && nat_le (unwrap_or (hex_digit b) 0) high

-- the byte may be at this place of an escape of a second half
unfoldable pub is_low_surrogate_byte : ℕ → ℕ → Bool
is_low_surrogate_byte n b =
    if n == 0 then b == 92
    else if n == 1 then b == 117
    else if n == 2 then hex_within 13 13 b
    else if n == 3 then hex_within 12 15 b
    else hex_within 0 15 b

-- why the byte n places after the backslash at k is wrong, where those before it are right
unfoldable pub escape_fault : Bool → List ℕ → ℕ → ℕ → Option ErrorCode
escape_fault m t k n =
    let b = byte t (k + n) in
    if n == 1 then (if is_some (escaped b) || b == 117 then None else Some InvalidEscape)
    else if not (byte t (k + 1) == 117) then None
    else if n == 3 && not m && hex_within 13 13 (byte t (k + 2)) && hex_within 12 15 b then Some InvalidSurrogateUnicodeCodePoint
    else if nat_le n 5 then (if hex_within 0 15 b then None else Some InvalidUnicodeCodePoint)
    else if not m && hex_within 13 13 (byte t (k + 2)) && hex_within 8 11 (byte t (k + 3)) && not (is_low_surrogate_byte (n - 6) b)
    then Some InvalidSurrogateUnicodeCodePoint
    else None

-- the first wrong byte after the backslash at k
pub record IsEscapeFault (m : Bool) (t : List ℕ) (k : ℕ) (s : Stop) : Type 0 where
  pub n : ℕ
  pub code : ErrorCode
  pub after : (0 < n) × (n < 12)
  pub right : (d : ℕ) → 0 < d → d < n → escape_fault m t k d ≡ None
  pub wrong : escape_fault m t k n ≡ Some code
  pub stop : s ≡ stop_at t (k + n) code

-- chars fit up to k, where neither a char nor the closing quote is
pub data IsStringFault (m : Bool) (t : List ℕ) (i : ℕ) (s : Stop) : Type 0 where
  control_char : {k : ℕ} {b : List ℕ} → AreChars m t (i + 1) k b → byte t k < 32 → s ≡ stop_at t k ControlCharacterWhileParsingString → IsStringFault m t i s
  in_escape : {k : ℕ} {b : List ℕ} → AreChars m t (i + 1) k b → byte t k ≡ 92 → IsEscapeFault m t k s → IsStringFault m t i s
