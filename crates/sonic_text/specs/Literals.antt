-- The three literal names (RFC 8259, section 3).
use Rattle.std.specs.Prelude.{◌≡◌, ◌≢◌, ℕ, ◌+◌, ◌<◌, ◌≤◌, List, length}
use Rattle.sonic_error.specs.declared.code.ErrorCode.TheVariants.{InvalidLiteral}
use Rattle.sonic_text.specs.declared.stop.Stop.{Stop}
use Rattle.sonic_text.specs.Places.{byte, stop_at}

-- the first n letters of the word are at i
abbrev pub Letters : List ℕ → List ℕ → ℕ → ℕ → Type 0
Letters word t i n = (i + n ≤ length t) × ((k : ℕ) → k < n → byte t (i + k) ≡ byte word k)

-- from i to j is the word
abbrev pub IsLiteral : List ℕ → List ℕ → ℕ → ℕ → Type 0
IsLiteral word t i j = Letters word t i (length word) × (j ≡ i + length word)

-- some letters of the word are at i, and the next one is missing or differs
pub record IsLiteralFault (word t : List ℕ) (i : ℕ) (s : Stop) : Type 0 where
  pub n : ℕ
  pub shorter : n < length word
  pub letters : Letters word t i n
  pub differs : i + n < length t → byte t (i + n) ≢ byte word n
  pub stop : s ≡ stop_at t (i + n) InvalidLiteral
