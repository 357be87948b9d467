-- What the loops know that read a string from left to right: invariants, on which no public clause rests.
use Rattle.std.specs.Prelude.{◌≡◌, ℕ, ◌+◌, ◌<◌, ◌≤◌, Bool, true, not, List, length}
use Rattle.sonic_blocks.specs.Bits.{is_set}
use Rattle.sonic_blocks.specs.Runs.{is_plain}
use Rattle.sonic_text.specs.declared.string.Passed.{Passed}
use Rattle.sonic_text.specs.declared.string.Passed.TheVariants.{Closed, Reached, Left}
use Rattle.sonic_text.specs.Places.{byte}
use Rattle.sonic_text.specs.Strings.{AreChars, IsString}

-- of the 32 bytes at p the word has a bit for each that doesn't denote itself
pub record AreSpecial (t : List ℕ) (p word : ℕ) : Type 0 where
  pub within : p + 32 ≤ length t
  pub bits : (k : ℕ) → k < 32 → is_set word k ≡ not (is_plain (byte t (p + k)))
  pub few : (k : ℕ) → is_set word k ≡ true → k < 32

-- the word `left` has the bits of the other one from n on
pub record IsLeftOf (word n left : ℕ) : Type 0 where
  pub bits : (k : ℕ) → is_set left k ≡ is_set word (n + k)

-- all before p fits inside the string that begins at i
pub record IsInString (m : Bool) (t : List ℕ) (i p : ℕ) : Type 0 where
  pub opens : byte t i ≡ 34
  pub later : i < p
  pub within : p ≤ length t
  pub bytes : List ℕ
  pub chars : AreChars m t (i + 1) p bytes

-- the string that begins at i ends at j
abbrev pub EndsString : Bool → List ℕ → ℕ → ℕ → Type 0
EndsString m t i j = (i < j) × (j ≤ length t) × (b : List ℕ) × IsString m t i j b

-- so far its chars lead
abbrev pub IsReadSoFar : Bool → List ℕ → ℕ → Passed → Type 0
IsReadSoFar m t i (Closed j) = EndsString m t i j
IsReadSoFar m t i (Reached p) = IsInString m t i p
IsReadSoFar m t i (Left p) = IsInString m t i p

-- what was read from p on leads on
abbrev pub CharsLeadOn : List ℕ → ℕ → Passed → Type 0
CharsLeadOn t p (Closed j) = p < j
CharsLeadOn t p (Reached q) = (p < q) × (q ≤ length t)
CharsLeadOn t p (Left q) = (p ≤ q) × (q ≤ length t)
