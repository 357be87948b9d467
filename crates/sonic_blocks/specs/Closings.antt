-- Brackets of a block as bits: those that open and those that close.
use Rattle.std.specs.Prelude.{◌≡◌, ◌≢◌, ℕ, suc, ◌<◌, true}
use Rattle.sonic_blocks.specs.Bits.{is_set, count_below}

-- if the bit k closes, then not as many are closed up to it as are opened, and `depth` before them
abbrev pub StaysOpen : ℕ → ℕ → ℕ → ℕ → Type 0
StaysOpen opens closes depth k = is_set closes k ≡ true → count_below (is_set closes) 0 (suc k) ≢ count_below (is_set opens) depth (suc k)

-- the bit z closes, and it is the first that does with as many closed up to it as are opened
pub record IsClosingBit (opens closes depth z : ℕ) : Type 0 where
  pub within : z < 64
  pub is_closing : is_set closes z ≡ true
  pub level : count_below (is_set closes) 0 (suc z) ≡ count_below (is_set opens) depth (suc z)
  pub before : (k : ℕ) → k < z → StaysOpen opens closes depth k
