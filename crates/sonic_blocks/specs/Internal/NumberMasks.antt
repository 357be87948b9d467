-- The bytes of a block that elements with numbers are made of: serves private clauses alone.
use Rattle.std.specs.Prelude.{◌≡◌, ℕ, ◌<◌}
use Rattle.sonic_blocks.specs.Bits.{is_set}
use Rattle.sonic_blocks.specs.Elements.{is_at, is_digit_at}
use Rattle.sonic_blocks.specs.declared.elements.NumberMasks.{NumberMasks}

-- each word has the bits of its bytes
pub record AreNumberMasks (bytes : ℕ → ℕ) (masks : NumberMasks) : Type 0 where
  pub digit : (k : ℕ) → k < 64 → is_set masks.digit k ≡ is_digit_at bytes k
  pub zero : (k : ℕ) → k < 64 → is_set masks.zero k ≡ is_at bytes 48 k
  pub comma : (k : ℕ) → k < 64 → is_set masks.comma k ≡ is_at bytes 44 k
  pub blank : (k : ℕ) → k < 64 → is_set masks.blank k ≡ is_at bytes 32 k
  pub dot : (k : ℕ) → k < 64 → is_set masks.dot k ≡ is_at bytes 46 k
  pub minus : (k : ℕ) → k < 64 → is_set masks.minus k ≡ is_at bytes 45 k
