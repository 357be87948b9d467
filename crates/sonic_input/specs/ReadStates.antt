-- A cursor over a text, and the first place where its UTF-8 is broken.
use Rattle.std.specs.Prelude.{◌≡◌, ℕ, ◌+◌, ◌-◌, ◌^◌, ◌⊎◌, Bool, true, false, List, drop}
use Rattle.std.specs.Str.{IsUtf8}
use Rattle.sonic_error.specs.Texts.{valid_up_to}

-- a text, the place in it that is read next, the first invalid byte, whether that was looked for, whether the text came as bytes that may be no UTF-8,
-- and whether its bytes are shared
pub record ReadState : Type 0 where
  pub text : List ℕ
  pub place : ℕ
  pub next_invalid : ℕ
  pub is_scanned : Bool
  pub is_bytes : Bool
  pub is_shared : Bool

-- the number that says that no byte is invalid: the greatest `usize`
abbrev pub no_invalid : ℕ
no_invalid = 2 ^ 64 - 1

-- the text is UTF-8 from the place on, and no byte is invalid
abbrev pub IsUnbroken : List ℕ → ℕ → ℕ → Type 0
IsUnbroken text place next_invalid = IsUtf8 (drop place text) × (next_invalid ≡ no_invalid)

-- the text isn't UTF-8 from the place on, and this is where the first character breaks
abbrev pub IsBroken : List ℕ → ℕ → ℕ → Type 0
IsBroken text place next_invalid = ¬ (IsUtf8 (drop place text)) × (next_invalid ≡ place + valid_up_to (drop place text))

-- the first invalid byte from the place on: of bytes the first place where they break, of a text none
abbrev pub IsNextInvalid : Bool → List ℕ → ℕ → ℕ → Type 0
IsNextInvalid true text place next_invalid = IsUnbroken text place next_invalid ⊎ IsBroken text place next_invalid
IsNextInvalid false text place next_invalid = next_invalid ≡ no_invalid
