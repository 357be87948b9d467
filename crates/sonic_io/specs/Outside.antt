-- What a source gives and a sink takes, and how they count their faults.
use Rattle.std.specs.Prelude.{◌≡◌, ℕ, ◌+◌, ◌-◌, ◌<◌, ◌^◌, min, List, ◌++◌}
use Rattle.std.specs.declared.option.Option.{Option}
use Rattle.std.specs.Io.KnownBytes.{prepend_known, append_known}

-- one more than a count of 64 bits, which stays at the greatest number once it is there
abbrev pub raised : ℕ → ℕ
raised count = min (count + 1) (2 ^ 64 - 1)

-- a count of 64 bits rose by one, or stays at the greatest number
abbrev pub Rose : ℕ → ℕ → Type 0
Rose before after = (before < 2 ^ 64) × (after ≡ raised before)

-- these bytes were the next of what was left, and whether that is known stays so
abbrev pub Gave : Option (List ℕ) → Option (List ℕ) → List ℕ → Type 0
Gave before after bytes = before ≡ prepend_known bytes after

-- these bytes were written after the others, and whether what is written is known stays so
abbrev pub Took : Option (List ℕ) → Option (List ℕ) → List ℕ → Type 0
Took before after bytes = after ≡ append_known before bytes

-- a prefix of these bytes was written after the others
abbrev pub TookPrefix : Option (List ℕ) → Option (List ℕ) → List ℕ → Type 0
TookPrefix before after bytes = (prefix rest : List ℕ) × (bytes ≡ prefix ++ rest) × Took before after prefix

-- how many bytes an input may have: 256 MiB
abbrev pub input_limit : ℕ
input_limit = 268435456
