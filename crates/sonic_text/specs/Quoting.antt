-- Strings as they are written (RFC 8259, section 7).
use Rattle.std.specs.Prelude.{ℕ, ◌+◌, ◌-◌, ◌/◌, ◌%◌, ◌==◌, ◌||◌, nat_lt, if◌then◌else◌, List, [], ◌∷◌, ◌++◌, length, replicate}
use Rattle.std.specs.List.{flat_map}
use Rattle.sonic_blocks.specs.Runs.{is_plain}

-- a hexadecimal digit, in lower case
unfoldable pub digit : ℕ → ℕ
digit n = if nat_lt n 10 then 48 + n else 87 + n

-- how a byte stands between quotes: with a backslash, as a letter or by its number, or as itself
unfoldable pub quoted_byte : ℕ → List ℕ
quoted_byte b =
    if b == 34 || b == 92 then 92 ∷ b ∷ []
    else if b == 8 then 92 ∷ 98 ∷ []
    else if b == 9 then 92 ∷ 116 ∷ []
    else if b == 10 then 92 ∷ 110 ∷ []
    else if b == 12 then 92 ∷ 102 ∷ []
    else if b == 13 then 92 ∷ 114 ∷ []
    else if nat_lt b 32 then 92 ∷ 117 ∷ 48 ∷ 48 ∷ digit (b / 16) ∷ digit (b % 16) ∷ []
    else b ∷ []

-- bytes as they stand between quotes, one after the other
abbrev pub quoted_bytes : List ℕ → List ℕ
quoted_bytes b = flat_map quoted_byte b

-- a quote, these, and a quote
abbrev pub quoted : List ℕ → List ℕ
quoted b = 34 ∷ quoted_bytes b ++ 34 ∷ []

-- the entry of a byte in a table of escapes: of how many bytes its escape is and which, with zeros up to eight, and no bytes where it stands as itself
unfoldable pub quote_entry : ℕ → ℕ × List ℕ
quote_entry b =
    if is_plain b then (0, replicate 8 0)
    else (length (quoted_byte b), quoted_byte b ++ replicate (8 - length (quoted_byte b)) 0)
