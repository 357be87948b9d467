-- Which bytes of a text are kept: those that are no white space, and all in strings.
use Rattle.std.specs.Prelude.{ℕ, zero, suc, ◌+◌, ◌||◌, Bool, not, List, [], ◌∷◌, ◌++◌, if◌then◌else◌}
use Rattle.sonic_blocks.specs.Outside.{is_inside_at}
use Rattle.sonic_text.specs.Places.{byte, is_space}

-- of the first n bytes those whose place passes the test
unfoldable pub picked : (ℕ → Bool) → List ℕ → ℕ → List ℕ
picked test t zero = []
picked test t (suc n) = picked test t n ++ (if test n then byte t n ∷ [] else [])

-- the byte at k is no white space, or a string is open after it
abbrev pub is_kept : List ℕ → ℕ → Bool
is_kept t k = not (is_space (byte t k)) || is_inside_at t 0 (k + 1)

-- what is kept of the first n bytes
abbrev pub kept : List ℕ → ℕ → List ℕ
kept t n = picked (is_kept t) t n
