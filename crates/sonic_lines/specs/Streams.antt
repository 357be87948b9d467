-- The lines of a stream.
use Rattle.std.specs.Prelude.{◌≡◌, ℕ, ◌==◌, ◌⊎◌, if◌then◌else◌, List, [], ◌∷◌, ◌++◌}
use Rattle.std.specs.List.{Contains}

-- the byte and then the first line, as one line
abbrev pub on_first : ℕ → List (List ℕ) → List (List ℕ)
on_first b [] = (b ∷ []) ∷ []
on_first b (line ∷ lines) = (b ∷ line) ∷ lines

-- the lines of a stream: the bytes before each line feed, and those after the last one if there are any
abbrev pub lines_of : List ℕ → List (List ℕ)
lines_of [] = []
lines_of (b ∷ t) = if b == 10 then [] ∷ lines_of t else on_first b (lines_of t)

-- no line feed is in the bytes
abbrev pub IsOneLine : List ℕ → Type 0
IsOneLine t = ¬ Contains t 10

-- the bytes end with a line feed, if there are any
abbrev pub EndsLines : List ℕ → Type 0
EndsLines t = (t ≡ []) ⊎ ((u : List ℕ) × (t ≡ u ++ 10 ∷ []))
