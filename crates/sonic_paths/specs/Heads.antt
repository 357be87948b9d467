-- An input is a head of lines, a line of white space alone, and the document after it. What the lines say is said of any kind of lines.
use Rattle.std.specs.Prelude.{◌≡◌, ℕ, ◌+◌, ◌<◌, ◌≤◌, ◌==◌, Bool, not, List, [], ◌∷◌, ◌++◌, length, drop, slice_range}
use Rattle.std.specs.List.{prefix_len}
use Rattle.sonic_text.specs.Places.{after_space}
use Rattle.sonic_paths.specs.declared.head.HeadEnd.{HeadEnd}
use Rattle.sonic_paths.specs.declared.head.HeadEnd.TheVariants.{Document, Bad}

-- any byte but a line feed
abbrev pub is_inside_line : ℕ → Bool
is_inside_line b = not (b == 0x0A)

-- the end of the line that begins at i: its line feed, or the end of the input
abbrev pub line_end : List ℕ → ℕ → ℕ
line_end t i = i + prefix_len is_inside_line (drop i t)

-- the line that begins at i
abbrev pub line_at : List ℕ → ℕ → List ℕ
line_at t i = slice_range t i (line_end t i)

-- the line that begins at i has nothing but white space in it
abbrev pub IsBlank : List ℕ → ℕ → Type 0
IsBlank t i = line_end t i ≤ after_space t i

-- from i on are these lines before the first blank one, and the document begins at d
pub data IsHead (t : List ℕ) : ℕ → List (List ℕ) → ℕ → Type 0 where
  -- the document begins after the blank line
  blank_line : {i d : ℕ} → IsBlank t i → line_end t i < length t → d ≡ line_end t i + 1 → IsHead t i [] d
  -- no line feed ends the blank line, and the document is empty
  blank_end : {i d : ℕ} → IsBlank t i → line_end t i ≡ length t → d ≡ length t → IsHead t i [] d
  -- no blank line comes, and the document is empty
  last_line : {i d : ℕ} → ¬ IsBlank t i → line_end t i ≡ length t → d ≡ length t → IsHead t i (line_at t i ∷ []) d
  one_more_line : {i d : ℕ} {lines : List (List ℕ)} → ¬ IsBlank t i → line_end t i < length t → IsHead t (line_end t i + 1) lines d
      → IsHead t i (line_at t i ∷ lines) d

-- each line in order says something: it leads from what was said before it to what is said with it
pub data AreSaid {S : Type 0} (Says : S → List ℕ → S → Type 0) : S → List (List ℕ) → S → Type 0 where
  no_more_lines : {before : S} → AreSaid Says before [] before
  next_line : {before between after : S} {line : List ℕ} {lines : List (List ℕ)} → Says before line between → AreSaid Says between lines after
      → AreSaid Says before (line ∷ lines) after

-- after what was said before, the line says nothing
abbrev pub IsBad : {S : Type 0} → (S → List ℕ → S → Type 0) → S → List ℕ → Type 0
IsBad {S} Says before line = (after : S) → ¬ Says before line after

-- line n, counted from 1, is the first that says nothing: the good ones before it say something each
pub record IsFirstBad {S : Type 0} (Says : S → List ℕ → S → Type 0) (before : S) (lines : List (List ℕ)) (n : ℕ) : Type 0 where
  pub good : List (List ℕ)
  pub after : S
  pub line : List ℕ
  pub rest : List (List ℕ)
  pub is : lines ≡ good ++ line ∷ rest
  pub said : AreSaid Says before good after
  pub bad : IsBad Says after line
  pub number : n ≡ length good + 1

-- the head isn't said to its end: the lines before some line of it are said, and no more
pub record StopsInHead {S : Type 0} (Says : S → List ℕ → S → Type 0) (t : List ℕ) (before after : S) : Type 0 where
  pub good : List (List ℕ)
  pub line : List ℕ
  pub rest : List (List ℕ)
  pub document : ℕ
  pub head : IsHead t 0 (good ++ line ∷ rest) document
  pub said : AreSaid Says before good after

-- how the head of an input ends: all its lines are said, and the document begins at d, or those before line n are said, which is the first that says nothing
abbrev pub EndsHead : {S : Type 0} → (S → List ℕ → S → Type 0) → List ℕ → S → S → HeadEnd → Type 0
EndsHead Says t before after (Document d) = (lines : List (List ℕ)) × (d ≤ length t) × IsHead t 0 lines d × AreSaid Says before lines after
EndsHead Says t before after (Bad n) = (lines : List (List ℕ)) × (d : ℕ) × IsHead t 0 lines d × (first : IsFirstBad Says before lines n) × (first.after ≡ after)
