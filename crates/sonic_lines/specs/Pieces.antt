-- A stream that comes in pieces, and what a piece adds to it.
use Rattle.std.specs.Prelude.{◌≡◌, ℕ, ◌+◌, ◌==◌, List, [], ◌∷◌, ◌++◌, count_by}
use Rattle.sonic_lines.specs.LineRows.{Columns, AreRows}
use Rattle.sonic_lines.specs.Streams.{IsOneLine, EndsLines}

-- the columns, the number of lines that ended, and the bytes after the last line feed
pub record LineReading : Type 0 where
  pub columns : Columns
  pub lines : ℕ
  pub held : List ℕ

-- a stream of which nothing came yet
abbrev pub begun : Columns → LineReading
begun columns = record { columns = columns; lines = 0; held = [] }

-- a piece came: rows were added for what it ended, and what is after its last line feed is held
pub record IsFed (before : LineReading) (piece : List ℕ) (now : LineReading) (rows : List ℕ) : Type 0 where
  pub ended : List ℕ
  pub all : before.held ++ piece ≡ ended ++ now.held
  pub ends : EndsLines ended
  pub held : IsOneLine now.held
  pub read : AreRows before.columns before.lines ended rows
  pub lines : now.lines ≡ before.lines + count_by (λ b. b == 10) piece
  pub columns : now.columns ≡ before.columns

-- the pieces came one after the other, and then the end
pub data AreFed : LineReading → List (List ℕ) → List ℕ → Type 0 where
  at_the_end : {s : LineReading} {rows : List ℕ} → AreRows s.columns s.lines s.held rows → AreFed s [] rows
  one_more_piece : {s u : LineReading} {piece some more rows : List ℕ} {pieces : List (List ℕ)} → IsFed s piece u some → AreFed u pieces more → rows ≡ some ++ more
      → AreFed s (piece ∷ pieces) rows
