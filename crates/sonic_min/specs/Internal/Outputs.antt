-- A text that is made piece by piece, in room that is there for it.
use Rattle.std.specs.Prelude.{◌≡◌, ◌+◌, ℕ, List, ◌++◌, length, take}
use Rattle.sonic_min.specs.declared.output.Output.{Output}

-- this piece was stored at the place, and what is before it stays
pub record Stores (before : List ℕ) (at : ℕ) (piece now : List ℕ) : Type 0 where
  pub len : length now ≡ length before
  pub bytes : take (at + length piece) now ≡ take at before ++ piece

-- this piece was added
pub record Adds (before : Output) (piece : List ℕ) (now : Output) : Type 0 where
  pub count : now.count ≡ before.count + length piece
  pub bytes : take now.count now.bytes.items ≡ take before.count before.bytes.items ++ piece

-- this is what was made so far
pub record IsMade (out : Output) (text : List ℕ) : Type 0 where
  pub count : out.count ≡ length text
  pub bytes : take out.count out.bytes.items ≡ text

-- what was made and what is left together are the whole text
pub record IsSplit (out : Output) (left all : List ℕ) : Type 0 where
  pub written : List ℕ
  pub made : IsMade out written
  pub whole : written ++ left ≡ all
