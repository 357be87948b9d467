-- The white space that a parser keeps: serves its invariant alone.
use Rattle.std.specs.Prelude.{◌≡◌, ℕ, ◌+◌, ◌<◌, ◌≤◌, not, List, length, Option, IfSome, slice_index}
use Rattle.sonic_blocks.specs.Bits.{is_set, is_space}
use Rattle.sonic_parser.specs.declared.space.SpaceBlock.{SpaceBlock}

-- 64 bytes are at the block's start, and its bits are those of them that are no white space
pub record AreWords (t : List ℕ) (block : SpaceBlock) : Type 0 where
  pub within : block.start + 64 ≤ length t
  pub bits : (k : ℕ) → k < 64 → is_set block.words k ≡ not (is_space (slice_index t (block.start + k)))

-- so it is of the block that is kept, if one is
abbrev pub IsKeptBlock : List ℕ → Option SpaceBlock → Type 0
IsKeptBlock t kept = IfSome kept (AreWords t)
