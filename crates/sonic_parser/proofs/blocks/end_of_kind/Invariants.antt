use Rattle.std.proofs.Common.{◌≡◌, ℕ, ◌+◌, ◌-◌, ◌/◌, ◌%◌, ◌<◌, ◌≤◌}
use Rattle.sonic_blocks.specs.Views.{AreMasks}
use Rattle.sonic_text.specs.Brackets.{Closes}
use Rattle.sonic_parser.specs.Internal.Blocks.{AreKnown}
use Rattle.sonic_parser.proofs.blocks.end_of_kind.Given as goal

abbrev pub invariant-loop-block : goal.invariant-loop-block
invariant-loop-block g l = record {
  masks : AreMasks l.tape l.block.place l.block.masks;
  known : AreKnown l.kind l.tape l.start l.block.place l.known;
  before_end : (j : ℕ) → Closes l.kind l.tape l.start j → l.block.place < j;
  from : l.start ≤ l.block.place;
  whole : (l.block.place - l.start) % 64 ≡ 0;
  cost : l.steps ≡ l.fn.steps + (l.block.place - l.start) / 64;
}

abbrev pub decreases-loop-block : goal.decreases-loop-block
decreases-loop-block g l = l.len - l.block.place
