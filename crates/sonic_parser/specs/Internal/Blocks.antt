-- What is known before a block of a container: no public clause rests on it.
use Rattle.std.specs.Prelude.{◌≡◌, ℕ, ◌+◌, ◌<◌, List}
use Rattle.sonic_blocks.specs.Carried.{AreCarried}
use Rattle.sonic_blocks.specs.Views.{AreMasks}
use Rattle.sonic_parser.specs.declared.blocks.Block.{Block}
use Rattle.sonic_parser.specs.declared.blocks.Known.{Known}
use Rattle.sonic_text.specs.declared.kind.Kind.{Kind}
use Rattle.sonic_text.specs.Brackets.{opened, closed, Closes}
use Rattle.sonic_text.specs.Places.{byte}
use Rattle.sonic_text.specs.Values.{opening}

-- before p, counted from s on, so many brackets of the kind are opened and not closed, and a string and an escape are open or not
pub record AreKnown (kind : Kind) (t : List ℕ) (s p : ℕ) (known : Known) : Type 0 where
  pub level : known.depth + closed kind t s p ≡ opened kind t s p
  pub carried : AreCarried t s p known.in_escape known.in_string

-- the block is in the container from s to j, and so much is known before it
pub record IsInContainer (kind : Kind) (t : List ℕ) (s j : ℕ) (block : Block) (before : Known) : Type 0 where
  pub begins : byte t s ≡ opening kind
  pub closes : Closes kind t s j
  pub later : block.place < j
  pub masks : AreMasks t block.place block.masks
  pub known : AreKnown kind t s block.place before
