use Rattle.std.proofs.Common.{◌∙◌, ◌++◌, take, ap}
use Rattle.sonic_blocks.specs.Bits.{is_set}
use Rattle.sonic_min.proofs.PickedLemmas.{picked_prefix}
use Rattle.sonic_min.proofs.keep.keep.Goals as goal

pub returns-else-count-eq64-clause-bytes : goal.returns-else-count-eq64-clause-bytes
returns-else-count-eq64-clause-bytes c =
    c.keep_last.ensures.bytes ∙ ap (λ x. take c.args.at c.args.room.now ++ x) (picked_prefix (is_set c.args.bits) c.args.bytes.now c.args.count c.requires.bytes)
