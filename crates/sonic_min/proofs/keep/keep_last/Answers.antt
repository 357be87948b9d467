use Rattle.std.proofs.Common.{◌∙◌, ◌++◌, take, arith, sym, ap}
use Rattle.std.proofs.Math.ListN.{length-set}
use Rattle.std.proofs.lemmas.List.{append-nil}
use Rattle.sonic_blocks.specs.Bits.{is_set}
use Rattle.sonic_min.proofs.PickedLemmas.{picked_none, picked_more, one_more}
use Rattle.sonic_min.proofs.keep.keep_last.Goals as goal

pub loop-k-init : goal.loop-k-init
loop-k-init c = record {
  bytes = sym (ap (λ x. take c.args.at c.args.room.now ++ x) (picked_none (is_set c.args.bits) c.args.bytes.now) ∙ append-nil (take c.args.at c.args.room.now));
  few = omega arith;
  within = omega arith;
  len = omega arith;
}

pub loop-k-preserved : goal.loop-k-preserved
loop-k-preserved c = record {
  bytes = picked_more (take c.args.at c.args.room.now) c.loop-k.room c.args.bytes.now c.loop-k.end c.args.bits c.loop-k.k (omega (arith, c.loop-k.invariant.len)) c.loop-k.invariant.bytes;
  few = omega (arith, one_more c.args.bits c.loop-k.k);
  within = omega arith;
  len = length-set c.loop-k.room c.loop-k.end _ ∙ c.loop-k.invariant.len;
}
