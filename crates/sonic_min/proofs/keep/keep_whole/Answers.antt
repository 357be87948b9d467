use Rattle.std.proofs.Common.{◌∙◌, ◌/◌, ◌%◌, ◌^◌, ◌++◌, length, take, arith, sym, ap, append_assoc}
use Rattle.std.proofs.lemmas.List.{append-nil}
use Rattle.std.specs.Prelude.{slice_range}
use Rattle.sonic_blocks.specs.Bits.{is_set}
use Rattle.sonic_min.specs.Internal.Kept.{picked}
use Rattle.sonic_min.proofs.PickedLemmas.{picked_none, block_stored, eight_more}
use Rattle.sonic_min.proofs.keep.keep_whole.Goals as goal

pub loop-k-init : goal.loop-k-init
loop-k-init c = record {
  bytes = sym (ap (λ x. take c.args.at c.args.room.now ++ x) (picked_none (is_set c.args.bits) c.args.bytes.now) ∙ append-nil (take c.args.at c.args.room.now));
  few = omega arith;
  within = omega arith;
  eights = omega arith;
  len = omega arith;
}

pub loop-k-preserved : goal.loop-k-preserved
loop-k-preserved c =
    let v = c.loop-k.invariant in
    let t = c.args.bytes.now in
    let k = c.loop-k.k in
    let row = picked (is_set (c.args.bits / 2 ^ k % 256)) (slice_range t k (length t)) 8 in
    record {
      bytes = c.keep_eight-end.ensures.bytes ∙ ap (λ x. x ++ row) v.bytes ∙ append_assoc (take c.args.at c.args.room.now) (picked (is_set c.args.bits) t k) row
          ∙ ap (λ x. take c.args.at c.args.room.now ++ x) (sym (eight_more c.args.bits t k (omega arith)));
      few = omega (arith, c.keep_eight-end.ensures.few, v.few);
      within = omega (arith, v.eights);
      eights = omega (arith, v.eights);
      len = c.keep_eight-end.ensures.len ∙ v.len;
    }

pub returns-then-bits-eq18446744073709551615-clause-bytes : goal.returns-then-bits-eq18446744073709551615-clause-bytes
returns-then-bits-eq18446744073709551615-clause-bytes c =
    rw c.if-bits-eq18446744073709551615.true (block_stored c.args.bytes.now c.args.room.now c.args.at (omega arith) (omega arith))
