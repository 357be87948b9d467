use Rattle.std.proofs.Common.{◌≡◌, ◌∙◌, ◌+◌, ◌≤◌, ◌++◌, length, arith, sym, ap, subst}
use Rattle.std.specs.Prelude.{slice_range}
use lib.Bits.{bit_or}
use Rattle.sonic_blocks.specs.Bits.{is_set}
use Rattle.sonic_blocks.specs.Views.{AreMasks}
use Rattle.sonic_blocks.proofs.BlockLemmas.{carried_start, carried_on}
use Rattle.sonic_min.specs.Internal.Kept.{picked, is_kept}
use Rattle.sonic_min.proofs.PickedLemmas.{picked_none, block_kept, block_of}
use Rattle.sonic_text.proofs.Parts.{part_length}
use Rattle.sonic_min.proofs.small.kept_over.Goals as goal

pub loop-place-init : goal.loop-place-init
loop-place-init g c = record {
  tape = c.new-tape.ensures;
  carried = λ l. carried_start c.args.text.now 0;
  bytes = sym (picked_none (is_kept c.args.text.now) c.args.text.now);
  few = omega arith;
  within = omega arith;
  len = omega (arith, c.as_mut_slice-room.ensures.len, c.in_ok-bytes.ensures.len);
}

pub loop-place-preserved : goal.loop-place-preserved
loop-place-preserved g c =
    let v = c.loop-place.invariant in
    let t = c.args.text.now in
    let p = c.loop-place.place in
    let n = c.min-count.result in
    let masks = subst (λ t. AreMasks t p c.masks_at-masks.result) v.tape c.masks_at-masks.ensures.masks in
    let block = block_of (v.carried c.loop-place-test.true) masks (omega arith) c.get_string_bits-inside.ensures.bits in
    let long = part_length t p (length t) v.within (omega arith) in
    let near : n ≤ 64 = omega (arith, c.min-count.ensures) in
    let within : p + n ≤ length t = omega (arith, c.min-count.ensures, long) in
    let on = carried_on block c.get_string_bits-inside.ensures.escaped c.get_string_bits-inside.ensures.instring in
    record {
      tape = v.tape;
      carried = λ l. (let whole : n ≡ 64 = omega (arith, c.min-count.ensures, long) in rw whole on);
      bytes = c.keep-at.ensures.bytes ∙ ap (λ x. x ++ picked (is_set (bit_or c.masks_at-masks.result.nonspace c.get_string_bits-inside.result)) (slice_range t p (length t)) n) v.bytes
          ∙ sym (block_kept n block masks near within);
      few = omega (arith, c.keep-at.ensures.few, v.few);
      within = within;
      len = c.keep-at.ensures.len ∙ v.len;
    }
