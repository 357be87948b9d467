use Rattle.std.proofs.Common.{◌-◌, ◌<◌, ◌∙◌, sym, arith}
use Rattle.std.specs.Prelude.{slice_index}
use Rattle.sonic_blocks.proofs.ElementLemmas.{set_both, byte_is}
use Rattle.sonic_blocks.proofs.elements.whole_elements.Goals as goal

pub returns : goal.returns
returns c =
    let bytes = slice_index c.args.block.now in
    let n = c.bit_length.result in
    let within = c.bit_length.ensures.within in
    let last = λ (some : 0 < n). set_both c.number_masks-masks.result.comma c.lowest_run.result (n - 1) (c.bit_length.ensures.last some) in
    record {
      within = within;
      fit = λ k h. sym (c.fitting.ensures bytes c.number_masks-masks.ensures k (omega arith)) ∙ c.lowest_run.ensures (n - 1) (omega arith) (last (omega arith)).1 k (omega arith);
      comma = λ some. byte_is bytes 44 (n - 1) (sym (c.number_masks-masks.ensures.comma (n - 1) (omega arith)) ∙ (last some).0);
    }
