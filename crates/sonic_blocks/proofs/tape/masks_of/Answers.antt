use Rattle.std.proofs.Common.{◌==◌, ◌&&◌, ◌+◌, not, ap, ap₂, ◌∙◌, length, arith, nat_lt}
use Rattle.std.specs.Prelude.{slice_index}
use Rattle.sonic_blocks.proofs.BitLemmas.{flip, set_and, set_flip}
use Rattle.sonic_blocks.proofs.ViewLemmas.{left_in, either_order}
use Rattle.sonic_blocks.proofs.tape.masks_of.Goals as goal
use Rattle.sonic_blocks.specs.Bits.{is_space}

pub returns : goal.returns
returns c = record {
  backslash = λ k h. c.equal_to.ensures k h ∙ ap (λ b. b == 92) (c.lanes_at-lanes.ensures k h);
  quote = λ k h. c.equal_to-2.ensures k h ∙ ap (λ b. b == 34) (c.lanes_at-lanes.ensures k h);
  open_brace = λ k h. c.equal_to-3.ensures k h ∙ ap (λ b. b == 123) (c.lanes_at-lanes.ensures k h);
  close_brace = λ k h. c.equal_to-4.ensures k h ∙ ap (λ b. b == 125) (c.lanes_at-lanes.ensures k h);
  open_bracket = λ k h. c.equal_to-5.ensures k h ∙ ap (λ b. b == 91) (c.lanes_at-lanes.ensures k h);
  close_bracket = λ k h. c.equal_to-6.ensures k h ∙ ap (λ b. b == 93) (c.lanes_at-lanes.ensures k h);
  comma = λ k h. c.equal_to-7.ensures k h ∙ ap (λ b. b == 44) (c.lanes_at-lanes.ensures k h);
  nonspace = λ k h.
      let here = slice_index c.args.text.now (c.args.place + k) in
      let space = set_flip c.spaces.result k (omega arith) h ∙ ap not (c.spaces.ensures k h ∙ ap is_space (c.lanes_at-lanes.ensures k h)) in
      let left = c.lowest.ensures k h ∙ left_in c.args.place k (length c.args.text.now) c.requires in
      set_and (flip c.spaces.result) c.lowest.result k ∙ ap₂ (λ a b. a && b) space left
      ∙ either_order (not (is_space here)) (nat_lt (c.args.place + k) (length c.args.text.now));
}
