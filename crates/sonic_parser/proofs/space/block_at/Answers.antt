use Rattle.std.proofs.Common.{◌-◌, ◌+◌, ◌≤◌, length, not, get_or, ap, ◌∙◌, drop, arith}
use Rattle.std.proofs.lemmas.List.{length-drop, length-take}
use Rattle.sonic_text.specs.Places.{is_space}
use Rattle.sonic_parser.proofs.SpaceLemmas.{chunk_byte}
use Rattle.sonic_parser.proofs.space.block_at.Goals as goal

pub returns-clause-is : goal.returns-clause-is
returns-clause-is c =
    let t = c.args.text.now in
    let p = c.args.start in
    let first = c.in_ok-bytes.ensures.cases in
    let within : p + 64 ≤ length t = omega (arith, first.enough, length-take (length t - p) (drop p t), length-drop p t) in
    record {
      within = within;
      bits = λ k h. c.get_nonspace_bits-words.ensures k h ∙ ap (λ b. not (is_space b)) (ap (λ bytes. get_or bytes k 0) first.same ∙ chunk_byte t 64 p k h within);
    }
