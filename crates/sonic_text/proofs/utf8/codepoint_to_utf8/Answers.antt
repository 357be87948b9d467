use Rattle.std.proofs.Common.{arith, ◌∙◌, sym}
use Rattle.sonic_text.proofs.CodepointLemmas.{one_byte, two_bytes, three_bytes, four_bytes, put_one, put_two, put_three, put_four}
use Rattle.sonic_text.proofs.utf8.codepoint_to_utf8.Goals as goal

pub returns-then-cp-lt128-clause-written : goal.returns-then-cp-lt128-clause-written
returns-then-cp-lt128-clause-written c = λ h. put_one c.args.out.now _ (omega arith) ∙ sym (one_byte c.args.cp (omega arith))

pub returns-then-cp-lt2048-clause-written : goal.returns-then-cp-lt2048-clause-written
returns-then-cp-lt2048-clause-written c = λ h. put_two c.args.out.now _ _ (omega arith) ∙ sym (two_bytes c.args.cp (omega arith) (omega arith))

pub returns-then-cp-lt65536-clause-written : goal.returns-then-cp-lt65536-clause-written
returns-then-cp-lt65536-clause-written c = λ h. put_three c.args.out.now _ _ _ (omega arith) ∙ sym (three_bytes c.args.cp (omega arith) (omega arith))

pub returns-clause-written : goal.returns-clause-written
returns-clause-written c = λ h. put_four c.args.out.now _ _ _ _ (omega arith) ∙ sym (four_bytes c.args.cp (omega arith))
