use Rattle.std.proofs.Common.{◌∙◌, sym}
use Rattle.sonic_text.proofs.KeyLemmas.{cmp_byte, cmp_longer}
use Rattle.sonic_text.proofs.key.byte_order.Goals as goal

pub returns-then-done-key : goal.returns-then-done-key
returns-then-done-key c = λ rest. c.cmp.ensures ∙ sym (cmp_byte c.args.key.now rest c.args.done c.args.next c.if-done-key.true (c.requires.differs c.if-done-key.true))

pub returns-else-done-key : goal.returns-else-done-key
returns-else-done-key c = λ rest. sym (cmp_longer c.args.key.now rest c.args.done c.args.next c.if-done-key.false)
