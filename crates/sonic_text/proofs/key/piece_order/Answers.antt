use Rattle.std.proofs.Common.{◌∙◌, sym}
use Rattle.std.proofs.lemmas.List.{take_rest}
use Rattle.sonic_text.proofs.KeyLemmas.{cmp_piece}
use Rattle.sonic_text.proofs.key.piece_order.Goals as goal

pub returns : goal.returns
returns c = λ rest.
    let key = c.args.key.now in
    (rw (take_rest key c.args.done) at c.cmp.ensures) ∙ sym (cmp_piece key c.args.piece.now rest c.args.done c.requires.differs)
