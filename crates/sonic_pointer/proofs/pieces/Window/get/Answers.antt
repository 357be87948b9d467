use Rattle.sonic_pointer.proofs.PiecesLemmas.{window_get}
use Rattle.sonic_pointer.proofs.pieces.Window.get.Goals as goal

pub returns : goal.returns
returns c = λ list w. window_get list c.args.self.now c.args.i 0 w c.requires
