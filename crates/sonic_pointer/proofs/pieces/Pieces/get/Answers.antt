use Rattle.sonic_pointer.proofs.pieces.Pieces.get.Goals as goal

pub returns : goal.returns
returns c = c.get.ensures c.args.self.now c.window_at.ensures.window
