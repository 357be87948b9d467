use Rattle.std.proofs.lemmas.Result.{err_from_is_err_and}
use Rattle.sonic_io.proofs.OutsideLemmas.{prefix_of_first}
use Rattle.sonic_io.proofs.BufferLemmas.{written_over}
use Rattle.sonic_io.proofs.buffer.Buffer.write_over.Goals as goal

pub returns-in_err-flush : goal.returns-in_err-flush
returns-in_err-flush g c =
    let e = err_from_is_err_and c.from_residual.result c.from_residual.ensures.1 in
    rw e.1 (record { prefix = prefix_of_first _ _ _ _ c.in_err-flush.ensures.prefix; cause = c.in_err-flush.ensures.cause })

pub returns : goal.returns
returns g c =
    written_over g.K.Sink (c.args.sink.now, c.args.self.now) (c.flush.new.sink, c.flush.new.self) (c.write_all.new.sink, c.flush.new.self) c.args.piece.now c.write_all.result
    c.in_ok-flush.ensures.all c.in_ok-flush.ensures.calm c.in_ok-flush.ensures.empty c.write_all.ensures.all c.write_all.ensures.prefix c.write_all.ensures.calm c.write_all.ensures.cause
