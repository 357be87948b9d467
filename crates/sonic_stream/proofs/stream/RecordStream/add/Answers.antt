use Rattle.std.proofs.Common.{◌≡◌, true}
use Rattle.sonic_stream.specs.Streams.IsAdded.{dropped}
use Rattle.sonic_stream.proofs.stream.RecordStream.add.Goals as goal

pub returns-then-self-clause-ok : goal.returns-then-self-clause-ok
returns-then-self-clause-ok c =
    let items = rw c.deref.ensures.value at c.in_ok-held.ensures in
    let skipping : c.args.self.now.is_skipping ≡ true = rw (← c.self.view_is) c.if-self.true in
    dropped skipping (rw (← c.self.view_is) (rw items at c.pass_line.ensures))
