use Rattle.std.proofs.Common.{◌≡◌, refl}
use Rattle.sonic_stream.specs.Streams.IsNextRecord.{wrong}
use Rattle.sonic_stream.proofs.stream.RecordStream.wrong.Goals as goal

pub returns : goal.returns
returns c =
    let before : c.self.inside.before ≡ c.args.self.now.before = rw (← c.self.view_is) refl in
    rw before (wrong c.requires.within c.requires.wrong c.requires.never c.pass_line.ensures)
