use Rattle.std.proofs.Common.{◌≡◌, None}
use Rattle.std.specs.Process.{exit_status}
use Rattle.sonic_reports.specs.Sessions.{outside_of}
use Rattle.sonic_tool.specs.Endings.{IsProgram}
use Rattle.sonic_tool.proofs.process.Goals as goal

pub returns : goal.returns
returns g c =
    let reads : c.new-source.result.faults ≡ 0 = c.new-source.ensures in
    let writes : c.new-sink.result.faults ≡ 0 = c.new-sink.ensures in
    let did : IsProgram c.args.arguments (outside_of None c.new-source.result.faults None None c.new-sink.result.faults)
    (outside_of None c.program.new.source.faults None None c.program.new.sink.faults) (exit_status c.program.result) = c.program.ensures in
    (_, _, rw (reads, writes) at did)
