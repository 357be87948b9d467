use Rattle.std.proofs.Common.{Err, ap}
use Rattle.sonic_paths.proofs.LineNodes.{node_line_one}
use Rattle.sonic_paths.proofs.lines.PointerTreeLineReader.read_line.Goals as goal

pub returns-in_default-clause-bad : goal.returns-in_default-clause-bad
returns-in_default-clause-bad c = λ _ after x. c.in_ok-path.ensures.none c.in_default.is x.path x.says

pub returns-in-Err-Mixed-clause-bad : goal.returns-in-Err-Mixed-clause-bad
returns-in-Err-Mixed-clause-bad c =
    let p = rw c.in-Some.is at c.in_ok-path.ensures.some in
    let mixed = (c.in-Err-Mixed.ensures.mixed.0 (ap Err c.in-Err-Mixed.field-0-is)).1 in
    λ _ after x. x.unmixed (rw (node_line_one p x.says) at mixed)
