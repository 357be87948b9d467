use Rattle.std.proofs.Common.{rules}
use Rattle.sonic_tool.specs.Endings.{ran}
use Rattle.sonic_tool.specs.Words.{no_text}
use Rattle.sonic_tool.proofs.program.Goals as goal

pub returns-in-Ok : goal.returns-in-Ok
returns-in-Ok g c = ran (rw c.deref.ensures.value c.in-Ok.ensures.words) c.run.ensures.outcome c.ending.ensures

pub returns-in-Err-NoText : goal.returns-in-Err-NoText
returns-in-Err-NoText g c =
    ran (no_text (c.in-Err-NoText.ensures.no_text.0 (cc c.in-Err-NoText.field-0-is)) (search rules)) c.run-in-Err-NoText.ensures.outcome c.ending-in-Err-NoText.ensures
