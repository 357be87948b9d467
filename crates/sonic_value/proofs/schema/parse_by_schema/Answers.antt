use Rattle.sonic_text.proofs.TreeLemmas.{value_of}
use Rattle.sonic_value.proofs.AnyModeLemmas.{value_any, end_any}
use Rattle.sonic_value.proofs.UnfilledLemmas.{fill_error}
use Rattle.sonic_value.proofs.schema.parse_by_schema.Goals as goal

-- what was filled is a value for the parser too
pub skip_one_unchecked-requires : goal.skip_one_unchecked-requires
skip_one_unchecked-requires c =
    let filled = rw (c.text-text.ensures, c.offset.ensures.place) at c.in-Ok.ensures.ok in
    (filled.end, value_any c.args.parser.now.lossy (value_of filled.from.by.means))

pub returns-in-Ok-clause-ok : goal.returns-in-Ok-clause-ok
returns-in-Ok-clause-ok c =
    let filled = rw (c.text-text.ensures, c.offset.ensures.place) at c.in-Ok.ensures.ok in
    let end = end_any c.args.parser.now.lossy (value_of filled.from.by.means) c.skip_one_unchecked.ensures.value in
    rw end at filled.from

pub returns-in-Err-clause-err : goal.returns-in-Err-clause-err
returns-in-Err-clause-err c =
    let stop = rw (c.text-text.ensures, c.offset.ensures.place) at c.in-Err.ensures.err in
    let error = rw c.text-text.ensures at c.error.ensures in
    fill_error c.in-Err.fault stop error
