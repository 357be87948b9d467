use Rattle.std.proofs.lemmas.Result.{IfErr-weaker, on_ok_weaker}
use Rattle.sonic_parser.proofs.FaultLemmas.{stop_weaker}
use Rattle.sonic_lines.proofs.TextLemmas.{text_columns, text_stop}
use Rattle.sonic_lines.proofs.row.find_in_line.Goals as goal

pub returns-clause-ok : goal.returns-clause-ok
returns-clause-ok c =
    let text = c.from_utf8_unchecked-text in
    rw (← text.ensures) (on_ok_weaker c.find.result (λ a. text_columns text.utf8 a) c.find.ensures.ok)

pub returns-clause-parts : goal.returns-clause-parts
returns-clause-parts c = rw (← c.from_utf8_unchecked-text.ensures) c.find.ensures.parts

pub returns-clause-err : goal.returns-clause-err
returns-clause-err c =
    let text = c.from_utf8_unchecked-text in
    rw (← text.ensures) (IfErr-weaker c.find.result _ _ (λ fault a. stop_weaker fault (λ s x. text_stop text.utf8 x) a) c.find.ensures.err)
