use Rattle.std.proofs.lemmas.Result.{IfOk-weaker, IfErr-weaker}
use Rattle.sonic_parser.proofs.FaultLemmas.{stop_weaker}
use Rattle.sonic_value.proofs.UnfilledLemmas.{filled_at, stopped_at, stopped_within}
use Rattle.sonic_value.proofs.schema.fill_text.Goals as goal

pub returns-clause-ok : goal.returns-clause-ok
returns-clause-ok c =
    let start = rw c.at-reader.ensures at c.skip_space.ensures in
    IfOk-weaker c.fill_value.result _ _ (λ made read. filled_at c.requires.object c.requires.utf8 read) (rw start at c.fill_value.ensures.ok)

pub returns-clause-err : goal.returns-clause-err
returns-clause-err c =
    let start = rw c.at-reader.ensures at c.skip_space.ensures in
    IfErr-weaker c.fill_value.result _ _ (λ fault h. stop_weaker fault (λ s f. stopped_at s c.requires.object f) h) (rw start at c.fill_value.ensures.err)

pub returns-clause-within : goal.returns-clause-within
returns-clause-within c =
    let start = rw c.at-reader.ensures at c.skip_space.ensures in
    IfErr-weaker c.fill_value.result _ _ (λ fault h. stop_weaker fault (λ s f. stopped_within s f) h) (rw start at c.fill_value.ensures.err)
