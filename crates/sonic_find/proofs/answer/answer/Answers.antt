use Rattle.sonic_find.proofs.answer.answer.Goals as goal
use Rattle.std.proofs.Common.{◌∙◌, sym}
use Rattle.std.proofs.lemmas.Result.{err_from_is_err_and}
use Rattle.sonic_find.proofs.AnswerLemmas.Each.{together_each}
use Rattle.sonic_find.proofs.AnswerLemmas.Walk.{answers_spans, refused_answers, no_paths, no_paths_each, none_told, nothing_told}
use Rattle.sonic_find.proofs.WalkLemmas.Start.{none_counted}
use Rattle.sonic_parser.proofs.FaultLemmas.{stop_weaker}

pub returns-then-size-eq0-clause-ok : goal.returns-then-size-eq0-clause-ok
returns-then-size-eq0-clause-ok g c =
    let none = none_counted c.args.tree.now (sym c.size.ensures ∙ c.if-size-eq0.true) in
    rw c.clear.ensures.items (no_paths c.args.rule _ _ c.args.tree.now none)

pub returns-then-size-eq0-clause-none_fails : goal.returns-then-size-eq0-clause-none_fails
returns-then-size-eq0-clause-none_fails g c = rw c.clear.ensures.items nothing_told

pub returns-then-size-eq0-clause-each : goal.returns-then-size-eq0-clause-each
returns-then-size-eq0-clause-each g c =
    let none = none_counted c.args.tree.now (sym c.size.ensures ∙ c.if-size-eq0.true) in
    rw c.clear.ensures.items (no_paths_each c.args.rule _ _ c.args.tree.now none)

pub returns-in_err-follow_all-clause-err : goal.returns-in_err-follow_all-clause-err
returns-in_err-follow_all-clause-err g c =
    let p = err_from_is_err_and c.from_residual.result c.from_residual.ensures.1 in
    rw (p.1, p.2) (stop_weaker c.in_err-follow_all.field-0.0 (λ s f. refused_answers g.I.JsonInput.is_bytes f) c.in_err-follow_all.ensures.err)

pub returns-clause-ok : goal.returns-clause-ok
returns-clause-ok g c = answers_spans c.follow_all.new.memory.found.items c.in_ok-follow_all.ensures.reached

pub returns-clause-none_fails : goal.returns-clause-none_fails
returns-clause-none_fails g c = none_told c.in_ok-follow_all.ensures.reached

pub returns-clause-each : goal.returns-clause-each
returns-clause-each g c = together_each c.in_ok-follow_all.ensures.reached
