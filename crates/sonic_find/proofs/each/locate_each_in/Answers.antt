use Rattle.sonic_find.proofs.each.locate_each_in.Goals as goal
use Rattle.std.proofs.Common.{◌∙◌, sym}
use Rattle.sonic_find.proofs.AnswerLemmas.Each.{each_answers, tellings_back, telling_escapes, telling_parts}
use Rattle.sonic_find.proofs.AnswerLemmas.Walk.{each_refused_answers, no_paths_each}
use Rattle.sonic_find.proofs.WalkLemmas.Start.{none_counted}
use Rattle.sonic_parser.proofs.FaultLemmas.{stop_weaker}

pub returns-then-size-eq0-clause-ok : goal.returns-then-size-eq0-clause-ok
returns-then-size-eq0-clause-ok g c =
    let none = none_counted c.args.tree.now (sym c.size.ensures ∙ c.if-size-eq0.true) in
    rw c.clear.ensures.items (no_paths_each c.args.rule _ _ c.args.tree.now none)

pub returns-in-Ok-clause-ok : goal.returns-in-Ok-clause-ok
returns-in-Ok-clause-ok g c =
    let tellings = tellings_back _ _ c.deref_mut.ensures.value c.deref_mut.ensures.len c.tell_all.ensures in
    each_answers c.follow_all.new.memory.found.items _ c.in-Ok.ensures.reached tellings

pub returns-in-Ok-clause-escaped : goal.returns-in-Ok-clause-escaped
returns-in-Ok-clause-escaped g c =
    let tellings = tellings_back _ _ c.deref_mut.ensures.value c.deref_mut.ensures.len c.tell_all.ensures in
    telling_escapes _ tellings c.in-Ok.ensures.escaped

pub returns-in-Ok-clause-parts : goal.returns-in-Ok-clause-parts
returns-in-Ok-clause-parts g c =
    let tellings = tellings_back _ _ c.deref_mut.ensures.value c.deref_mut.ensures.len c.tell_all.ensures in
    telling_parts _ tellings c.in-Ok.ensures.parts

pub returns-in-Err-clause-err : goal.returns-in-Err-clause-err
returns-in-Err-clause-err g c = stop_weaker c.in-Err.fault (λ s f. each_refused_answers g.I.JsonInput.is_bytes f) c.in-Err.ensures.err
