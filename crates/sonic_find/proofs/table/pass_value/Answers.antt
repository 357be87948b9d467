use Rattle.sonic_find.proofs.table.pass_value.Goals as goal
use Rattle.std.proofs.Common.{◌∙◌, ap, sym, length, arith}
use Rattle.std.proofs.lemmas.List.{length-map}
use Rattle.std.proofs.lemmas.Bool.{eqb-true, eqb-false}
use Rattle.sonic_find.proofs.AnswerLemmas.Walk.{root_prefix}
use Rattle.sonic_find.proofs.MarkLemmas.Kept.{keeps_later}
use Rattle.sonic_find.proofs.TableLemmas.Rows.{filled_from, none_filled}
use Rattle.sonic_text.proofs.Values.{value-longer}
use Rattle.sonic_find.specs.Found.{told_at}

pub follow-requires-clause-some : goal.follow-requires-clause-some
follow-requires-clause-some c = rw c.requires.root (root_prefix c.args.view.now.paths (λ none.
    let some = eqb-false (length c.slots.result.now) 0 (sym c.is_empty.ensures ∙ c.if-is_empty.false) in
    some (sym (length-map c.slots.result.now told_at) ∙ ap length c.slots.ensures ∙ c.requires.slots ∙ ap length none)))

pub returns-then-is_empty-clause-filled : goal.returns-then-is_empty-clause-filled
returns-then-is_empty-clause-filled c =
    let none = eqb-true (length c.slots.result.now) 0 (sym c.is_empty.ensures ∙ c.if-is_empty.true) in
    let slots = sym (length-map c.slots.result.now told_at) ∙ ap length c.slots.ensures in
    rw c.in_ok-skip.ensures.moved (none_filled c.args.view.now.paths c.args.walk.now.findings.slots c.requires.slots (sym slots ∙ none))

pub returns-then-is_empty-clause-marks : goal.returns-then-is_empty-clause-marks
returns-then-is_empty-clause-marks c =
    let later = value-longer c.in_ok-skip.ensures.value in
    rw c.in_ok-skip.ensures.moved (keeps_later c.requires.marks (omega (arith, later)))

pub returns-clause-filled : goal.returns-clause-filled
returns-clause-filled c =
    let later = c.in_ok-follow.ensures.later in
    let settled = rw c.requires.root at c.in_ok-follow.ensures.settled in
    rw (← c.requires.begins.0) (filled_from later.are.long settled)
