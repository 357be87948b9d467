use Rattle.sonic_find.proofs.answer.furthest_need.Goals as goal
use Rattle.std.proofs.Common.{◌≡◌, ◌∙◌, ap, get_or, take}
use Rattle.std.proofs.lemmas.List.{take_more}
use Rattle.std.proofs.lemmas.Option.{slice_get-get_or, slice_get-map}
use Rattle.std.specs.Prelude.{Some, slice_get, option_map}
use Rattle.sonic_find.proofs.AnswerLemmas.Walk.{first_value, furthest_value}
use Rattle.sonic_find.specs.Found.{told_at}

pub need-requires : goal.need-requires
need-requires c =
    let slot = get_or c.args.found.now c.loop-slot.slot-index first_value in
    let held : slice_get c.args.found.now c.loop-slot.slot-index ≡ Some slot = slice_get-get_or c.args.found.now c.loop-slot.slot-index first_value c.loop-slot-test.true in
    c.requires c.loop-slot.slot-index (told_at slot) (slice_get-map told_at c.args.found.now c.loop-slot.slot-index ∙ ap (option_map told_at) held)

pub loop-slot-preserved : goal.loop-slot-preserved
loop-slot-preserved c =
    let slot = get_or c.args.found.now c.loop-slot.slot-index first_value in
    let further = rw c.need.ensures at c.further-reach.ensures in
    rw (take_more c.args.found.now c.loop-slot.slot-index first_value c.loop-slot-test.true)
    (furthest_value (take c.loop-slot.slot-index c.args.found.now) slot c.loop-slot.invariant further.after further.need further.one)
