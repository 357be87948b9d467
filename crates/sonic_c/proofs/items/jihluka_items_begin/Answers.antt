use Rattle.std.proofs.Common.{refl, true}
use Rattle.sonic_c.proofs.BegunLemmas.{not_begun_told, whole_utf8, broken_text_at}
use Rattle.sonic_c.proofs.items.jihluka_items_begin.Goals as goal
use Rattle.sonic_c.specs.Containers.{none_passed, has_begun, not_begun, no_text}

pub returns-in-Err : goal.returns-in-Err
returns-in-Err c = not_begun (not_begun_told c.in-Err.refusal c.in-Err.ensures.err c.refuse.ensures) refl

pub returns-in-Err-check : goal.returns-in-Err-check
returns-in-Err-check c =
    let begun = c.in-Ok.ensures.begun in
    let broken = broken_text_at c.in-Err-check.ensures.err.0 c.in-Err-check.ensures.err.1 in
    no_text begun.0 begun.1 begun.2 broken.0 c.tell_stop.ensures.status (rw broken.1 at c.tell_stop.ensures.numbers) refl

pub returns-in-Ok-check : goal.returns-in-Ok-check
returns-in-Ok-check c =
    let passed = none_passed refl refl c.in-Ok.ensures.place c.kind_begun-kind.ensures in
    has_begun c.kind_begun-kind.result (record { is_first = true; state = c.state_of-state.ensures; passed = passed }) (whole_utf8 c.in-Ok-check.ensures.ok) refl refl
