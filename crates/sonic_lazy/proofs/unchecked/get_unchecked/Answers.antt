use Rattle.sonic_lazy.proofs.unchecked.get_unchecked.Goals as goal
use Rattle.std.proofs.Common.{◌≡◌, refl, true, false}
use Rattle.sonic_lazy.proofs.UncheckedLemmas.{sure_error}
use Rattle.sonic_find.proofs.UncheckedLemmas.{found_part, found_answer, sure_within}

pub at-requires : goal.at-requires
at-requires g c κs =
    let leads = rw (c.unchecked-cursor.ensures, c.unscanned.ensures.text, c.unscanned.ensures.place, c.to_json_slice.ensures.bytes) at c.in-Ok.ensures.ok in
    let escaped = rw (c.unchecked-cursor.ensures, c.unscanned.ensures.text, c.to_json_slice.ensures.bytes) at c.in-Ok.ensures.escaped in
    ((refl, tt), (found_part _ c.requires leads, escaped))

pub returns-in-Ok : goal.returns-in-Ok
returns-in-Ok g c =
    let leads = rw (c.unchecked-cursor.ensures, c.unscanned.ensures.text, c.unscanned.ensures.place, c.to_json_slice.ensures.bytes) at c.in-Ok.ensures.ok in
    record { ok = record { start = _; end = _; answer = found_answer _ c.requires leads; shown = c.at.ensures }; err = tt; complete = λ _. refl }

pub error-requires : goal.error-requires
error-requires g c =
    let dead = rw (c.unchecked-cursor.ensures, c.unscanned.ensures.text, c.unscanned.ensures.place, c.to_json_slice.ensures.bytes) at c.in-Err.ensures.err in
    rw c.to_u8_slice-text.ensures.bytes (sure_within _ _ c.in-Err.fault dead)

pub returns : goal.returns
returns g c =
    let dead = rw (c.unchecked-cursor.ensures, c.unscanned.ensures.text, c.unscanned.ensures.place, c.to_json_slice.ensures.bytes) at c.in-Err.ensures.err in
    let error = rw c.to_u8_slice-text.ensures.bytes at c.error.ensures in
    sure_error c.in-Err.fault (λ e. let checks : false ≡ true = rw c.unchecked-cursor.ensures at (c.in-Err.ensures.memory (rw e refl)) in absurd cc) dead error
