use Rattle.std.proofs.Common.{◌≡◌, refl, true, false}
use Rattle.sonic_find.proofs.UncheckedLemmas.{found_answer, sure_error, sure_within}
use Rattle.sonic_find.proofs.finding.find_unchecked.Goals as goal

pub returns-in-Ok : goal.returns-in-Ok
returns-in-Ok g c =
    let leads = rw (c.unchecked-cursor.ensures, c.unscanned.ensures.text, c.unscanned.ensures.place, c.to_json_slice.ensures.bytes) at c.in-Ok.ensures.ok in
    record { ok = found_answer _ c.requires leads; err = tt; complete = λ _. refl }

pub error-requires : goal.error-requires
error-requires g c =
    let dead = rw (c.unchecked-cursor.ensures, c.unscanned.ensures.text, c.unscanned.ensures.place, c.to_json_slice.ensures.bytes) at c.in-Err.ensures.err in
    rw c.to_u8_slice-text.ensures.bytes (sure_within _ _ c.in-Err.fault dead)

pub returns : goal.returns
returns g c =
    let dead = rw (c.unchecked-cursor.ensures, c.unscanned.ensures.text, c.unscanned.ensures.place, c.to_json_slice.ensures.bytes) at c.in-Err.ensures.err in
    let error = rw c.to_u8_slice-text.ensures.bytes at c.error.ensures in
    sure_error c.in-Err.fault (λ e. let checks : false ≡ true = rw c.unchecked-cursor.ensures at (c.in-Err.ensures.memory (rw e refl)) in absurd cc) dead error
