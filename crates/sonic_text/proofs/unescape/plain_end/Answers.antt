use Rattle.std.proofs.Common.{◌≡◌, ◌≢◌, ℕ, ◌-◌, ◌<◌, true, false, take, sym, ap, ◌∙◌, arith}
use Rattle.std.proofs.lemmas.Bool.Decides.{nat_tests}
use Rattle.std.proofs.lemmas.List.{get_or-take, length-take-le}
use Rattle.sonic_blocks.specs.Runs.{is_no_backslash}
use Rattle.sonic_blocks.proofs.RunLemmas.{run_passes, run_fails}
use Rattle.sonic_text.proofs.unescape.plain_end.Goals as goal

other : (b : ℕ) → is_no_backslash b ≡ true → b ≢ 92
other b h = grind (arith, nat_tests)

backslash : (b : ℕ) → is_no_backslash b ≡ false → b ≡ 92
backslash b h = grind (arith, nat_tests)

pub returns-clause-plain : goal.returns-clause-plain
returns-clause-plain c k from to =
    let t = c.args.text.now in
    let inside = take (c.args.end - 1) t in
    let within : k < c.args.end - 1 = omega (arith, to, c.first_backslash.ensures.within, length-take-le (c.args.end - 1) t) in
    other _ (ap is_no_backslash (sym (get_or-take (c.args.end - 1) t k 0 within)) ∙ run_passes is_no_backslash inside c.args.place k from (omega (arith, to, c.first_backslash.ensures.run)))

pub returns-clause-stop : goal.returns-clause-stop
returns-clause-stop c more =
    let t = c.args.text.now in
    let inside = take (c.args.end - 1) t in
    let long = length-take-le (c.args.end - 1) t (omega arith) in
    let within : c.first_backslash.result < c.args.end - 1 = omega (arith, more, c.first_backslash.ensures.within, long) in
    backslash _ (ap is_no_backslash (sym (get_or-take (c.args.end - 1) t c.first_backslash.result 0 within))
    ∙ run_fails is_no_backslash inside c.args.place c.first_backslash.result (omega (arith, long)) c.first_backslash.ensures.run (omega (arith, within, long)))
