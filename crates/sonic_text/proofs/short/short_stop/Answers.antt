use Rattle.std.proofs.Common.{◌≡◌, ◌+◌, ◌≤◌, ◌∙◌, ℕ, Bool, List, length, sym, ap, arith}
use Rattle.std.specs.Prelude.{drop}
use Rattle.std.specs.List.{prefix_len}
use Rattle.sonic_blocks.specs.Runs.{is_plain}
use Rattle.sonic_blocks.proofs.RunLemmas.{end_of_run, goes_past, run_passes}
use Rattle.sonic_text.specs.Places.{byte}
use Rattle.sonic_text.specs.Strings.{IsString}
use Rattle.sonic_text.proofs.ReadingLemmas.{opened, past_plain, closed, plain_unescaped}
use Rattle.sonic_text.proofs.short.short_stop.Goals as goal

-- a string whose bytes are plain up to a quote
plain_string : {t : List ℕ} {start stop : ℕ} → byte t start ≡ 34 → stop ≡ end_of_run is_plain t (start + 1) → stop + 1 ≤ length t → byte t stop ≡ 34
    → (m : Bool) → (b : List ℕ) × IsString m t start (stop + 1) b
plain_string {t} {start} quote is within closes m =
    let string = closed closes within
    (past_plain (omega (arith, is)) (omega (arith, within)) (λ k from to. plain_unescaped (byte t k) (run_passes is_plain t (start + 1) k from (omega (arith, is, to)))) (opened quote)) in
    (string.2, string.3)

pub returns-in-Some-clause-string : goal.returns-in-Some-clause-string
returns-in-Some-clause-string c = plain_string c.requires.quote c.in-Some.ensures.some (omega (arith, c.in-Some.ensures.near))

-- where none of the first 16 bytes ends the run, it ends where that of the next 16 does
run_on : (t : List ℕ) (start stop : ℕ) → start + 33 ≤ length t → stop ≡ end_of_run is_plain t (start + 17) → 16 ≤ prefix_len is_plain (drop (start + 1) t)
    → stop ≡ end_of_run is_plain t (start + 1)
run_on t start stop near is long =
    let same : start + 17 ≡ start + 1 + 16 = omega arith in
    is ∙ ap (end_of_run is_plain t) same ∙ sym (goes_past is_plain t 16 (start + 1) (omega (arith, near)) long)

pub returns-in_ok-stop-in-None-clause-first : goal.returns-in_ok-stop-in-None-clause-first
returns-in_ok-stop-in-None-clause-first c = run_on c.args.text.now c.args.start _ c.requires.near c.in_ok-stop-in-None.ensures.some c.in-None.ensures.none

pub returns-in_ok-stop-in-None-clause-string : goal.returns-in_ok-stop-in-None-clause-string
returns-in_ok-stop-in-None-clause-string c =
    plain_string c.requires.quote
    (run_on c.args.text.now c.args.start _ c.requires.near c.in_ok-stop-in-None.ensures.some c.in-None.ensures.none)
    (omega (arith, c.in_ok-stop-in-None.ensures.near))
