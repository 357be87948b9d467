use Rattle.sonic_find.proofs.path.locate.Goals as goal
use Rattle.std.proofs.Common.{◌≡◌, ℕ, List, [], refl}
use Rattle.std.specs.Prelude.{Result, Ok, Err, IfOk, OnOk}
use Rattle.std.proofs.lemmas.Result.{IfErr-weaker}
use Rattle.sonic_find.proofs.GetLemmas.{rest_found, rest_cut}
use Rattle.sonic_find.specs.Internal.Follow.{IsRest}
use Rattle.sonic_find.specs.DeadEnds.{lacks_so}
use Rattle.sonic_find.specs.Paths.{found, Evaluates}
use Rattle.sonic_parser.specs.declared.fault.Fault.{Fault}
use Rattle.sonic_parser.specs.declared.value_span.ValueSpan.{ValueSpan}
use Rattle.sonic_pointer.specs.declared.rule.KeyRule.TheVariants.{First}
use Rattle.sonic_text.specs.Paths.{Path}
use Rattle.sonic_text.specs.Strings.{strict}
use Rattle.sonic_text.specs.Values.{IsValue}
use Rattle.sonic_parser.proofs.FaultLemmas.{stop_weaker}

pub returns-then-not-branch-clause-err : goal.returns-then-not-branch-clause-err
returns-then-not-branch-clause-err c = lacks_so (c.in_ok-follow.ensures.lacks c.if-not-branch.true).1 (rw c.place-place.ensures.place refl)

pub returns-clause-err : goal.returns-clause-err
returns-clause-err c =
    let fault = rw c.in_ok-follow.ensures.moved at c.skip.ensures.err in
    IfErr-weaker c.skip.result _ _ (λ fault e. stop_weaker fault (λ s f. rest_cut (c.in_ok-follow.ensures.leads c.if-not-branch.false) f) e) fault

-- where a path led, and the value there was skipped
led_there : {t : List ℕ} {i p : ℕ} {path : Path} (e : ℕ) (skipped : Result ValueSpan Fault) → IsRest First t i path p [] → OnOk skipped (IsValue strict t p e)
    → IfOk skipped (λ x. (x.start ≡ p) × (x.end ≡ e)) → IfOk skipped (λ x. Evaluates t i path (found x.start x.end))
led_there e (Ok x) leads value span = rw (span.0, span.1) (rest_found leads value)
led_there e (Err fault) leads value span = tt

pub returns-clause-ok : goal.returns-clause-ok
returns-clause-ok c =
    let moved = c.in_ok-follow.ensures.moved in
    led_there _ c.skip.result (c.in_ok-follow.ensures.leads c.if-not-branch.false) (rw moved at c.skip.ensures.value) (rw moved at c.skip.ensures.span)

-- the value that was skipped is where its span says
passed_there : (t : List ℕ) (p e : ℕ) (skipped : Result ValueSpan Fault) → OnOk skipped (IsValue strict t p e) → IfOk skipped (λ x. (x.start ≡ p) × (x.end ≡ e))
    → IfOk skipped (λ x. IsValue strict t x.start x.end)
passed_there t p e (Ok x) value span = rw (span.0, span.1) value
passed_there t p e (Err fault) value span = tt

pub returns-clause-value : goal.returns-clause-value
returns-clause-value c =
    let moved = c.in_ok-follow.ensures.moved in
    passed_there _ _ _ c.skip.result (rw moved at c.skip.ensures.value) (rw moved at c.skip.ensures.span)
