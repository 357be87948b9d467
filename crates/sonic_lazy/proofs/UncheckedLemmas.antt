-- What paths come to in the text of a lazy value, and in one that is known to start with a value in UTF-8.
use Rattle.std.proofs.Common.{◌≡◌, refl, true, Bool, List, [], ◌∷◌, length, ℕ}
use Rattle.std.specs.Prelude.{Some, Result, Ok, Err, is_ok}
use Rattle.sonic_error.specs.declared.error.Error.{Error}
use Rattle.sonic_find.proofs.PathLemmas.Outcome.{evaluates_one}
use Rattle.sonic_lazy.proofs.WholeLemmas.{lazy_is_whole}
use Rattle.sonic_find.specs.Answers.{Span, spans, ComesToAlone, value_found}
use Rattle.sonic_find.specs.DeadEnds.{fails_so, cut_so, IsDeadEnd, stops_so, lacks_so}
use Rattle.sonic_find.specs.Cursors.{HasWhole}
use Rattle.sonic_lazy.specs.LazyValues.{raw_bytes}
use Rattle.sonic_find.specs.Paths.{Outcome, Leads}
use Rattle.sonic_find.specs.Paths.EvaluatesBy.{found_here, cut_here}
use Rattle.sonic_lazy.specs.Shown.{IsValueOf, IsLookup, IsSureLookup, FindsNone}
use Rattle.sonic_lazy.specs.declared.lazyvalue.LazyValue.{LazyValue}
use Rattle.sonic_find.proofs.UncheckedLemmas.{sure_error as error_found}
use Rattle.sonic_parser.specs.Faults.{IsStopFor, IsErrorOf}
use Rattle.sonic_parser.specs.declared.fault.Fault.{Fault}
use Rattle.sonic_parser.specs.declared.fault.Fault.TheVariants.{OutOfMemory, At}
use Rattle.sonic_text.proofs.Values.{value_starts}
use Rattle.std.proofs.Math.Seq.{take-length}
use Rattle.sonic_text.specs.Documents.{StartsWithUtf8Value}
use Rattle.sonic_text.specs.Paths.{Path}
use Rattle.sonic_text.specs.Places.{after_space}
use Rattle.sonic_pointer.specs.declared.rule.KeyRule.TheVariants.{First}

-- an error without a check is the answer
pub sure_error : {t : List ℕ} {is_bytes : Bool} {path : Path} {e : Error} (fault : Fault) → (fault ≡ OutOfMemory → ⊥)
    → IsStopFor (IsDeadEnd First t (after_space t 0) path) fault → IsErrorOf t fault e → IsSureLookup t is_bytes path (Err e)
sure_error {is_bytes = is_bytes} fault sure dead e =
    let x = error_found {is_bytes = is_bytes} fault sure dead e in
    record { ok = tt; err = x.err; complete = x.complete }

-- the value that a lazy value is begins its text
pub lazy_start : (value : LazyValue) → HasWhole (raw_bytes value) (after_space (raw_bytes value) 0)
lazy_start value = let x = (lazy_is_whole value).value in (length (raw_bytes value), rw (value_starts x) x)

-- so its text starts with a value
pub lazy_starts : (value : LazyValue) → StartsWithUtf8Value (raw_bytes value)
lazy_starts value =
    let x = (lazy_is_whole value).value in
    record { end = length (raw_bytes value); root = rw (value_starts x) x; utf8 = rw (take-length (raw_bytes value)) (lazy_is_whole value).utf8 }

-- where a path stops, it finds nothing
pub finds_none : {t : List ℕ} {path : Path} (fault : Fault) → (fault ≡ OutOfMemory → ⊥) → IsStopFor (IsDeadEnd First t (after_space t 0) path) fault → FindsNone t path
finds_none OutOfMemory sure dead = absurd (sure refl)
finds_none {path = path} (At s) sure (stops_so (fails_so e)) = λ i j l. let clash = evaluates_one path e l in cc
finds_none {path = path} (At s) sure (stops_so (cut_so e)) = λ i j l. let clash = evaluates_one path e l in cc
finds_none {path = path} (At s) sure (lacks_so e is) = λ i j l. let clash = evaluates_one path e l in cc

-- what the empty path finds begins the text, which is UTF-8 up to its end
root_starts : {t : List ℕ} {o : Outcome} {s : Span} → Leads t [] o → ComesToAlone t true o (spans (Some s ∷ [])) → StartsWithUtf8Value t
root_starts (cut_here f) come = elim come [ ]
root_starts (found_here x) (value_found utf8) = record { end = _; root = x; utf8 = utf8 refl }

-- so a value that is got by it does
got_starts : {t : List ℕ} {value : LazyValue} → IsValueOf t true [] value → StartsWithUtf8Value t
got_starts x = root_starts x.answer.leads x.answer.come_to

-- and the answer says so
pub lookup_starts : {t : List ℕ} (answer : Result LazyValue Error) → IsLookup t true [] answer → is_ok answer ≡ true → StartsWithUtf8Value t
lookup_starts (Ok value) x e = got_starts x.ok
lookup_starts (Err e) x is = absurd cc
