-- What an answer says of each of its spans, and when there is one.
use Rattle.std.proofs.Common.{◌≡◌, ap, ◌∙◌, ℕ, ◌-◌, ◌≤◌, List, [], ◌∷◌, Bool, true, false, length, take, arith, refl}
use Rattle.std.proofs.Math.Seq.{take-length}
use Rattle.std.proofs.lemmas.Option.{slice_get-map, some_pair_parts}
use Rattle.std.specs.List.{Contains}
use Rattle.std.specs.Prelude.{Option, Some, slice_get, map, option_map}
use Rattle.std.specs.Str.{IsUtf8}
use Rattle.sonic_error.specs.Errors.{IsPlainError}
use Rattle.sonic_error.specs.declared.code.ErrorCode.TheVariants.{NoMemory}
use Rattle.sonic_error.specs.declared.error.Error.{Error}
use Rattle.sonic_find.proofs.AnswerLemmas.One.{answer_by_one}
use Rattle.sonic_find.proofs.AnswerLemmas.Walk.{found_value, lead_from, told_there, no_paths}
use Rattle.sonic_find.proofs.PathLemmas.Outcome.{nowhere_ends, part_named}
use Rattle.sonic_find.proofs.PathLemmas.Rule.{by_named}
use Rattle.sonic_find.proofs.Utf8Lemmas.{utf8_of_span}
use Rattle.sonic_find.specs.Answers.{AllLeadBy, Span, span_of, Answer, finding, IsAnswerBy}
use Rattle.sonic_find.specs.Causes.{IsAnswerableBy, nothing_asked, all_reported, IsRefusalBy, out_of_memory, answered}
use Rattle.sonic_find.specs.Found.{slot_at, told_at, slots_of, AreParts}
use Rattle.sonic_find.specs.Outcomes.{IsEachReach, to_the_whole_root, to_the_last_need, told_span}
use Rattle.sonic_find.specs.declared.outcome.PathOutcome.{PathOutcome}
use Rattle.sonic_find.specs.declared.outcome.PathOutcome.TheVariants.{Found}
use Rattle.sonic_find.specs.Internal.Walk.{IsError, IsAllReached, slot_of}
use Rattle.sonic_find.specs.Paths.{Outcome, found, lacks, fails, cut, kind_of, EvaluatesBy}
use Rattle.sonic_find.specs.Paths.EvaluatesBy.{found_here, goes_on, leads_nowhere}
use Rattle.sonic_parser.specs.declared.value_span.ValueSpan.{ValueSpan}
use Rattle.sonic_parser.specs.Faults.{IsStopFor, IsErrorOf}
use Rattle.sonic_parser.specs.declared.fault.Fault.{Fault}
use Rattle.sonic_parser.specs.declared.fault.Fault.TheVariants.{OutOfMemory, At}
use Rattle.sonic_text.proofs.Values.{value_end_one}
use Rattle.sonic_text.proofs.Within.{value_within}
use Rattle.sonic_text.specs.Paths.{Path}
use Rattle.sonic_text.specs.Strings.{strict}
use Rattle.sonic_text.specs.Values.{IsValue}
use Rattle.sonic_text.specs.declared.stop.Stop.{Stop}
use Rattle.sonic_pointer.specs.declared.rule.KeyRule.{KeyRule}

-- a value is from i to j, and the text is UTF-8 up to a place at or after j
pub record IsReached (t : List ℕ) (i j : ℕ) : Type 0 where
  pub value : IsValue strict t i j
  pub reach : ℕ
  pub within : j ≤ reach
  pub utf8 : IsUtf8 (take reach t)

-- what a path finds in a whole value ends at or before its end
pub found_before : {t : List ℕ} {a b : ℕ} {rule : KeyRule} (path : Path) {i j : ℕ} → EvaluatesBy rule t i path (found a b) → IsValue strict t i j → b ≤ j
found_before [] (found_here x) y = (let same = value_end_one x y in omega arith)
found_before {rule = rule} (node ∷ rest) (goes_on l e) y =
    let p = part_named (by_named rule node l) y in
    let before = found_before rest e p.1 in
    omega (arith, before, p.2)
found_before {t} (node ∷ rest) {i} (leads_nowhere {j = j} x none e) y = absurd (rw (← e) at (nowhere_ends t i (j - 1) (kind_of node)))

-- a value that was found ends where the text is needed, or before
before_reach : {t : List ℕ} {os : List Outcome} {paths : List Path} {i j r : ℕ} {rule : KeyRule} → AllLeadBy rule t paths os → IsEachReach t os r → Contains os (found i j) → j ≤ r
before_reach {i = i} {j} lead (to_the_last_need none c is all) d = all (found i j) d
before_reach {i = i} {j} lead (to_the_whole_root l whole) d = let x = lead_from (found i j) lead d in found_before x.path x.leads whole

-- so it is a part, as the input came as bytes or not
part_by_input : {t : List ℕ} {i j r : ℕ} (is_bytes : Bool) → IsValue strict t i j → j ≤ r → (is_bytes ≡ true → IsUtf8 (take r t)) → (is_bytes ≡ false → IsUtf8 t)
    → IsReached t i j
part_by_input {r = r} true value within prefix text = record { value = value; reach = r; within = within; utf8 = prefix refl }
part_by_input {t} false value within prefix text =
    record { value = value; reach = length t; within = value_within value; utf8 = rw (take-length t) (text refl) }

-- a slot with a value tells where it was found
found_told : (o : Outcome) (x : ValueSpan) → slot_of true o ≡ Found (slot_at x) → o ≡ found x.start x.end
found_told (found i j) x e =
    let both = some_pair_parts i x.start j x.end (ap told_span e) in
    rw (both.0, both.1) refl
found_told (lacks q) x e = absurd cc
found_told (fails s) x e = absurd cc
found_told (cut s) x e = absurd cc

-- each value of what was reached is a part of the text
pub parts_reached : {t : List ℕ} {is_bytes : Bool} {paths : List Path} {rule : KeyRule} {each : Bool} (xs : List (PathOutcome ValueSpan))
    → IsAllReached rule t is_bytes paths each (slots_of xs) → (is_bytes ≡ false → IsUtf8 t) → AreParts t xs
parts_reached {is_bytes = is_bytes} xs x text k y h =
    let r = x.reached in
    let told : slice_get (map (slot_of true) r.outcomes) k ≡ Some (Found (slot_at y)) = rw r.told at (slice_get-map told_at xs k ∙ ap (option_map told_at) h) in
    let o = told_there r.outcomes k told in
    let there : Contains r.outcomes (found y.start y.end) = rw (found_told o.0 y o.2) at o.1 in
    let path = lead_from (found y.start y.end) r.lead there in
    let p = part_by_input is_bytes (found_value path.path path.leads) (before_reach r.lead r.reach there) x.utf8 text in
    let within = value_within p.value in
    record { value = p.value; inside = within; utf8 = utf8_of_span p.reach p.utf8 p.value p.within within }

-- where there is an answer of spans, there is none of an error
spans_answer : {t : List ℕ} {is_bytes : Bool} {rule : KeyRule} (paths : List Path) → IsAnswerableBy rule t is_bytes paths → (entries : List (Option Span)) × IsAnswerBy rule t is_bytes paths (Answer.spans entries)
spans_answer {t} {is_bytes} {rule = rule} paths (nothing_asked e) = ([], no_paths rule t is_bytes paths e)
spans_answer paths (all_reported os r lead fail cuts reach text) =
    (map span_of os, record { outcomes = os; lead = lead; come_to = finding fail cuts reach text refl })

-- there is no such error
pub never_refused : {t : List ℕ} {is_bytes : Bool} {paths : List Path} {s : Stop} {rule : KeyRule} → IsAnswerableBy rule t is_bytes paths → IsAnswerBy rule t is_bytes paths (Answer.error s) → ⊥
never_refused {t} {is_bytes} {paths} {s} {rule = rule} can x =
    let y = spans_answer paths can in
    let clash : Answer.spans y.0 ≡ Answer.error s = (answer_by_one rule t is_bytes paths).one (Answer.spans y.0) (Answer.error s) y.1 x in
    absurd cc

-- a stop that is the answer is reported as a refusal
pub refusal_of : {t : List ℕ} {is_bytes : Bool} {paths : List Path} {e : Error} {rule : KeyRule} (fault : Fault)
    → IsStopFor (λ s. IsAnswerBy rule t is_bytes paths (Answer.error s)) fault → IsErrorOf t fault e
    → IsRefusalBy rule t is_bytes paths e
refusal_of OutOfMemory h e = out_of_memory e
refusal_of (At s) h e = answered s h e

-- and where there is an answer of spans, memory ran out
pub only_out : {t : List ℕ} {is_bytes : Bool} {paths : List Path} {rule : KeyRule} (fault : Fault) → IsAnswerableBy rule t is_bytes paths
    → IsStopFor (IsError rule t is_bytes paths) fault → fault ≡ OutOfMemory
only_out OutOfMemory can h = refl
only_out (At s) can h = absurd (never_refused can h.answer)

-- of which the error says no more
pub only_memory : (t : List ℕ) {e : Error} (fault : Fault) → fault ≡ OutOfMemory → IsErrorOf t fault e → IsPlainError e NoMemory
only_memory t fault out e = rw out at e
