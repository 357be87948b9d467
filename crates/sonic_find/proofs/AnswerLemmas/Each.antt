-- What each path of a list is told, and that there is one answer.
use Rattle.std.proofs.Common.{◌≡◌, ◌≢◌, ◌∙◌, ◌⊎◌, inl, inr, ap, sym, ℕ, zero, suc, ◌<◌, ◌≤◌, List, [], ◌∷◌, ◌++◌, Bool, true, false, length, take, subst, arith, refl}
use Rattle.std.proofs.Math.Seq.{take-append_seam}
use Rattle.std.proofs.lemmas.Bool.{cases_lt}
use Rattle.std.proofs.lemmas.Option.{slice_get_within, same_Some}
use Rattle.std.specs.List.{Contains}
use Rattle.std.specs.Prelude.{Option, Some, slice_get, map}
use Rattle.std.specs.Str.{IsUtf8}
use Rattle.sonic_error.specs.declared.code.ErrorCode.{ErrorCode}
use Rattle.sonic_error.specs.declared.code.ErrorCode.TheVariants.{Message, Io, EofWhileParsing, ExpectedColon, ExpectedArrayCommaOrEnd, ExpectedObjectCommaOrEnd, InvalidLiteral, InvalidJsonValue, ExpectedObjectStart, ExpectedArrayStart, InvalidEscape, InvalidNumber, NumberOutOfRange, InvalidUnicodeCodePoint, InvalidUTF8, ControlCharacterWhileParsingString, ExpectObjectKeyOrEnd, TrailingComma, TrailingCharacters, RecursionLimitExceeded, GetInEmptyObject, GetUnknownKeyInObject, GetInEmptyArray, GetIndexOutOfArray, UnexpectedVisitType, InvalidSurrogateUnicodeCodePoint, FloatMustBeFinite, ExpectedNumericKey, ExpectedQuote, SerExpectKeyIsStrOrNum, NoMemory, DuplicateKey}
use Rattle.sonic_error.specs.declared.error.Error.{Error}
use Rattle.sonic_find.proofs.AnswerLemmas.One.{none_in_empty, first_in, later_in, first_or_later, cut_or_none, lacks_or_none, all_some, all_one, cut_by_root, utf8_or_not}
use Rattle.sonic_find.proofs.AnswerLemmas.Walk.{both_same}
use Rattle.sonic_find.proofs.WalkLemmas.List.{some_there}
use Rattle.sonic_find.specs.Answers.{AllLeadBy, IsNearest, NoneFails, NoneCut, SomeLacks, IsReach, to_the_root, to_the_furthest, Span, span_of, Answer, ComeTo, no_path, failing, cutting, lacking, breaking, finding, IsAnswerBy}
use Rattle.sonic_find.specs.Found.{FlagEscapes, AreParts, seen, slot_at, slots_of}
use Rattle.sonic_find.specs.Internal.Each.{IsTelling, tells_empty, tells_same, AreTellings}
use Rattle.sonic_find.specs.Internal.Fill.{AreFilled}
use Rattle.sonic_find.proofs.AnswerLemmas.Agree.{each_alone}
use Rattle.sonic_text.specs.Documents.{StartsWithUtf8Value}
use Rattle.sonic_pointer.specs.declared.rule.KeyRule.TheVariants.{First}
use Rattle.sonic_find.specs.Internal.Walk.{slot_of, IsAllReached, IsEachError}
use Rattle.sonic_find.specs.Laws.{ExactlyOne}
use Rattle.sonic_find.specs.Outcomes.{told_span, IsTold, told_found, told_missing, told_empty, told_fails, AreTold, all_told, one_told, need, IsEachReach, to_the_whole_root, to_the_last_need, EachAnswer, ComeToEach, no_path_asks, some_path_cut, some_path_lacks, need_broken, each_told, IsEachAnswerBy, IsEachTold, IsEachRefusalBy, each_out_of_memory, each_refused}
use Rattle.sonic_find.specs.Parts.{AreFoundParts}
use Rattle.sonic_find.specs.Paths.{Outcome, found, lacks, fails, cut, fails_at}
use Rattle.sonic_find.specs.declared.outcome.PathOutcome.{PathOutcome}
use Rattle.sonic_find.specs.declared.outcome.PathOutcome.TheVariants.{Found, Missing, Fails}
use Rattle.sonic_find.specs.declared.span.Span as slot
use Rattle.sonic_parser.specs.Faults.{IsStopFor, IsErrorOf}
use Rattle.sonic_parser.specs.declared.fault.Fault.{Fault}
use Rattle.sonic_parser.specs.declared.fault.Fault.TheVariants.{OutOfMemory, At}
use Rattle.sonic_parser.specs.declared.value_span.ValueSpan.{ValueSpan}
use Rattle.sonic_pointer.specs.declared.rule.KeyRule.{KeyRule}
use Rattle.sonic_text.proofs.Outcomes.{value_some_outcome}
use Rattle.sonic_text.proofs.Values.{value_end_one, value_fault_one, value_never_both}
use Rattle.sonic_text.specs.Documents.{IsRootFault}
use Rattle.sonic_text.specs.Paths.{Path}
use Rattle.sonic_text.specs.Places.{after_space}
use Rattle.sonic_text.specs.Strings.{strict}
use Rattle.sonic_text.specs.declared.stop.Stop.{Stop}

-- the code of an empty object, or another
is_empty_object : (code : ErrorCode) → (code ≡ GetInEmptyObject) ⊎ (code ≢ GetInEmptyObject)
is_empty_object (Message x) = inr (λ e. absurd cc)
is_empty_object (Io x) = inr (λ e. absurd cc)
is_empty_object EofWhileParsing = inr (λ e. absurd cc)
is_empty_object ExpectedColon = inr (λ e. absurd cc)
is_empty_object ExpectedArrayCommaOrEnd = inr (λ e. absurd cc)
is_empty_object ExpectedObjectCommaOrEnd = inr (λ e. absurd cc)
is_empty_object InvalidLiteral = inr (λ e. absurd cc)
is_empty_object InvalidJsonValue = inr (λ e. absurd cc)
is_empty_object ExpectedObjectStart = inr (λ e. absurd cc)
is_empty_object ExpectedArrayStart = inr (λ e. absurd cc)
is_empty_object InvalidEscape = inr (λ e. absurd cc)
is_empty_object InvalidNumber = inr (λ e. absurd cc)
is_empty_object NumberOutOfRange = inr (λ e. absurd cc)
is_empty_object InvalidUnicodeCodePoint = inr (λ e. absurd cc)
is_empty_object InvalidUTF8 = inr (λ e. absurd cc)
is_empty_object ControlCharacterWhileParsingString = inr (λ e. absurd cc)
is_empty_object ExpectObjectKeyOrEnd = inr (λ e. absurd cc)
is_empty_object TrailingComma = inr (λ e. absurd cc)
is_empty_object TrailingCharacters = inr (λ e. absurd cc)
is_empty_object RecursionLimitExceeded = inr (λ e. absurd cc)
is_empty_object GetInEmptyObject = inl refl
is_empty_object GetUnknownKeyInObject = inr (λ e. absurd cc)
is_empty_object GetInEmptyArray = inr (λ e. absurd cc)
is_empty_object GetIndexOutOfArray = inr (λ e. absurd cc)
is_empty_object UnexpectedVisitType = inr (λ e. absurd cc)
is_empty_object InvalidSurrogateUnicodeCodePoint = inr (λ e. absurd cc)
is_empty_object FloatMustBeFinite = inr (λ e. absurd cc)
is_empty_object ExpectedNumericKey = inr (λ e. absurd cc)
is_empty_object ExpectedQuote = inr (λ e. absurd cc)
is_empty_object SerExpectKeyIsStrOrNum = inr (λ e. absurd cc)
is_empty_object NoMemory = inr (λ e. absurd cc)
is_empty_object DuplicateKey = inr (λ e. absurd cc)

-- an outcome that isn't cut is told so
told_some : (o : Outcome) → ((s : Stop) → o ≢ cut s) → (x : PathOutcome slot.Span) × IsTold o x
told_some (found i j) uncut = (_, told_found)
told_some (lacks q) uncut = (_, told_missing)
told_some (cut s) uncut = absurd (uncut s refl)
told_some (fails s) uncut = elim (is_empty_object s.code) [
  | inr other ↦ (_, told_fails other)
  | inl e ↦ (Missing s.place, (let empty : IsTold (fails_at s.place GetInEmptyObject) (Missing s.place) = told_empty in rw (← e) at empty))
]

-- and only so
told_one : {o : Outcome} {x y : PathOutcome slot.Span} → IsTold o x → IsTold o y → x ≡ y
told_one told_found told_found = refl
told_one told_missing told_missing = refl
told_one told_empty told_empty = refl
told_one told_empty (told_fails other) = absurd (other refl)
told_one (told_fails other) told_empty = absurd (other refl)
told_one (told_fails other) (told_fails more) = refl

-- the first of some outcomes is this one
first_as : (o : Outcome) (os : List Outcome) {p : Outcome} → o ≡ p → Contains (o ∷ os) p
first_as o os e = (let P : Outcome → Type 0 = λ z. Contains (o ∷ os) z in subst P e (first_in o os))

-- and so are all of a list
told_all : (os : List Outcome) → NoneCut os → (xs : List (PathOutcome slot.Span)) × AreTold os xs
told_all [] cuts = ([], all_told)
told_all (o ∷ os) cuts =
    let x = told_some o (λ s e. cuts s (first_as o os e)) in
    let xs = told_all os (λ s c. cuts s (later_in o (cut s) os c)) in
    (x.0 ∷ xs.0, one_told x.1 xs.1)

told_all_one : {os : List Outcome} {xs ys : List (PathOutcome slot.Span)} → AreTold os xs → AreTold os ys → xs ≡ ys
told_all_one all_told all_told = refl
told_all_one (one_told x xs) (one_told y ys) = both_same (told_one x y) (told_all_one xs ys)

-- the furthest need of some outcomes
record FurthestNeed (os : List Outcome) : Type 0 where
  pub outcome : Outcome
  pub here : Contains os outcome
  pub all : (p : Outcome) → Contains os p → need p ≤ need outcome

furthest_need : (o : Outcome) (os : List Outcome) → FurthestNeed (o ∷ os)
furthest_need o [] = record {
  outcome = o;
  here = first_in o [];
  all = λ p c. elim (first_or_later o p [] c) [ inl same ↦ rw same (let l : need p ≤ need p = omega arith in l) | inr later ↦ absurd (none_in_empty p later) ];
}
furthest_need o (q ∷ os) =
    let f = furthest_need q os in
    elim (cases_lt (need f.outcome) (need o)) [
      | inl less ↦ record {
        outcome = o;
        here = first_in o (q ∷ os);
        all = λ p c. elim (first_or_later o p (q ∷ os) c) [
          | inl same ↦ rw same (let l : need p ≤ need p = omega arith in l)
          | inr later ↦ (let m = f.all p later in omega (arith, m, less))
        ];
      }
      | inr more ↦ record {
        outcome = f.outcome;
        here = later_in o f.outcome (q ∷ os) f.here;
        all = λ p c. elim (first_or_later o p (q ∷ os) c) [ inl same ↦ rw same at more | inr later ↦ f.all p later ];
      }
    ]

-- the reach is one place
each_reach_one : {t : List ℕ} {os : List Outcome} {r q : ℕ} → IsEachReach t os r → IsEachReach t os q → r ≡ q
each_reach_one (to_the_whole_root l x) (to_the_whole_root m y) = value_end_one x y
each_reach_one (to_the_whole_root l x) (to_the_last_need none c is all) = absurd (none l)
each_reach_one (to_the_last_need none c is all) (to_the_whole_root l x) = absurd (none l)
each_reach_one {r = r} {q} (to_the_last_need {o} none c is all) (to_the_last_need {o = p} other d at more) =
    let a = all p d in
    let b = more o c in
    omega (arith, a, b, is, at)

-- nothing is needed for no path
each_reach_not_empty : {t : List ℕ} {r : ℕ} → IsEachReach t [] r → ⊥
each_reach_not_empty (to_the_whole_root l x) = none_in_empty (lacks l.0) l.1
each_reach_not_empty (to_the_last_need {o} none c is all) = none_in_empty o c

-- the root has no fault where a path that lacks its key needs it whole
each_reach_no_fault : {t : List ℕ} {os : List Outcome} {r : ℕ} {s : Stop} → IsEachReach t os r → SomeLacks os → IsRootFault t s → ⊥
each_reach_no_fault (to_the_whole_root l x) m f = value_never_both x f
each_reach_no_fault (to_the_last_need none c is all) m f = none m

-- what outcomes come to, over a text that came as bytes or not
abbrev SomeEach : List ℕ → Bool → List Outcome → Type 0
SomeEach t is_bytes os = (a : EachAnswer) × ComeToEach t is_bytes os a

-- where the reach is known, there is an answer
within_each : {t : List ℕ} {os : List Outcome} {r : ℕ} (is_bytes : Bool) → NoneCut os → IsEachReach t os r → SomeEach t is_bytes os
within_each {os = os} false cuts reach = let x = told_all os cuts in (_, each_told cuts reach (λ e. absurd cc) x.1)
within_each {t} {os} {r} true cuts reach = elim (utf8_or_not (take r t)) [
  | inl text ↦ (let x = told_all os cuts in (_, each_told cuts reach (λ e. text) x.1))
  | inr broken ↦ (_, need_broken cuts reach refl broken refl)
]

-- outcomes come to some answer
each_some : (t : List ℕ) (is_bytes : Bool) (os : List Outcome) → ((s : Stop) → Contains os (cut s) → IsRootFault t s) → SomeEach t is_bytes os
each_some t is_bytes [] root = (_, no_path_asks)
each_some t is_bytes (o ∷ os) root = elim (cut_or_none (o ∷ os)) [
  | inl c ↦ (_, some_path_cut c.1 (root c.0 c.1))
  | inr cuts ↦ elim (lacks_or_none (o ∷ os)) [
    | inr none ↦ (let f = furthest_need o os in within_each is_bytes cuts (to_the_last_need none f.here refl f.all))
    | inl lack ↦ elim (value_some_outcome strict t (after_space t 0)) [
      | inl x ↦ within_each is_bytes cuts (to_the_whole_root lack x.1)
      | inr f ↦ (_, some_path_lacks cuts lack f.1)
    ]
  ]
]

-- no outcomes come to one answer
empty_each : {t : List ℕ} {is_bytes : Bool} {a : EachAnswer} → ComeToEach t is_bytes [] a → a ≡ EachAnswer.outcomes []
empty_each no_path_asks = refl
empty_each (some_path_cut {s = s} c f) = absurd (none_in_empty (cut s) c)
empty_each (some_path_lacks cuts l f) = absurd (none_in_empty (lacks l.0) l.1)
empty_each (need_broken cuts reach b n e) = absurd (each_reach_not_empty reach)
empty_each (each_told cuts reach u x) = absurd (each_reach_not_empty reach)

-- outcomes come to one answer
each_one : {t : List ℕ} {is_bytes : Bool} (os : List Outcome) {a b : EachAnswer} → ComeToEach t is_bytes os a → ComeToEach t is_bytes os b → a ≡ b
each_one [] x y = let e = empty_each x in let f = empty_each y in cc
each_one (o ∷ os) (some_path_cut c f) (some_path_cut d g) = rw (value_fault_one f g) refl
each_one (o ∷ os) (some_path_cut {s = s} c f) (some_path_lacks cuts l g) = absurd (cuts s c)
each_one (o ∷ os) (some_path_cut {s = s} c f) (need_broken cuts reach b u e) = absurd (cuts s c)
each_one (o ∷ os) (some_path_cut {s = s} c f) (each_told cuts reach u x) = absurd (cuts s c)
each_one (o ∷ os) (some_path_lacks cuts l f) (some_path_cut {s = s} c g) = absurd (cuts s c)
each_one (o ∷ os) (some_path_lacks cuts l f) (some_path_lacks more m g) = rw (value_fault_one f g) refl
each_one (o ∷ os) (some_path_lacks cuts l f) (need_broken more reach b u e) = absurd (each_reach_no_fault reach l f)
each_one (o ∷ os) (some_path_lacks cuts l f) (each_told more reach u x) = absurd (each_reach_no_fault reach l f)
each_one (o ∷ os) (need_broken cuts reach b u e) (some_path_cut {s = s} c g) = absurd (cuts s c)
each_one (o ∷ os) (need_broken cuts reach b u e) (some_path_lacks more l g) = absurd (each_reach_no_fault reach l g)
each_one (o ∷ os) (need_broken cuts reach b u e) (need_broken more other d w f) = rw (e, f, each_reach_one reach other) refl
each_one {t} (o ∷ os) (need_broken {r = r} cuts reach b u e) (each_told {r = q} more other text x) =
    let same : q ≡ r = each_reach_one other reach in
    let whole : IsUtf8 (take r t) = rw same at (text b) in
    absurd (u whole)
each_one (o ∷ os) (each_told cuts reach text x) (some_path_cut {s = s} c g) = absurd (cuts s c)
each_one (o ∷ os) (each_told cuts reach text x) (some_path_lacks more l g) = absurd (each_reach_no_fault reach l g)
each_one {t} (o ∷ os) (each_told {r = q} cuts reach text x) (need_broken {r = r} more other b u f) =
    let same : q ≡ r = each_reach_one reach other in
    let whole : IsUtf8 (take r t) = rw same at (text b) in
    absurd (u whole)
each_one (o ∷ os) (each_told cuts reach text x) (each_told more other whole y) = rw (told_all_one x y) refl

-- under a rule paths have exactly one answer, each by itself
pub each_answer_one : (r : KeyRule) (t : List ℕ) (is_bytes : Bool) (paths : List Path) → ExactlyOne (IsEachAnswerBy r t is_bytes paths)
each_answer_one r t is_bytes paths =
    let os = all_some r t paths in
    let a = each_some t is_bytes os.0 (λ s c. cut_by_root s os.1 c) in
    record {
      some = (a.0, record { outcomes = os.0; lead = os.1; come_to = a.1 });
      one = λ a b x y.
          let same : y.outcomes ≡ x.outcomes = all_one paths y.lead x.lead in
          let z : ComeToEach t is_bytes x.outcomes b = rw same at y.come_to in
          each_one x.outcomes x.come_to z;
    }

-- a slot that tells an outcome tells it to its path in the end
telling_told : {V : Type 0} (at : V → slot.Span) {x y : PathOutcome V} (o : Outcome) → ((s : Stop) → o ≢ cut s) → IsTelling x y → seen at x ≡ slot_of true o → IsTold o (seen at y)
telling_told at (found i j) uncut tells_empty e = absurd cc
telling_told at (lacks p) uncut tells_empty e = absurd cc
telling_told at (cut s) uncut t e = absurd (uncut s refl)
telling_told at (fails s) uncut (tells_empty {q}) e =
    let same : record { place = q; code = GetInEmptyObject } ≡ s = cc in
    let empty : IsTold (fails_at q GetInEmptyObject) (Missing q) = told_empty in
    rw same at empty
telling_told at (found i j) uncut (tells_same other) e = rw e told_found
telling_told at (lacks p) uncut (tells_same other) e = rw e told_missing
telling_told at (fails s) uncut (tells_same {x = Found v} other) e = absurd cc
telling_told at (fails s) uncut (tells_same {x = Missing q} other) e = absurd cc
telling_told at (fails s) uncut (tells_same {x = Fails r} other) e = (let same : r ≡ s = cc in rw (← same) (told_fails (other r refl)))

-- a fail in an empty object is told as a key that is lacked, and another as it is
pub telling_empty : {V : Type 0} (s : Stop) → s.code ≡ GetInEmptyObject → IsTelling {V = V} (Fails s) (Missing s.place)
telling_empty {V} s e = (let empty : IsTelling {V = V} (Fails (record { place = s.place; code = GetInEmptyObject })) (Missing s.place) = tells_empty in rw (← e) at empty)

same_code : {V : Type 0} (s r : Stop) → ◌≡◌ {A = PathOutcome V} (Fails s) (Fails r) → s.code ≡ r.code
same_code s r e = cc

pub telling_fails : {V : Type 0} (s : Stop) → s.code ≢ GetInEmptyObject → IsTelling {V = V} (Fails s) (Fails s)
telling_fails {V} s other = tells_same (λ r e x. other (same_code s r e ∙ x))

-- and a slot has no other value
telling_value : {V : Type 0} {x y : PathOutcome V} {v : V} → IsTelling x y → y ≡ Found v → x ≡ Found v
telling_value tells_empty e = absurd cc
telling_value (tells_same other) e = e

-- so all slots tell it
tellings_told : {V : Type 0} (at : V → slot.Span) (xs ys : List (PathOutcome V)) (os : List Outcome) → length ys ≡ length xs
    → ((k : ℕ) (x y : PathOutcome V) → slice_get xs k ≡ Some x → slice_get ys k ≡ Some y → IsTelling x y)
    → map (seen at) xs ≡ map (slot_of true) os → NoneCut os → AreTold os (map (seen at) ys)
tellings_told at [] [] [] long each e cuts = all_told
tellings_told at [] [] (o ∷ os) long each e cuts = absurd cc
tellings_told at [] (y ∷ ys) os long each e cuts = absurd (omega (arith, long))
tellings_told at (x ∷ xs) [] os long each e cuts = absurd (omega (arith, long))
tellings_told at (x ∷ xs) (y ∷ ys) [] long each e cuts = absurd cc
tellings_told at (x ∷ xs) (y ∷ ys) (o ∷ os) long each e cuts =
    let first : seen at x ≡ slot_of true o = cc in
    let rest : map (seen at) xs ≡ map (slot_of true) os = cc in
    one_told (telling_told at o (λ s same. cuts s (first_as o os same)) (each 0 x y refl refl) first)
    (tellings_told at xs ys os (omega (arith, long)) (λ k a b h g. each (suc k) a b h g) rest (λ s c. cuts s (later_in o (cut s) os c)))

-- slots that are written back tell it
pub tellings_back : {V : Type 0} {items lent now : List (PathOutcome V)} (n : ℕ) (rest : List (PathOutcome V)) → lent ≡ items → length lent ≡ n → AreTellings lent now
    → AreTellings items (take n (now ++ rest))
tellings_back {now = now} n rest same long all = rw (← same, ← long, ← all.long, take-append_seam now rest) all

-- so the slots are the answer
pub each_answers : {t : List ℕ} {is_bytes : Bool} {paths : List Path} {rule : KeyRule} (xs ys : List (PathOutcome ValueSpan))
    → IsAllReached rule t is_bytes paths true (slots_of xs) → AreTellings xs ys → IsEachAnswerBy rule t is_bytes paths (EachAnswer.outcomes (slots_of ys))
each_answers xs ys x all =
    let r = x.reached in
    record {
      outcomes = r.outcomes;
      lead = r.lead;
      come_to = each_told r.none_cut r.reach x.utf8 (tellings_told slot_at xs ys r.outcomes all.long all.each r.told r.none_cut);
    }

-- where none fails, slots tell outcomes as they are
told_plainly : (os : List Outcome) → NoneFails os → NoneCut os → AreTold os (map (slot_of true) os)
told_plainly [] fail cuts = all_told
told_plainly (o ∷ os) fail cuts =
    one_told (go o (λ s e. fail s (first_as o os e)) (λ s e. cuts s (first_as o os e)))
    (told_plainly os (λ s c. fail s (later_in o (fails s) os c)) (λ s c. cuts s (later_in o (cut s) os c)))
  where
    go : (o : Outcome) → ((s : Stop) → o ≢ fails s) → ((s : Stop) → o ≢ cut s) → IsTold o (slot_of true o)
    go (found i j) fail cuts = told_found
    go (lacks q) fail cuts = told_missing
    go (fails s) fail cuts = absurd (fail s refl)
    go (cut s) fail cuts = absurd (cuts s refl)

-- so where the paths have an answer together, each is told where it leads
pub together_each : {t : List ℕ} {is_bytes : Bool} {paths : List Path} {rule : KeyRule} {slots : List (PathOutcome slot.Span)}
    → IsAllReached rule t is_bytes paths false slots → IsEachAnswerBy rule t is_bytes paths (EachAnswer.outcomes slots)
together_each x =
    let r = x.reached in
    record {
      outcomes = r.outcomes;
      lead = r.lead;
      come_to = each_told r.none_cut r.reach x.utf8 (rw r.told (told_plainly r.outcomes (r.none_fails refl) r.none_cut));
    }

-- a span is seen as it is
seen_self : (x : PathOutcome slot.Span) → seen (λ v. v) x ≡ x
seen_self (Found v) = refl
seen_self (Missing q) = refl
seen_self (Fails s) = refl

all_seen : (xs : List (PathOutcome slot.Span)) → map (seen (λ v. v)) xs ≡ xs
all_seen [] = refl
all_seen (x ∷ xs) = both_same (seen_self x) (all_seen xs)

-- slots that tell outcomes tell them to their paths in the end
pub told_by_slots : (xs ys : List (PathOutcome slot.Span)) (os : List Outcome) → AreTellings xs ys → xs ≡ map (slot_of true) os → NoneCut os → AreTold os ys
told_by_slots xs ys os all e cuts = (let told = tellings_told (λ v. v) xs ys os all.long all.each (all_seen xs ∙ e) cuts in rw (all_seen ys) at told)

-- so the slots that were filled without a look at the text are the answer
pub filled_answers : {t : List ℕ} {paths : List Path} (is_bytes : Bool) (xs ys : List (PathOutcome slot.Span)) → StartsWithUtf8Value t → AreFilled t paths xs → AreTellings xs ys
    → IsEachAnswerBy First t is_bytes paths (EachAnswer.outcomes ys)
filled_answers {t} is_bytes xs ys starts x all =
    let ours = told_by_slots xs ys x.outcomes all x.told x.none_cut in
    let a = each_some t is_bytes x.outcomes (λ s c. cut_by_root s x.lead c) in
    let same = each_alone is_bytes starts x.lead x.none_cut a.1 in
    let one : a.0 ≡ EachAnswer.outcomes ys = same.2 ∙ ap EachAnswer.outcomes (told_all_one same.1 ours) in
    record { outcomes = x.outcomes; lead = x.lead; come_to = rw one at a.1 }

-- and the values are what they were
pub telling_escapes : (t : List ℕ) {xs ys : List (PathOutcome ValueSpan)} → AreTellings xs ys → FlagEscapes t xs → FlagEscapes t ys
telling_escapes t {xs} {ys} all have k v h =
    let within : k < length xs = (let w = slice_get_within ys k _ h in omega (arith, w, all.long)) in
    let x = some_there xs k within in
    have k v (x.1 ∙ ap Some (telling_value (all.each k x.0 (Found v) x.1 h) refl))

pub telling_parts : (t : List ℕ) {xs ys : List (PathOutcome ValueSpan)} → AreTellings xs ys → AreParts t xs → AreParts t ys
telling_parts t {xs} {ys} all have k v h =
    let within : k < length xs = (let w = slice_get_within ys k _ h in omega (arith, w, all.long)) in
    let x = some_there xs k within in
    have k v (x.1 ∙ ap Some (telling_value (all.each k x.0 (Found v) x.1 h) refl))

-- an error is no answer where each path is told
pub each_only_out : {t : List ℕ} {is_bytes : Bool} {paths : List Path} {rule : KeyRule} (fault : Fault) → IsEachTold rule t is_bytes paths
    → IsStopFor (IsEachError rule t is_bytes paths) fault → fault ≡ OutOfMemory
each_only_out OutOfMemory can h = refl
each_only_out {t} {is_bytes} {paths} {rule} (At s) can h =
    let clash : EachAnswer.outcomes can.told ≡ EachAnswer.error s = (each_answer_one rule t is_bytes paths).one (EachAnswer.outcomes can.told) (EachAnswer.error s) can.answer h.answer in
    absurd cc

-- a stop that is the answer is reported as a refusal
pub each_refusal_of : {t : List ℕ} {is_bytes : Bool} {paths : List Path} {e : Error} {rule : KeyRule} (fault : Fault)
    → IsStopFor (IsEachError rule t is_bytes paths) fault → IsErrorOf t fault e → IsEachRefusalBy rule t is_bytes paths e
each_refusal_of OutOfMemory h e = each_out_of_memory e
each_refusal_of (At s) h e = each_refused s h.answer e

pub each_refusal_so : {t : List ℕ} {is_bytes : Bool} {paths : List Path} {e : Error} {rule : KeyRule} (fault : Fault)
    → IsStopFor (λ s. IsEachAnswerBy rule t is_bytes paths (EachAnswer.error s)) fault → IsErrorOf t fault e → IsEachRefusalBy rule t is_bytes paths e
each_refusal_so OutOfMemory h e = each_out_of_memory e
each_refusal_so (At s) h e = each_refused s h e

same_found : {x y : slot.Span} → Found x ≡ Found y → x ≡ y
same_found e = cc

-- what was found is a part of the text, as callers see it
pub told_are_parts : {t : List ℕ} (xs : List (PathOutcome ValueSpan)) → AreParts t xs → AreFoundParts t (slots_of xs)
told_are_parts (Found v ∷ xs) all zero x h =
    let part = all 0 v refl in
    let same : slot_at v ≡ x = same_found (same_Some _ _ h) in
    rw (← same) part
told_are_parts (Missing q ∷ xs) all zero x h = absurd cc
told_are_parts (Fails s ∷ xs) all zero x h = absurd cc
told_are_parts (y ∷ xs) all (suc k) x h = told_are_parts xs (λ k z there. all (suc k) z there) k x h
told_are_parts [] all k x h = absurd (let w = slice_get_within [] k _ h in omega arith)

-- what a path is told has the span of its value
told_spans : {os : List Outcome} {xs : List (PathOutcome slot.Span)} → AreTold os xs → map told_span xs ≡ map span_of os
told_spans all_told = refl
told_spans (one_told told_found xs) = both_same refl (told_spans xs)
told_spans (one_told told_missing xs) = both_same refl (told_spans xs)
told_spans (one_told told_empty xs) = both_same refl (told_spans xs)
told_spans (one_told (told_fails other) xs) = both_same refl (told_spans xs)

-- what paths need together is what each needs, where none fails
each_reach_of : {t : List ℕ} {os : List Outcome} {r : ℕ} → NoneFails os → NoneCut os → IsReach t os r → IsEachReach t os r
each_reach_of fail cuts (to_the_root l x) = to_the_whole_root l x
each_reach_of {os = os} {r} fail cuts (to_the_furthest {i} none c all) = to_the_last_need {o = found i r} none c refl (λ p d. most p d)
  where
    most : (p : Outcome) → Contains os p → need p ≤ r
    most (found a b) d = all a b d
    most (lacks q) d = absurd (none (q, d))
    most (fails s) d = absurd (fail s d)
    most (cut s) d = absurd (cuts s d)

-- where all paths have an answer together, each is told the same
pub each_of_spans : {r : KeyRule} {t : List ℕ} {is_bytes : Bool} {paths : List Path} {entries : List (Option Span)} → IsAnswerBy r t is_bytes paths (Answer.spans entries)
    → (told : List (PathOutcome slot.Span)) × IsEachAnswerBy r t is_bytes paths (EachAnswer.outcomes told) × (entries ≡ map told_span told)
each_of_spans x = go x.lead x.come_to
  where
    go : {r : KeyRule} {t : List ℕ} {is_bytes : Bool} {paths : List Path} {os : List Outcome} {entries : List (Option Span)} → AllLeadBy r t paths os
        → ComeTo t is_bytes os (Answer.spans entries)
        → (told : List (PathOutcome slot.Span)) × IsEachAnswerBy r t is_bytes paths (EachAnswer.outcomes told) × (entries ≡ map told_span told)
    go lead no_path = ([], record { outcomes = []; lead = lead; come_to = no_path_asks }, refl)
    go {os = os} lead (finding fail cuts reach text e) =
        let x = told_all os cuts in
        (x.0, record { outcomes = os; lead = lead; come_to = each_told cuts (each_reach_of fail cuts reach) text x.1 }, e ∙ sym (told_spans x.1))

-- and where they have none, each has the same error, or some path fails at the nearest place
pub each_of_error : {r : KeyRule} {t : List ℕ} {is_bytes : Bool} {paths : List Path} {os : List Outcome} {s : Stop} → AllLeadBy r t paths os
    → IsAnswerBy r t is_bytes paths (Answer.error s) → IsEachAnswerBy r t is_bytes paths (EachAnswer.error s) ⊎ IsNearest os s
each_of_error {paths = paths} lead x =
    let same = all_one paths x.lead lead in
    go lead (rw same at x.come_to)
  where
    go : {r : KeyRule} {t : List ℕ} {is_bytes : Bool} {paths : List Path} {os : List Outcome} {s : Stop} → AllLeadBy r t paths os
        → ComeTo t is_bytes os (Answer.error s) → IsEachAnswerBy r t is_bytes paths (EachAnswer.error s) ⊎ IsNearest os s
    go lead (failing n) = inr n
    go {os = os} lead (cutting fail c f) = inl (record { outcomes = os; lead = lead; come_to = some_path_cut c f })
    go {os = os} lead (lacking fail cuts l f) = inl (record { outcomes = os; lead = lead; come_to = some_path_lacks cuts l f })
    go {os = os} lead (breaking fail cuts reach b n e) = inl (record { outcomes = os; lead = lead; come_to = need_broken cuts (each_reach_of fail cuts reach) b n e })
