-- What each path of a list is told, whatever the others lead to.
use Rattle.std.specs.Prelude.{◌≡◌, ◌≢◌, ℕ, ◌+◌, ◌≤◌, Bool, List, [], ◌∷◌, Contains, Option, Some, None, take, slice_get, IsTrue}
use Rattle.std.specs.Str.{IsUtf8}
use Rattle.sonic_error.specs.Errors.{IsErrorAt, IsPlainError}
use Rattle.sonic_error.specs.Texts.{valid_up_to}
use Rattle.sonic_error.specs.declared.code.ErrorCode.TheVariants.{InvalidUTF8, GetInEmptyObject, NoMemory}
use Rattle.sonic_error.specs.declared.error.Error.{Error}
use Rattle.sonic_find.specs.Answers.{Span as Pair, AllLeadBy, NoneCut, SomeLacks}
use Rattle.sonic_find.specs.Paths.{Outcome, found, lacks, fails, cut, fails_at}
use Rattle.sonic_find.specs.declared.outcome.PathOutcome.{PathOutcome}
use Rattle.sonic_find.specs.declared.outcome.PathOutcome.TheVariants.{Found, Missing, Fails}
use Rattle.sonic_find.specs.declared.span.Span.{Span}
use Rattle.sonic_pointer.specs.declared.rule.KeyRule.{KeyRule}
use Rattle.sonic_text.specs.Documents.{IsWhole, IsRootFault}
use Rattle.sonic_text.specs.Paths.{Path}
use Rattle.sonic_text.specs.declared.stop.Stop.{Stop}

-- what a path is told of where it leads, unless it is cut: an empty object lacks a key as any other does
pub data IsTold : Outcome → PathOutcome Span → Type 0 where
  told_found : {i j : ℕ} → IsTold (found i j) (Found (record { start = i; end = j }))
  told_missing : {q : ℕ} → IsTold (lacks q) (Missing q)
  told_empty : {q : ℕ} → IsTold (fails_at q GetInEmptyObject) (Missing q)
  told_fails : {s : Stop} → s.code ≢ GetInEmptyObject → IsTold (fails s) (Fails s)

-- and each path of a list, in order
pub data AreTold : List Outcome → List (PathOutcome Span) → Type 0 where
  all_told : AreTold [] []
  one_told : {o : Outcome} {os : List Outcome} {x : PathOutcome Span} {xs : List (PathOutcome Span)} → IsTold o x → AreTold os xs → AreTold (o ∷ os) (x ∷ xs)

-- the span of the value, if one was found
abbrev pub told_span : PathOutcome Span → Option Pair
told_span (Found s) = Some (s.start, s.end)
told_span (Missing q) = None
told_span (Fails s) = None

-- no path is told that it fails
abbrev pub NoneTold : List (PathOutcome Span) → Type 0
NoneTold xs = (k : ℕ) (s : Stop) → slice_get xs k ≢ Some (Fails s)

-- an outcome needs the text up to here: the end of its value, or after the last byte that says why there is none
abbrev pub need : Outcome → ℕ
need (found i j) = j
need (lacks q) = q + 1
need (fails s) = s.place + 1
need (cut s) = s.place

-- all outcomes need the text up to here: to the root's end where some path lacks its key, else to the furthest need
pub data IsEachReach (t : List ℕ) (os : List Outcome) (r : ℕ) : Type 0 where
  to_the_whole_root : SomeLacks os → IsWhole t r → IsEachReach t os r
  to_the_last_need : {o : Outcome} → ¬ SomeLacks os → Contains os o → r ≡ need o → ((p : Outcome) → Contains os p → need p ≤ r) → IsEachReach t os r

-- what each path is told, in the order of the paths, or one error and its place
pub data EachAnswer : Type 0 where
  outcomes : List (PathOutcome Span) → EachAnswer
  error : Stop → EachAnswer

-- what the outcomes of the paths come to, each by itself, over the text, which came as bytes that may be no UTF-8 or not
pub data ComeToEach (t : List ℕ) (is_bytes : Bool) : List Outcome → EachAnswer → Type 0 where
  -- no path asks for nothing, whatever the text is
  no_path_asks : ComeToEach t is_bytes [] (outcomes [])
  -- the text's fault, where it cuts a path
  some_path_cut : {os : List Outcome} {s : Stop} → Contains os (cut s) → IsRootFault t s → ComeToEach t is_bytes os (error s)
  -- or where a path lacks its key, as that asks for a whole text
  some_path_lacks : {os : List Outcome} {s : Stop} → NoneCut os → SomeLacks os → IsRootFault t s → ComeToEach t is_bytes os (error s)
  -- the first place where what is needed is broken
  need_broken : {os : List Outcome} {r : ℕ} {s : Stop} → NoneCut os → IsEachReach t os r → IsTrue is_bytes → ¬ IsUtf8 (take r t)
      → s ≡ record { place = valid_up_to (take r t); code = InvalidUTF8 } → ComeToEach t is_bytes os (error s)
  -- what each path is told
  each_told : {os : List Outcome} {r : ℕ} {xs : List (PathOutcome Span)} → NoneCut os → IsEachReach t os r → (IsTrue is_bytes → IsUtf8 (take r t))
      → AreTold os xs → ComeToEach t is_bytes os (outcomes xs)

-- the answer of the paths, each by itself, over the text, under a rule
pub record IsEachAnswerBy (r : KeyRule) (t : List ℕ) (is_bytes : Bool) (paths : List Path) (a : EachAnswer) : Type 0 where
  pub outcomes : List Outcome
  pub lead : AllLeadBy r t paths outcomes
  pub come_to : ComeToEach t is_bytes outcomes a

-- it is what each path is told
pub record IsEachTold (r : KeyRule) (t : List ℕ) (is_bytes : Bool) (paths : List Path) : Type 0 where
  pub told : List (PathOutcome Span)
  pub answer : IsEachAnswerBy r t is_bytes paths (outcomes told)

-- there is no memory, or the error is the answer of the paths, each by itself, under a rule
pub data IsEachRefusalBy (r : KeyRule) (t : List ℕ) (is_bytes : Bool) (paths : List Path) (e : Error) : Type 0 where
  each_out_of_memory : IsPlainError e NoMemory → IsEachRefusalBy r t is_bytes paths e
  each_refused : (s : Stop) → IsEachAnswerBy r t is_bytes paths (EachAnswer.error s) → IsErrorAt e s.code t s.place → IsEachRefusalBy r t is_bytes paths e
