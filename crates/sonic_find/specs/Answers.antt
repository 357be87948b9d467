-- What a list of paths is answered. Each path is read by itself, and the nearest place decides.
use Rattle.std.specs.Prelude.{◌≡◌, ℕ, ◌<◌, ◌≤◌, Bool, List, [], ◌∷◌, Option, Some, None, Contains, map, slice_range, take, IsTrue}
use Rattle.std.specs.Str.{IsUtf8}
use Rattle.sonic_error.specs.declared.code.ErrorCode.TheVariants.{InvalidUTF8, GetUnknownKeyInObject}
use Rattle.sonic_error.specs.Texts.{valid_up_to}
use Rattle.sonic_text.specs.declared.stop.Stop.{Stop}
use Rattle.sonic_text.specs.Documents.{IsWhole, IsRootFault}
use Rattle.sonic_text.specs.Paths.{Path}
use Rattle.sonic_text.specs.Places.{after_space}
use Rattle.sonic_find.specs.Paths.{Outcome, found, lacks, fails, cut, EvaluatesBy, Leads}
use Rattle.sonic_pointer.specs.declared.rule.KeyRule.{KeyRule}
use Rattle.sonic_pointer.specs.declared.rule.KeyRule.TheVariants.{First}

-- where each path leads under a rule from the place i, at which a value is expected, in order
pub data AllLeadFrom (r : KeyRule) (t : List ℕ) (i : ℕ) : List Path → List Outcome → Type 0 where
  no_more : AllLeadFrom r t i [] []
  one_more : {path : Path} {paths : List Path} {o : Outcome} {os : List Outcome} → EvaluatesBy r t i path o → AllLeadFrom r t i paths os
      → AllLeadFrom r t i (path ∷ paths) (o ∷ os)

-- and from the first byte that is no white space
abbrev pub AllLeadBy : KeyRule → List ℕ → List Path → List Outcome → Type 0
AllLeadBy r t paths os = AllLeadFrom r t (after_space t 0) paths os

-- some path fails at this stop: at the least place of all that fail, and of those that fail there it is the first
pub data IsNearest : List Outcome → Stop → Type 0 where
  nearest_here : {s : Stop} {os : List Outcome} → ((r : Stop) → Contains os (fails r) → s.place ≤ r.place) → IsNearest (fails s ∷ os) s
  nearest_later : {o : Outcome} {s : Stop} {os : List Outcome} → ((r : Stop) → o ≡ fails r → s.place < r.place) → IsNearest os s → IsNearest (o ∷ os) s

-- no path fails
abbrev pub NoneFails : List Outcome → Type 0
NoneFails os = (s : Stop) → ¬ Contains os (fails s)

-- no path is cut
abbrev pub NoneCut : List Outcome → Type 0
NoneCut os = (s : Stop) → ¬ Contains os (cut s)

-- some path lacks its key
abbrev pub SomeLacks : List Outcome → Type 0
SomeLacks os = (q : ℕ) × Contains os (lacks q)

-- the text is needed up to here: to the root's end where some path lacks its key, else to the furthest end that was found
pub data IsReach (t : List ℕ) (os : List Outcome) (r : ℕ) : Type 0 where
  to_the_root : SomeLacks os → IsWhole t r → IsReach t os r
  to_the_furthest : {i : ℕ} → ¬ SomeLacks os → Contains os (found i r) → ((a b : ℕ) → Contains os (found a b) → b ≤ r) → IsReach t os r

-- a span, from its first byte to after its last
abbrev pub Span : Type 0
Span = ℕ × ℕ

-- the bytes of a span
abbrev pub span_text : List ℕ → Span → List ℕ
span_text t span = slice_range t span.0 span.1

-- the span that was found, if one was
abbrev pub span_of : Outcome → Option Span
span_of (found i j) = Some (i, j)
span_of (lacks q) = None
span_of (fails s) = None
span_of (cut s) = None

-- the spans in the order of the paths, or one error and its place
pub data Answer : Type 0 where
  spans : List (Option Span) → Answer
  error : Stop → Answer

-- what the outcomes of the paths come to, over the text, which came as bytes that may be no UTF-8 or not
pub data ComeTo (t : List ℕ) (is_bytes : Bool) : List Outcome → Answer → Type 0 where
  -- no path asks for nothing, whatever the text is
  no_path : ComeTo t is_bytes [] (spans [])
  -- the nearest fail of all
  failing : {os : List Outcome} {s : Stop} → IsNearest os s → ComeTo t is_bytes os (error s)
  -- the text's fault, where it cuts a path
  cutting : {os : List Outcome} {s : Stop} → NoneFails os → Contains os (cut s) → IsRootFault t s → ComeTo t is_bytes os (error s)
  -- or where a path lacks its key, as that asks for a whole text
  lacking : {os : List Outcome} {s : Stop} → NoneFails os → NoneCut os → SomeLacks os → IsRootFault t s → ComeTo t is_bytes os (error s)
  -- the first place where what is needed is broken
  breaking : {os : List Outcome} {r : ℕ} {s : Stop} → NoneFails os → NoneCut os → IsReach t os r → IsTrue is_bytes → ¬ IsUtf8 (take r t)
      → s ≡ record { place = valid_up_to (take r t); code = InvalidUTF8 } → ComeTo t is_bytes os (error s)
  -- the spans, or nothing where a key is lacked
  finding : {os : List Outcome} {r : ℕ} {entries : List (Option Span)} → NoneFails os → NoneCut os → IsReach t os r
      → (IsTrue is_bytes → IsUtf8 (take r t)) → entries ≡ map span_of os → ComeTo t is_bytes os (spans entries)

-- the answer of the paths over the text, under a rule
pub record IsAnswerBy (r : KeyRule) (t : List ℕ) (is_bytes : Bool) (paths : List Path) (a : Answer) : Type 0 where
  pub outcomes : List Outcome
  pub lead : AllLeadBy r t paths outcomes
  pub come_to : ComeTo t is_bytes outcomes a

-- and by first equal keys
abbrev pub IsAnswer : List ℕ → Bool → List Path → Answer → Type 0
IsAnswer t is_bytes paths a = IsAnswerBy First t is_bytes paths a

-- what the outcome of one path alone comes to, over the text, which came as bytes that may be no UTF-8 or not
pub data ComesToAlone (t : List ℕ) (is_bytes : Bool) : Outcome → Answer → Type 0 where
  -- the span of its value, up to whose end the text is UTF-8
  value_found : {i j : ℕ} → (IsTrue is_bytes → IsUtf8 (take j t)) → ComesToAlone t is_bytes (found i j) (spans (Some (i, j) ∷ []))
  -- or the first place where that is broken
  value_broken : {i j : ℕ} {s : Stop} → IsTrue is_bytes → ¬ IsUtf8 (take j t) → s ≡ record { place = valid_up_to (take j t); code = InvalidUTF8 }
      → ComesToAlone t is_bytes (found i j) (error s)
  -- the closing brace of the object that lacks its key
  key_lacked : {q : ℕ} {s : Stop} → s ≡ record { place = q; code = GetUnknownKeyInObject } → ComesToAlone t is_bytes (lacks q) (error s)
  -- where it fails, or the fault that cuts it
  path_failed : {s : Stop} → ComesToAlone t is_bytes (fails s) (error s)
  path_cut : {s : Stop} → ComesToAlone t is_bytes (cut s) (error s)

-- the answer of one path alone
pub record IsGetAnswer (t : List ℕ) (is_bytes : Bool) (path : Path) (a : Answer) : Type 0 where
  pub outcome : Outcome
  pub leads : Leads t path outcome
  pub come_to : ComesToAlone t is_bytes outcome a
