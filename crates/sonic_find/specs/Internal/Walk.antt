-- What a walk knows that goes through a text once, and follows all paths of a tree in it.
use Rattle.std.specs.Prelude.{◌≡◌, ◌≢◌, ◌⊎◌, ℕ, ◌+◌, ◌<◌, ◌≤◌, Bool, true, false, List, [], ◌∷◌, ◌++◌, Option, Some, None, length, map, slice_get, take, IsTrue, IsFalse}
use Rattle.std.specs.Str.{IsUtf8}
use Rattle.sonic_error.specs.Texts.{valid_up_to}
use Rattle.sonic_error.specs.declared.code.ErrorCode.TheVariants.{InvalidUTF8}
use Rattle.sonic_text.specs.declared.kind.Kind.{Kind}
use Rattle.sonic_text.specs.declared.kind.Kind.TheVariants.{Array}
use Rattle.sonic_pointer.specs.declared.rule.KeyRule.{KeyRule}
use Rattle.sonic_pointer.specs.declared.rule.KeyRule.TheVariants.{First}
use Rattle.sonic_text.specs.declared.stop.Stop.{Stop}
use Rattle.sonic_text.specs.Places.{after_space, byte}
use Rattle.sonic_text.specs.Strings.{strict}
use Rattle.sonic_text.specs.Paths.{Node, Path}
use Rattle.sonic_text.specs.Values.{opening, IsValue, ItemsFit}
use Rattle.sonic_text.specs.Faults.{IsFault}
use Rattle.sonic_parser.specs.ValueSpans.{FlagsEscape}
use Rattle.sonic_parser.specs.declared.value_span.ValueSpan.{ValueSpan}
use Rattle.sonic_pointer.specs.Paths.{HasNextNode, IsChildren}
use Rattle.sonic_find.specs.declared.cursor.Dead.{Dead}
use Rattle.sonic_find.specs.declared.marks.Mark.{Mark}
use Rattle.sonic_find.specs.declared.outcome.PathOutcome.{PathOutcome}
use Rattle.sonic_find.specs.declared.outcome.PathOutcome.TheVariants.{Found, Missing, Fails}
use Rattle.sonic_find.specs.declared.span.Span.{Span}
use Rattle.sonic_find.specs.Answers.{AllLeadBy, NoneFails, NoneCut, Answer, IsAnswerBy}
use Rattle.sonic_find.specs.DeadEnds.{IsPathStop}
use Rattle.sonic_find.specs.Outcomes.{EachAnswer, IsEachAnswerBy, IsEachReach}
use Rattle.sonic_find.specs.Paths.{Outcome, found, lacks, fails, cut, kind_of, IsNamed, NoneNamed, EvaluatesBy}

-- what is asked of a text: where the paths lead by a rule from the value at the root, whether a walk goes on after one that fails, and whether a slot tells why its path has no value
pub record Question : Type 0 where
  pub rule : KeyRule
  pub text : List ℕ
  pub root : ℕ
  pub paths : List Path
  pub each : Bool
  pub tells : Bool

-- what a walk has found: the slot of each path, and whether some path lacks its key
pub record Findings : Type 0 where
  pub slots : List (PathOutcome Span)
  pub lacking : Bool

-- a walk: the text, the place that it has come to, what it has found, the rule for equal keys, where its paths begin, whether it goes on after one that fails, and what each prefix had last
pub record WalkState : Type 0 where
  pub text : List ℕ
  pub place : ℕ
  pub findings : Findings
  pub rule : KeyRule
  pub root : ℕ
  pub each : Bool
  pub marks : List Mark

-- a prefix of the paths that are asked for, and the place of the value to which it leads
pub record Point : Type 0 where
  pub asked : Question
  pub prefix : Path
  pub place : ℕ

-- a container at a point in whose items the children of the prefix are looked for, and whether it has to be read to its end
pub record Container : Type 0 where
  pub point : Point
  pub children : List Node
  pub kind : Kind
  pub needs : Bool

-- how far the items of a container were followed: how many were passed, the place of the next one, the children that were visited, and what was found
pub record Progress : Type 0 where
  pub passed : ℕ
  pub next : ℕ
  pub visited : List Bool
  pub findings : Findings

-- the root, to which the empty prefix leads
abbrev pub root_point : Question → Point
root_point q = record { asked = q; prefix = []; place = q.root }

-- the point of a child, whose value is expected at v
abbrev pub child_point : Point → Node → ℕ → Point
child_point p node v = record { asked = p.asked; prefix = p.prefix ++ node ∷ []; place = v }

-- where a path leads from the root
abbrev pub LeadsFrom : Question → Path → Outcome → Type 0
LeadsFrom q path o = EvaluatesBy q.rule q.text q.root path o

-- where the rest of a path leads from a point
abbrev pub LeadsAt : Point → Path → Outcome → Type 0
LeadsAt p rest o = EvaluatesBy p.asked.rule p.asked.text p.place rest o

-- and how it stops there
abbrev pub StopsAt : Point → Path → Stop → Type 0
StopsAt p rest s = IsPathStop p.asked.rule p.asked.text p.place rest s

-- the path with the number k begins with the prefix, and goes on with the rest
abbrev pub IsPath : Point → ℕ → Path → Type 0
IsPath p k rest = slice_get p.asked.paths k ≡ Some (p.prefix ++ rest)

-- some path lacks its key
pub record SomeLack (q : Question) : Type 0 where
  pub number : ℕ
  pub path : Path
  pub place : ℕ
  pub is : slice_get q.paths number ≡ Some path
  pub leads : LeadsFrom q path (lacks place)

-- there is a slot for each path, and some path lacks its key where that is noted
pub record AreFindings (q : Question) (f : Findings) : Type 0 where
  pub long : length f.slots ≡ length q.paths
  pub lack : IsTrue f.lacking → SomeLack q

-- what a slot holds of an outcome
abbrev pub slot_of : Bool → Outcome → PathOutcome Span
slot_of tells (found i j) = Found (record { start = i; end = j })
slot_of true (lacks p) = Missing p
slot_of true (fails s) = Fails s
slot_of true (cut s) = Missing 0
slot_of false (lacks p) = Missing 0
slot_of false (fails s) = Missing 0
slot_of false (cut s) = Missing 0

-- where the path with the number k leads is known: its slot says so, and where it lacks its key, that some path does is noted
pub data IsKnown (q : Question) (f : Findings) (k : ℕ) (path : Path) : Type 0 where
  was_found : {i j : ℕ} → LeadsFrom q path (found i j) → slice_get f.slots k ≡ Some (slot_of q.tells (found i j)) → IsKnown q f k path
  was_lacked : {p : ℕ} → LeadsFrom q path (lacks p) → slice_get f.slots k ≡ Some (slot_of q.tells (lacks p)) → IsTrue f.lacking → IsKnown q f k path
  has_failed : {s : Stop} → LeadsFrom q path (fails s) → slice_get f.slots k ≡ Some (slot_of q.tells (fails s)) → IsKnown q f k path

-- what is known of a path stays known
abbrev pub Keeps : Question → Findings → Findings → Type 0
Keeps q before now = (k : ℕ) (path : Path) → slice_get q.paths k ≡ Some path → IsKnown q before k path → IsKnown q now k path

-- they are findings, and what was known stays so
pub record IsLater (q : Question) (before now : Findings) : Type 0 where
  pub are : AreFindings q now
  pub kept : Keeps q before now
  pub lack : IsTrue before.lacking → IsTrue now.lacking

-- it is known, and it doesn't fail where the walk stops at a path that does
pub record IsSettled (q : Question) (f : Findings) (k : ℕ) (path : Path) : Type 0 where
  pub known : IsKnown q f k path
  pub goes : IsFalse q.each → (s : Stop) → ¬ LeadsFrom q path (fails s)

-- so it is for each path with the prefix
abbrev pub AllSettled : Point → Findings → Type 0
AllSettled p f = (k : ℕ) (rest : Path) → IsPath p k rest → IsSettled p.asked f k (p.prefix ++ rest)

-- for each that goes on after the prefix
abbrev pub BelowSettled : Point → Findings → Type 0
BelowSettled p f = (k : ℕ) (node : Node) (rest : Path) → IsPath p k (node ∷ rest) → IsSettled p.asked f k (p.prefix ++ node ∷ rest)

-- from the root the prefix leads to the place
pub record ComesTo (p : Point) : Type 0 where
  pub up : (rest : Path) (o : Outcome) → LeadsAt p rest o → LeadsFrom p.asked (p.prefix ++ rest) o
  pub fault : (s : Stop) → IsFault strict p.asked.text p.place s → IsFault strict p.asked.text p.asked.root s

-- no path with the prefix fails before this stop, and none that fails at its place does so for another reason
abbrev pub NoneNearer : Point → Stop → Type 0
NoneNearer p s = (k : ℕ) (rest : Path) (r : Stop) → IsPath p k rest → LeadsAt p rest (fails r) → (r ≡ s) ⊎ (s.place < r.place)

-- some path with the prefix is stopped so, or the value has this fault and has to be whole: as it is asked for, or as some path lacks its key
pub data IsCause (p : Point) (needs : Bool) (s : Stop) : Type 0 where
  path_stops : (k : ℕ) (rest : Path) → IsPath p k rest → StopsAt p rest s → IsCause p needs s
  value_stops : IsFault strict p.asked.text p.place s → IsTrue needs ⊎ SomeLack p.asked → IsCause p needs s

-- why the walk stops inside the value at a point: at the nearest fail, or the value's fault, which alone stops a walk that goes on after a fail
pub record IsStop (p : Point) (needs : Bool) (s : Stop) : Type 0 where
  pub nearest : IsFalse p.asked.each → NoneNearer p s
  pub fault : IsTrue p.asked.each → IsFault strict p.asked.text p.place s
  pub cause : IsCause p needs s

-- no container of this kind with an item begins at i: each node that asks for one is stopped so, under each rule
abbrev pub IsNoEntry : List ℕ → ℕ → Kind → Stop → Type 0
IsNoEntry t i kind s = (rule : KeyRule) (node : Node) (rest : Path) → kind_of node ≡ kind → IsPathStop rule t i (node ∷ rest) s

-- the value from i to j was passed, and it says whether it is a string with a backslash
pub record IsPassedValue (t : List ℕ) (i j : ℕ) (x : ValueSpan) : Type 0 where
  pub value : IsValue strict t i j
  pub begins : x.start ≡ i
  pub ends : x.end ≡ j
  pub escaped : FlagsEscape t x

-- and so, though the text fits up to the stop
abbrev pub IsDead : List ℕ → ℕ → Kind → Stop → Type 0
IsDead t i kind s = (rule : KeyRule) (node : Node) (rest : Path) → kind_of node ≡ kind → EvaluatesBy rule t i (node ∷ rest) (fails s)

-- the value from i to j was passed, in which no node of this kind leads on
pub record IsPassedDead (t : List ℕ) (kind : Kind) (i j : ℕ) (d : Dead) : Type 0 where
  pub value : IsPassedValue t i j d.value
  pub dead : IsDead t i kind d.stop

-- the value at i has this fault, and is no container of this kind
abbrev pub IsUnopened : List ℕ → Kind → ℕ → Stop → Type 0
IsUnopened t kind i s = IsFault strict t i s × (byte t i ≢ opening kind)

-- the children of the prefix are all of the kind that leads on in the container, in which the first item that is named is the one that counts
pub record IsContainer (a : Container) : Type 0 where
  pub plain : (a.point.asked.rule ≡ First) ⊎ (a.kind ≡ Array)
  pub comes : ComesTo a.point
  pub children : IsChildren a.point.asked.paths a.point.prefix a.children
  pub kind : (c : ℕ) (node : Node) → slice_get a.children c ≡ Some node → kind_of node ≡ a.kind

-- some child was not visited
abbrev pub SomeOpen : List Bool → Type 0
SomeOpen visited = (c : ℕ) × (slice_get visited c ≡ Some false)

-- the node is a child that was not visited
abbrev pub IsUnvisited : Container → List Bool → Node → Type 0
IsUnvisited a visited node = (c : ℕ) × (slice_get visited c ≡ Some false) × (slice_get a.children c ≡ Some node)

-- more is needed: the whole value, as it is asked for or as some path lacks its key, or a child
abbrev pub IsWanted : Container → Progress → Type 0
IsWanted a g = IsTrue a.needs ⊎ IsTrue g.findings.lacking ⊎ SomeOpen g.visited

-- of all before the next item everything is known: a child that was not visited is still to come, and the paths of the others are settled
pub record IsFollowed (a : Container) (g : Progress) : Type 0 where
  pub container : IsContainer a
  pub fit : ItemsFit strict a.point.asked.text a.kind a.point.place g.passed g.next
  pub long : length g.visited ≡ length a.children
  pub unvisited : (node : Node) → IsUnvisited a g.visited node → NoneNamed a.point.asked.text a.point.place a.kind g.passed g.next node
  pub settled : (k : ℕ) (node : Node) (rest : Path) → IsPath a.point k (node ∷ rest)
      → IsUnvisited a g.visited node ⊎ IsSettled a.point.asked g.findings k (a.point.prefix ++ node ∷ rest)
  pub are : AreFindings a.point.asked g.findings

-- so it is of the next item, too, which was passed up to its end e if more is needed
pub record IsItemPassed (a : Container) (g : Progress) (e : ℕ) : Type 0 where
  pub before : IsFollowed a g
  pub value_start : ℕ
  pub node : Node
  pub head : IsNamed a.point.asked.text a.kind g.passed g.next value_start node
  pub value : IsWanted a g → IsValue strict a.point.asked.text value_start e
  pub closed : ¬ IsUnvisited a g.visited node

-- the number of the child that a node is, if it is one
abbrev pub IsChildOf : Container → Option ℕ → Node → Type 0
IsChildOf a (Some c) node = slice_get a.children c ≡ Some node
IsChildOf a None node = ¬ HasNextNode a.point.asked.paths a.point.prefix node

-- the n-th item, which is expected at h, has its value expected at v, and is this child
pub record IsChildItem (a : Container) (n h v : ℕ) (child : Option ℕ) : Type 0 where
  pub node : Node
  pub head : IsNamed a.point.asked.text a.kind n h v node
  pub is : IsChildOf a child node

-- these slots hold this now, and all others what they held
pub record AreSet {X : Type 0} (Is : ℕ → Type 0) (before now : List X) (x : X) : Type 0 where
  pub long : length now ≡ length before
  pub filled : (k : ℕ) → Is k → slice_get now k ≡ Some x
  pub each : (k : ℕ) → (slice_get now k ≡ slice_get before k) ⊎ Is k × (slice_get now k ≡ Some x)

-- the path with this number begins with the prefix
abbrev pub Begins : List Path → Path → ℕ → Type 0
Begins paths prefix k = (rest : Path) × (slice_get paths k ≡ Some (prefix ++ rest))

-- it goes on by one of the children of which this holds, by their numbers
abbrev pub GoesBy : List Path → Path → List Node → (ℕ → Type 0) → ℕ → Type 0
GoesBy paths prefix children Is k = (c : ℕ) × (node : Node) × (rest : Path) × Is c × (slice_get children c ≡ Some node) × (slice_get paths k ≡ Some (prefix ++ node ∷ rest))

-- a child was not visited
abbrev pub IsOpen : List Bool → ℕ → Type 0
IsOpen visited c = slice_get visited c ≡ Some false

-- what a slot needs of the text
abbrev pub slot_need : PathOutcome Span → ℕ
slot_need (Found s) = s.end
slot_need (Missing p) = p + 1
slot_need (Fails s) = s.place + 1

-- this is the furthest need of the slots, or there is none
pub record IsFurthest (slots : List (PathOutcome Span)) (r : ℕ) : Type 0 where
  pub all : (k : ℕ) (x : PathOutcome Span) → slice_get slots k ≡ Some x → slot_need x ≤ r
  pub some : (r ≡ 0) ⊎ (k : ℕ) × (x : PathOutcome Span) × (slice_get slots k ≡ Some x) × (slot_need x ≡ r)

-- where the paths of a tree lead from the first value of a text, for a walk that goes on after a fail or not
abbrev pub whole_question : KeyRule → List ℕ → List Path → Bool → Question
whole_question rule t paths each = record { rule = rule; text = t; root = after_space t 0; paths = paths; each = each; tells = true }

-- the paths are answered with this error, whose place lies within the text
pub record IsError (rule : KeyRule) (t : List ℕ) (is_bytes : Bool) (paths : List Path) (s : Stop) : Type 0 where
  pub answer : IsAnswerBy rule t is_bytes paths (Answer.error s)
  pub within : s.place ≤ length t

-- so they are, each by itself
pub record IsEachError (rule : KeyRule) (t : List ℕ) (is_bytes : Bool) (paths : List Path) (s : Stop) : Type 0 where
  pub answer : IsEachAnswerBy rule t is_bytes paths (EachAnswer.error s)
  pub within : s.place ≤ length t

-- each path leads to an outcome that its slot tells, none fails where the walk stops at that, and the text is needed up to r
pub record AllReached (rule : KeyRule) (t : List ℕ) (paths : List Path) (each : Bool) (slots : List (PathOutcome Span)) (r : ℕ) : Type 0 where
  pub outcomes : List Outcome
  pub lead : AllLeadBy rule t paths outcomes
  pub none_fails : IsFalse each → NoneFails outcomes
  pub none_cut : NoneCut outcomes
  pub told : slots ≡ map (slot_of true) outcomes
  pub reach : IsEachReach t outcomes r
  pub within : r ≤ length t

-- so it is for some r, up to which the text is UTF-8 where it came as bytes
pub record IsAllReached (rule : KeyRule) (t : List ℕ) (is_bytes : Bool) (paths : List Path) (each : Bool) (slots : List (PathOutcome Span)) : Type 0 where
  pub place : ℕ
  pub reached : AllReached rule t paths each slots place
  pub utf8 : IsTrue is_bytes → IsUtf8 (take place t)

-- why no outcome is told: the walk stops there, or what all outcomes need isn't UTF-8
pub data IsRefused (rule : KeyRule) (t : List ℕ) (is_bytes : Bool) (paths : List Path) (each : Bool) (s : Stop) : Type 0 where
  has_stopped : IsStop (root_point (whole_question rule t paths each)) false s → IsRefused rule t is_bytes paths each s
  is_broken : {slots : List (PathOutcome Span)} {r : ℕ} → AllReached rule t paths each slots r → IsTrue is_bytes → ¬ IsUtf8 (take r t)
      → s ≡ record { place = valid_up_to (take r t); code = InvalidUTF8 } → s.place ≤ length t → IsRefused rule t is_bytes paths each s
