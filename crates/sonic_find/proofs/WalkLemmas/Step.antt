-- An item of a container: what stops there, and what is known after it.
use Rattle.std.proofs.Common.{◌≡◌, ◌≢◌, ◌⊎◌, inl, inr, ℕ, ◌+◌, ◌<◌, List, [], ◌∷◌, Bool, true, false, length, arith, refl}
use Rattle.std.proofs.lemmas.Option.{slice_get_within}
use Rattle.std.specs.Prelude.{Option, Some, None, IfSome, slice_get}
use Rattle.sonic_find.proofs.PathLemmas.Lead.{none_leads, one_more_unnamed, not_named, past_value, past_byte, past_key}
use Rattle.sonic_find.proofs.WalkLemmas.List.{some_there}
use Rattle.sonic_find.proofs.WalkLemmas.Path.{contained, path_of_child, child_one, settled_no_fail, cut_stops, stopped_one}
use Rattle.sonic_find.specs.Internal.Walk.{IsPath, LeadsAt, StopsAt, AreFindings, IsCause, path_stops, value_stops, IsStop, Container, Progress, IsContainer, SomeOpen, IsUnvisited, IsWanted, IsFollowed, IsItemPassed, IsChildOf}
use Rattle.sonic_find.specs.Paths.{fails, IsNamed, LeadsOn}
use Rattle.sonic_parser.specs.Containers.{IsSeparated, IsSeparatorFault}
use Rattle.sonic_text.proofs.Items.{head_never_both}
use Rattle.sonic_text.proofs.Places.{after_space_later, byte_within}
use Rattle.sonic_text.proofs.Values.{head-later, value-longer}
use Rattle.sonic_text.specs.Faults.{IsFault, IsKeyFault, in_key, in_value, after_item}
use Rattle.sonic_text.specs.Paths.{Node, Path}
use Rattle.sonic_text.specs.Places.{byte, after_space}
use Rattle.sonic_text.specs.Strings.{strict}
use Rattle.sonic_text.specs.Values.{IsValue, ItemsFit, next_item}
use Rattle.sonic_text.specs.declared.kind.Kind.TheVariants.{Object}
use Rattle.sonic_text.specs.declared.stop.Stop.{Stop}

-- where some child was not visited, it is a node
pub open_node : (a : Container) (visited : List Bool) → length visited ≡ length a.children → (x : SomeOpen visited)
    → (node : Node) × IsUnvisited a visited node
open_node a visited long x =
    let within : x.0 < length a.children = omega (arith, slice_get_within visited x.0 false x.1, long) in
    let node = some_there a.children x.0 within in
    (node.0, (x.0, x.1, node.1))

-- no path fails before a stop where none does that goes on by a child that was not visited
pub open_nearest : {a : Container} {g : Progress} {s : Stop} → IsFollowed a g → a.point.asked.each ≡ false
    → ((k : ℕ) (node : Node) (rest : Path) (r : Stop) → IsPath a.point k (node ∷ rest) → IsUnvisited a g.visited node
    → LeadsAt a.point (node ∷ rest) (fails r) → (r ≡ s) ⊎ (s.place < r.place))
    → (k : ℕ) (rest : Path) (r : Stop) → IsPath a.point k rest → LeadsAt a.point rest (fails r) → (r ≡ s) ⊎ (s.place < r.place)
open_nearest l stops all k [] r h e = elim e [ ]
open_nearest l stops all k (node ∷ rest) r h e = elim (l.settled k node rest h) [
  | inl ahead ↦ all k node rest r h ahead e
  | inr done ↦ absurd (settled_no_fail l.container.comes stops done e)
]

-- each path that goes on by a child that was not visited is stopped so
abbrev pub OpenStopped : Container → List Bool → Stop → Type 0
OpenStopped a visited s = (node : Node) (rest : Path) → IsUnvisited a visited node → StopsAt a.point (node ∷ rest) s

-- and if there is one, it is the cause
pub open_cause : {a : Container} {s : Stop} (visited : List Bool) → IsContainer a → length visited ≡ length a.children → OpenStopped a visited s
    → SomeOpen visited → IsCause a.point a.needs s
open_cause {a} visited is long all x =
    let o = open_node a visited long x in
    let path = path_of_child a.point o.1.0 o.0 is.children o.1.2 in
    path_stops path.number (o.0 ∷ path.rest) path.is (all o.0 path.rest o.1)

-- then the walk stops
pub open_stops : {a : Container} {g : Progress} {s : Stop} → IsFollowed a g → OpenStopped a g.visited s
    → (a.point.asked.each ≡ true → IsFault strict a.point.asked.text a.point.place s) → IsCause a.point a.needs s → IsStop a.point a.needs s
open_stops l all fault cause = record {
  nearest = λ stops. open_nearest l stops (λ k node rest r h o e. inl (stopped_one (node ∷ rest) e (all node rest o)));
  fault = fault;
  cause = cause;
}

-- a fault is the cause where more is wanted
pub wanted_cause : (a : Container) (g : Progress) {s : Stop} → AreFindings a.point.asked g.findings → IsFault strict a.point.asked.text a.point.place s
    → (SomeOpen g.visited → IsCause a.point a.needs s) → IsWanted a g → IsCause a.point a.needs s
wanted_cause a g are f ahead (inl needs) = value_stops f (inl needs)
wanted_cause a g are f ahead (inr (inl lacking)) = value_stops f (inr (are.lack lacking))
wanted_cause a g are f ahead (inr (inr x)) = ahead x

-- a child that was not visited leads nowhere
abbrev pub NoneAhead : Container → List Bool → Type 0
NoneAhead a visited = (node : Node) (v : ℕ) → IsUnvisited a visited node → ¬ LeadsOn a.point.asked.text a.point.place node v

-- then a fault stops the walk
fault_stops : {a : Container} {g : Progress} {s : Stop} → IsFollowed a g → IsWanted a g → IsFault strict a.point.asked.text a.point.place s
    → NoneAhead a g.visited → IsStop a.point a.needs s
fault_stops {a} {g} {s} l wanted f none =
    let all : OpenStopped a g.visited s = (λ node rest o. cut_stops f (λ v. none node v o)) in
    open_stops l all (λ e. f) (wanted_cause a g l.are f (open_cause g.visited l.container l.long all) wanted)

-- so does a key that isn't there
pub key_stops : {a : Container} {g : Progress} {s : Stop} → IsFollowed a g → IsWanted a g → a.kind ≡ Object → IsKeyFault strict a.point.asked.text g.next s
    → IsStop a.point a.needs s
key_stops {a} {g} l wanted e f =
    let fit : ItemsFit strict a.point.asked.text Object a.point.place g.passed g.next = rw e at l.fit in
    fault_stops l wanted (in_key fit f)
    (λ node v o. none_leads (l.unvisited node o) (λ w y. head_never_both e y.head f) (past_key e l.fit f) v)

-- where the item's value has a fault, another child leads nowhere
pub none_in_value : {a : Container} {g : Progress} {v : ℕ} {node other : Node} {s : Stop} → IsFollowed a g
    → IsNamed a.point.asked.text a.kind g.passed g.next v node → IsFault strict a.point.asked.text v s → node ≢ other → IsUnvisited a g.visited other
    → (w : ℕ) → ¬ LeadsOn a.point.asked.text a.point.place other w
none_in_value {other = other} l head f differ o = none_leads (l.unvisited other o) (not_named head differ) (past_value l.fit head f)

-- a node that was not visited is none that was
other_node : (a : Container) (visited : List Bool) {node other : Node} → ¬ IsUnvisited a visited node → IsUnvisited a visited other → node ≢ other
other_node a visited closed o same = closed (rw same o)

-- a fault of the value of an item that is not followed
pub skip_stops : {a : Container} {g : Progress} {v : ℕ} {node : Node} {s : Stop} → IsFollowed a g → IsWanted a g
    → IsNamed a.point.asked.text a.kind g.passed g.next v node → ¬ IsUnvisited a g.visited node → IsFault strict a.point.asked.text v s → IsStop a.point a.needs s
skip_stops {a} {g} l wanted head closed f =
    fault_stops l wanted (in_value l.fit head.head f) (λ other w o. none_in_value l head f (other_node a g.visited closed o) o w)

-- after the item no child that was not visited leads on where no comma follows
pub none_ahead : {a : Container} {g : Progress} {e : ℕ} → IsItemPassed a g e → IsWanted a g → byte a.point.asked.text (after_space a.point.asked.text e) ≢ 44
    → NoneAhead a g.visited
none_ahead {a} {g} p wanted comma = λ other w o.
    none_leads (p.before.unvisited other o) (not_named p.head (other_node a g.visited p.closed o)) (past_byte p.before.fit p.head (p.value wanted) comma) w

-- what follows an item and doesn't fit
pub separator_stops : {a : Container} {g : Progress} {e : ℕ} {s : Stop} → IsItemPassed a g e → IsWanted a g → IsSeparatorFault a.point.asked.text a.kind e s
    → IsStop a.point a.needs s
separator_stops p wanted f =
    fault_stops p.before wanted (after_item p.before.fit p.head.head (p.value wanted) f.0 f.1) (none_ahead p wanted f.0.0)

-- after a comma the next item follows
pub next_followed : {a : Container} {g : Progress} {e h : ℕ} → IsItemPassed a g e → IsWanted a g → IsSeparated a.point.asked.text e h
    → IsFollowed a (record g { passed = g.passed + 1; next = h })
next_followed {a} {g} {h = h} p wanted comma =
    let more : g.passed + 1 ≡ g.passed + 1 = refl in
    let fit : ItemsFit strict a.point.asked.text a.kind a.point.place (g.passed + 1) h = next_item p.before.fit p.head.head (p.value wanted) comma.0 comma.1 more in
    record {
      container = p.before.container;
      fit = fit;
      long = p.before.long;
      unvisited = λ other o. one_more_unnamed (p.before.unvisited other o) p.head (other_node a g.visited p.closed o) fit more;
      settled = p.before.settled;
      are = p.before.are;
    }

-- an item that is not followed is passed
pub skip_passed : {a : Container} {g : Progress} {v e : ℕ} {node : Node} → IsFollowed a g → IsNamed a.point.asked.text a.kind g.passed g.next v node
    → ¬ IsUnvisited a g.visited node → IsValue strict a.point.asked.text v e → IsItemPassed a g e
skip_passed {v = v} {node = node} l head closed x = record { before = l; value_start = v; node = node; head = head; value = λ wanted. x; closed = closed }

-- an item whose child was visited, if it has one, is none that was not
pub closed : (a : Container) (visited : List Bool) {node : Node} (child : Option ℕ) → IsContainer a → IsChildOf a child node
    → IfSome child (λ c. slice_get visited c ≡ Some true) → ¬ IsUnvisited a visited node
closed a visited {node} (Some c) is here done o =
    let same : o.0 ≡ c = child_one o.0 c node is.children o.2 here in
    let there : slice_get visited c ≡ Some false = rw same at o.1 in
    let clash : Some true ≡ Some false = cc in
    absurd cc
closed a visited {node} None is none done o = none ((is.children.exact node).0 (contained a.children o.0 o.2))

-- the child of an item is one of those that are visited or not
pub child_within : (a : Container) (visited : List Bool) (node : Node) (child : Option ℕ) → length visited ≡ length a.children → IsChildOf a child node
    → IfSome child (λ c. c < length visited)
child_within a visited node (Some c) long is = omega (arith, slice_get_within a.children c node is, long)
child_within a visited node None long none = tt

-- an item ends after the place where it is expected
pub passed_later : {a : Container} {g : Progress} {e : ℕ} → IsItemPassed a g e → IsWanted a g → g.next < e
passed_later p wanted = omega (arith, head-later p.head.head, value-longer (p.value wanted))

-- and the next one is expected after that end, which lies within the text
pub separated_later : (t : List ℕ) (e : ℕ) {h : ℕ} → IsSeparated t e h → (e < h) × (e < length t)
separated_later t e c =
    let first = after_space_later t e in
    let within = byte_within t (after_space t e) (λ z. omega (arith, c.0, z)) in
    (omega (arith, first, after_space_later t (after_space t e + 1), c.1), omega (arith, first, within))
