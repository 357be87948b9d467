-- An item that is a child which was not visited: what stops in its value, and what is known after it.
use Rattle.std.proofs.Common.{◌≡◌, ◌≢◌, ◌⊎◌, inl, inr, sym, ℕ, ◌<◌, List, [], ◌∷◌, ◌++◌, Bool, true, false, set, refl, ◌∙◌}
use Rattle.std.proofs.lemmas.Bool.{cases_eq}
use Rattle.std.proofs.lemmas.List.{length-set}
use Rattle.std.proofs.lemmas.Option.{slice_get_within}
use Rattle.std.specs.Prelude.{Option, Some, slice_get}
use Rattle.sonic_find.proofs.PathLemmas.Lead.{named_leads}
use Rattle.sonic_find.proofs.PathLemmas.Rule.{by_named, by_first, plain_leads}
use Rattle.sonic_find.proofs.PathLemmas.Outcome.{by_one, fails_later_by, down_by}
use Rattle.sonic_find.proofs.WalkLemmas.List.{still_open, set_elsewhere}
use Rattle.sonic_find.proofs.WalkLemmas.Path.{contained, path_of_child, child_one, path_down, path_up, comes_down, settled_up, still_settled, cut_stops, stopped_up, FailsOrFaulty, fails_or_faulty}
use Rattle.sonic_find.proofs.WalkLemmas.Step.{OpenStopped, open_nearest, open_cause, wanted_cause, none_in_value}
use Rattle.sonic_find.specs.Internal.Walk.{Findings, child_point, LeadsAt, ComesTo, IsLater, AllSettled, IsCause, path_stops, value_stops, IsStop, Container, Progress, SomeOpen, IsUnvisited, IsWanted, IsContainer, IsFollowed, IsItemPassed, IsChildItem}
use Rattle.sonic_find.specs.Paths.{fails, cut, kind_of, IsNamed, LeadsBy}
use Rattle.sonic_find.specs.Paths.EvaluatesBy.{cut_before}
use Rattle.sonic_pointer.specs.Paths.{HasPrefix}
use Rattle.sonic_text.specs.Paths.{Node, Path}
use Rattle.sonic_text.specs.Strings.{strict}
use Rattle.sonic_text.specs.Values.{IsValue}
use Rattle.sonic_text.specs.Faults.{IsFault}
use Rattle.sonic_text.specs.Faults.IsFault.{in_value}
use Rattle.sonic_text.specs.declared.kind.Kind.TheVariants.{Array}
use Rattle.sonic_pointer.specs.declared.rule.KeyRule.TheVariants.{First}
use Rattle.sonic_text.specs.declared.stop.Stop.{Stop}

-- the value of the next item is expected at v, and it is a child that was not visited
pub record IsVisit (a : Container) (g : Progress) (v child : ℕ) : Type 0 where
  pub before : IsFollowed a g
  pub node : Node
  pub head : IsNamed a.point.asked.text a.kind g.passed g.next v node
  pub is : slice_get a.children child ≡ Some node
  pub unvisited : slice_get g.visited child ≡ Some false

-- so it is of an item whose child was not visited
pub is_visit : {a : Container} {g : Progress} {v child : ℕ} (number : Option ℕ) → IsFollowed a g → IsChildItem a g.passed g.next v number
    → (number ≡ Some child) × (slice_get g.visited child ≡ Some false) → IsVisit a g v child
is_visit number before x found =
    let y = rw found.0 at x in
    record { before = before; node = y.node; head = y.head; is = y.is; unvisited = found.1 }

-- the first item that a child names is the one that counts
plain_node : {a : Container} (node : Node) → IsContainer a → kind_of node ≡ a.kind → (a.point.asked.rule ≡ First) ⊎ (kind_of node ≡ Array)
plain_node node is same = elim is.plain [ inl e ↦ inl e | inr e ↦ inr (same ∙ e) ]

-- the child's node leads to that value
visits : {a : Container} {g : Progress} {v child : ℕ} (m : IsVisit a g v child) → LeadsBy a.point.asked.rule a.point.asked.text a.point.place m.node v
visits {a} {v = v} {child} m =
    plain_leads a.point.asked.rule a.point.asked.text a.point.place m.node v (plain_node m.node m.before.container (m.before.container.kind child m.node m.is))
    (named_leads (m.before.unvisited m.node (child, m.unvisited, m.is)) m.head)

-- and a fault of it is one of the container
visit_fault : {a : Container} {g : Progress} {v child : ℕ} {s : Stop} (m : IsVisit a g v child) → IsFault strict a.point.asked.text v s
    → IsFault strict a.point.asked.text a.point.place s
visit_fault m f = in_value m.before.fit m.head.head f

-- so does the prefix of the child
pub child_comes : {a : Container} {g : Progress} {v child : ℕ} (m : IsVisit a g v child) → ComesTo (child_point a.point m.node v)
child_comes m = comes_down m.node m.before.container.comes (visits m)

-- which some path has
pub child_prefix : {a : Container} {g : Progress} {v child : ℕ} (m : IsVisit a g v child) → HasPrefix a.point.asked.paths (a.point.prefix ++ m.node ∷ [])
child_prefix {a} {v = v} {child} m =
    let p = path_of_child a.point child m.node m.before.container.children m.is in
    record { rest = p.rest; path = contained a.point.asked.paths p.number (path_down a.point p.number m.node p.rest v p.is) }

-- a child that is open after the visit is another, and was open before
another : {a : Container} {g : Progress} {v child : ℕ} {other : Node} (m : IsVisit a g v child) → IsUnvisited a (set g.visited child true) other
    → (m.node ≢ other) × IsUnvisited a g.visited other
another {g = g} {child = child} m o =
    let was = still_open g.visited child o.0 (slice_get_within g.visited child false m.unvisited) o.1 in
    (λ same. was.0 (child_one o.0 child m.node m.before.container.children (rw (sym same) at o.2) m.is), (o.0, was.1, o.2))

-- a child that was open is the one that is visited, or stays open
one_or_open : {a : Container} {g : Progress} {v child : ℕ} {node : Node} (m : IsVisit a g v child) → IsUnvisited a g.visited node
    → (m.node ≡ node) ⊎ IsUnvisited a (set g.visited child true) node
one_or_open {a} {g} {child = child} {node} m o = elim (cases_eq o.0 child) [
  | inl same ↦ (let there : slice_get a.children child ≡ Some node = rw same at o.2 in inl (cc (m.is, there)))
  | inr other ↦ inr (o.0, set_elsewhere g.visited child o.0 true other ∙ o.1, o.2)
]

-- what is known after the visit
followed_after : {a : Container} {g : Progress} {v child : ℕ} {f : Findings} (m : IsVisit a g v child)
    → IsLater a.point.asked g.findings f → AllSettled (child_point a.point m.node v) f
    → IsFollowed a (record g { visited = set g.visited child true; findings = f })
followed_after {a} {g} {v} {child} m later settled = record {
  container = m.before.container;
  fit = m.before.fit;
  long = length-set g.visited child true ∙ m.before.long;
  unvisited = λ other o. m.before.unvisited other (another m o).1;
  settled = λ k node rest h. elim (m.before.settled k node rest h) [
    | inr done ↦ inr (still_settled later.kept h done)
    | inl ahead ↦ elim (one_or_open m ahead) [
      | inr still ↦ inl still
      | inl same ↦ inr (rw same at (settled_up a.point v k m.node rest settled (rw (← same) at h)))
    ]
  ];
  are = later.are;
}

-- so the item is passed
pub child_passed : {a : Container} {g : Progress} {v child e : ℕ} {f : Findings} (m : IsVisit a g v child)
    → IsLater a.point.asked g.findings f → AllSettled (child_point a.point m.node v) f
    → (IsWanted a (record g { visited = set g.visited child true; findings = f }) → IsValue strict a.point.asked.text v e)
    → IsItemPassed a (record g { visited = set g.visited child true; findings = f }) e
child_passed {v = v} m later settled value =
    record { before = followed_after m later settled; value_start = v; node = m.node; head = m.head; value = value; closed = λ o. (another m o).0 refl }

-- what stops in the child's value comes before each fail of another child
other_later : {a : Container} {g : Progress} {v child : ℕ} {other : Node} {s r : Stop} (rest : Path) (m : IsVisit a g v child) → m.node ≢ other
    → IsUnvisited a g.visited other → LeadsAt a.point (other ∷ rest) (fails r) → FailsOrFaulty (child_point a.point m.node v) s
    → s.place < r.place
other_later {a} {other = other} rest m differ o e (inl x) =
    fails_later_by x.0 rest (m.before.unvisited other o) m.head differ (by_named a.point.asked.rule m.node (visits m)) x.1 e
other_later {a} {other = other} {s} {r} rest m differ o e (inr f) =
    let none = none_in_value m.before m.head f differ o in
    let cuts : LeadsAt a.point (other ∷ rest) (cut s) =
    cut_before (visit_fault m f) (λ w l. by_first a.point.asked.rule other w l none) in
    let same : fails r ≡ cut s = by_one (other ∷ rest) e cuts in
    absurd cc

-- why the child's value stops the walk is why the container does
cause_up : {a : Container} {g : Progress} {v child : ℕ} {more : Bool} {s : Stop} (m : IsVisit a g v child)
    → (more ≡ true → IsWanted a (record g { visited = set g.visited child true })) → IsCause (child_point a.point m.node v) more s
    → IsCause a.point a.needs s
cause_up {a} {v = v} m wants (path_stops k rest is x) = path_stops k (m.node ∷ rest) (path_up a.point k m.node rest v is) (stopped_up (visits m) x)
cause_up m wants (value_stops f (inr lack)) = value_stops (visit_fault m f) (inr lack)
cause_up {a} {g} {child = child} {s = s} m wants (value_stops f (inl e)) =
    let fault = visit_fault m f in
    let all : OpenStopped a (set g.visited child true) s =
    (λ other rest o. (let was = another m o in cut_stops fault (none_in_value m.before m.head f was.0 was.1))) in
    let long = length-set g.visited child true ∙ m.before.long in
    wanted_cause a (record g { visited = set g.visited child true }) m.before.are fault (open_cause (set g.visited child true) m.before.container long all) (wants e)

-- so it stops there
pub child_stops : {a : Container} {g : Progress} {v child : ℕ} {more : Bool} {s : Stop} (m : IsVisit a g v child)
    → (more ≡ true → IsWanted a (record g { visited = set g.visited child true })) → IsStop (child_point a.point m.node v) more s → IsStop a.point a.needs s
child_stops {a} {v = v} m wants x = record {
  nearest = λ stops. open_nearest m.before stops (λ k node rest r h o e. elim (one_or_open m o) [
    | inl same ↦ x.nearest stops k rest r (path_down a.point k m.node rest v (rw same h)) (down_by (visits m) (rw same e))
    | inr still ↦ inr (other_later rest m (another m still).0 o e (fails_or_faulty x.cause))
  ]);
  fault = λ e. visit_fault m (x.fault e);
  cause = cause_up m wants x.cause;
}

-- what is wanted after it was asked for, or some path in it lacks its key
pub asked_or_lacks : {needs lacked lacking : Bool} (visited : List Bool) (more : Bool) → (more ≡ false → (needs ≡ false) × (lacked ≡ false) × ¬ SomeOpen visited)
    → (needs ≡ true) ⊎ (lacking ≡ true) ⊎ SomeOpen visited → (more ≡ true) ⊎ (lacking ≡ true)
asked_or_lacks visited true done w = inl refl
asked_or_lacks visited false done (inl needs) = (let none = (done refl).0 in absurd cc)
asked_or_lacks visited false done (inr (inl lack)) = inr lack
asked_or_lacks visited false done (inr (inr x)) = absurd ((done refl).2 x)
