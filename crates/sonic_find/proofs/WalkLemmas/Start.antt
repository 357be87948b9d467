-- How a walk begins with a value: no path goes on in it, or it is entered as a container.
use Rattle.std.proofs.Common.{◌≡◌, ◌≢◌, ◌⊎◌, ◌∙◌, inl, ap, sym, ℕ, ◌<◌, List, [], ◌∷◌, Bool, true, false, length, arith, refl, ◌+◌, ◌-◌}
use Rattle.std.proofs.lemmas.Option.{slice_get_within}
use Rattle.std.specs.Prelude.{Some, slice_get}
use Rattle.sonic_error.specs.declared.code.ErrorCode.TheVariants.{Message}
use Rattle.sonic_error.specs.declared.json_type.Note.TheVariants.{Mismatch}
use Rattle.sonic_find.proofs.PathLemmas.Lead.{first_unnamed, none_unopened, none_empty}
use Rattle.sonic_find.proofs.PathLemmas.Outcome.{nowhere_empty, nowhere_other}
use Rattle.sonic_find.proofs.WalkLemmas.List.{first_of}
use Rattle.sonic_find.proofs.WalkLemmas.Path.{held, child_at, path_of_child, stopped_one, cut_stops}
use Rattle.sonic_find.specs.Internal.Walk.{Findings, Point, Container, IsPath, LeadsAt, AreFindings, BelowSettled, IsCause, path_stops, IsStop, IsNoEntry, IsDead, IsUnopened, IsContainer, SomeOpen, IsFollowed}
use Rattle.sonic_find.specs.DeadEnds.{fails_so, cut_so}
use Rattle.sonic_find.specs.Paths.{fails, kind_of, empty_code, wanted_of, nowhere}
use Rattle.sonic_find.specs.Paths.EvaluatesBy.{cut_here, leads_nowhere}
use Rattle.sonic_pointer.specs.Paths.{HasPrefix, IsChildren}
use Rattle.sonic_text.specs.Faults.{IsFault}
use Rattle.sonic_text.specs.Paths.{Node, Path}
use Rattle.sonic_text.specs.Places.{byte, after_space}
use Rattle.sonic_text.specs.Strings.{strict}
use Rattle.sonic_text.specs.Values.{type_at, ItemsFit, opening, closing, IsValue, empty}
use Rattle.sonic_text.specs.declared.kind.Kind.{Kind}
use Rattle.sonic_text.specs.declared.stop.Stop.{Stop}

-- a list of no length is empty
pub none_counted : {X : Type 0} (xs : List X) → length xs ≡ 0 → xs ≡ []
none_counted [] e = refl
none_counted (x ∷ xs) e = absurd (omega (arith, e))

-- without children no path goes on after the prefix
none_on : (p : Point) {children : List Node} (k : ℕ) (node : Node) (rest : Path) → IsChildren p.asked.paths p.prefix children → children ≡ []
    → ¬ IsPath p k (node ∷ rest)
none_on p {children} k node rest all none h =
    let c = child_at p k node rest all h in
    omega (arith, slice_get_within children c.0 node c.1, ap length none)

-- so those below it are settled
pub leaf_settled : (p : Point) {children : List Node} {f : Findings} → IsChildren p.asked.paths p.prefix children → children ≡ [] → BelowSettled p f
leaf_settled p all none = λ k node rest h. absurd (none_on p k node rest all none h)

-- a path that ends at the prefix is cut by the value's fault
pub cut_at_end : {p : Point} {needs : Bool} {s : Stop} (k : ℕ) → IsPath p k [] → IsFault strict p.asked.text p.place s → IsCause p needs s
cut_at_end k h f = path_stops k [] h (cut_so (cut_here f))

-- and so are all where none goes on
leaf_cause : (p : Point) {children : List Node} {needs : Bool} {s : Stop} (k : ℕ) (rest : Path) → IsChildren p.asked.paths p.prefix children → children ≡ []
    → IsFault strict p.asked.text p.place s → IsPath p k rest → IsCause p needs s
leaf_cause p k [] all none f h = cut_at_end k h f
leaf_cause p k (node ∷ rest) all none f h = absurd (none_on p k node rest all none h)

-- none fails
leaf_nearest : (p : Point) {children : List Node} {s : Stop} → IsChildren p.asked.paths p.prefix children → children ≡ []
    → (k : ℕ) (rest : Path) (r : Stop) → IsPath p k rest → LeadsAt p rest (fails r) → (r ≡ s) ⊎ (s.place < r.place)
leaf_nearest p all none k [] r h e = elim e [ ]
leaf_nearest p all none k (node ∷ rest) r h e = absurd (none_on p k node rest all none h)

-- so the fault stops the walk
pub leaf_stops : (p : Point) {children : List Node} {needs : Bool} {s : Stop} → IsChildren p.asked.paths p.prefix children → children ≡ []
    → HasPrefix p.asked.paths p.prefix → IsFault strict p.asked.text p.place s → IsStop p needs s
leaf_stops p all none some f =
    let path = held p.asked.paths some.path in
    record { nearest = λ stops. leaf_nearest p all none; fault = λ e. f; cause = leaf_cause p path.0 some.rest all none f path.1 }

-- where each node is stopped for one reason, no path fails for another
entry_nearest : {a : Container} {s : Stop} → IsContainer a → IsNoEntry a.point.asked.text a.point.place a.kind s
    → (k : ℕ) (rest : Path) (r : Stop) → IsPath a.point k rest → LeadsAt a.point rest (fails r) → (r ≡ s) ⊎ (s.place < r.place)
entry_nearest is all k [] r h e = elim e [ ]
entry_nearest {a} is all k (node ∷ rest) r h e =
    let c = child_at a.point k node rest is.children h in
    inl (stopped_one (node ∷ rest) e (all a.point.asked.rule node rest (is.kind c.0 node c.1)))

-- before the first item nothing is passed, and no child was visited
pub first_followed : {a : Container} {h : ℕ} {visited : List Bool} {f : Findings} → IsContainer a → ItemsFit strict a.point.asked.text a.kind a.point.place 0 h
    → AreFindings a.point.asked f → length visited ≡ length a.children
    → ((c : ℕ) → c < length a.children → slice_get visited c ≡ Some false)
    → IsFollowed a (record { passed = 0; next = h; visited = visited; findings = f })
first_followed {a} is fit are long none = record {
  container = is;
  fit = fit;
  long = long;
  unvisited = λ node o. first_unnamed node fit;
  settled = λ k node rest h. (let c = child_at a.point k node rest is.children h in inl (c.0, none c.0 (slice_get_within a.children c.0 node c.1), c.1));
  are = are;
}

-- and some child is wanted
pub first_wanted : (a : Container) (visited : List Bool) → a.children ≢ [] → ((c : ℕ) → c < length a.children → slice_get visited c ≡ Some false)
    → SomeOpen visited
first_wanted a visited some none = let child = first_of a.children some in (0, none 0 (slice_get_within a.children 0 child.0 child.1))

-- in a value of another kind each node that asks for this one fails
pub dead_by_kind : {t : List ℕ} {i j : ℕ} {kind : Kind} {s : Stop} → IsValue strict t i j → byte t i ≢ opening kind
    → s ≡ record { place = j - 1; code = Message (Mismatch (type_at t i) (wanted_of kind)) } → IsDead t i kind s
dead_by_kind {t} {i} {j} {kind} {s} x other e = λ rule node rest same.
    let reported : fails s ≡ nowhere t i (j - 1) (kind_of node) = rw (same, nowhere_other t i (j - 1) kind other, e) refl in
    leads_nowhere x (λ v. none_unopened other node v same) reported

-- and in an empty one
pub dead_in_empty : {t : List ℕ} {i : ℕ} {kind : Kind} {s : Stop} → byte t i ≡ opening kind → byte t (after_space t (i + 1)) ≡ closing kind
    → s ≡ record { place = after_space t (i + 1); code = empty_code kind } → IsDead t i kind s
dead_in_empty {t} {i} {kind} {s} o c e = λ rule node rest same.
    let q = after_space t (i + 1) in
    let last : q + 1 - 1 ≡ q = omega arith in
    let reported : fails s ≡ nowhere t i (q + 1 - 1) (kind_of node) = rw (last, same, nowhere_empty t i q kind o c, e) refl in
    leads_nowhere (empty kind o c refl) (λ v. none_empty c node v same) reported

-- so a value of another kind is no entry
pub no_entry_by_kind : {t : List ℕ} {i j : ℕ} {kind : Kind} {s : Stop} → IsValue strict t i j → byte t i ≢ opening kind
    → s ≡ record { place = j - 1; code = Message (Mismatch (type_at t i) (wanted_of kind)) } → IsNoEntry t i kind s
no_entry_by_kind x other e = λ rule node rest same. fails_so (dead_by_kind x other e rule node rest same)

-- nor is one with a fault
pub no_entry_by_fault : {t : List ℕ} {i : ℕ} {kind : Kind} {s : Stop} → IsFault strict t i s → byte t i ≢ opening kind → IsNoEntry t i kind s
no_entry_by_fault f other = λ rule node rest same. cut_stops f (λ v. none_unopened other node v same)

-- or an empty one
pub no_entry_in_empty : {t : List ℕ} {i : ℕ} {kind : Kind} {s : Stop} → byte t i ≡ opening kind → byte t (after_space t (i + 1)) ≡ closing kind
    → s ≡ record { place = after_space t (i + 1); code = empty_code kind } → IsNoEntry t i kind s
no_entry_in_empty o c e = λ rule node rest same. fails_so (dead_in_empty o c e rule node rest same)

-- what is no container with items stops the walk, which goes on after a fail or not
pub entry_stops : {a : Container} {s : Stop} → IsContainer a → a.children ≢ [] → IsNoEntry a.point.asked.text a.point.place a.kind s
    → (a.point.asked.each ≡ true → IsFault strict a.point.asked.text a.point.place s) → IsStop a.point a.needs s
entry_stops {a} is some all fault =
    let child = first_of a.children some in
    let path = path_of_child a.point 0 child.0 is.children child.1 in
    record {
      nearest = λ stops. entry_nearest is all;
      fault = fault;
      cause = path_stops path.number (child.0 ∷ path.rest) path.is (all a.point.asked.rule child.0 path.rest (is.kind 0 child.0 child.1));
    }

-- a value with a fault that isn't opened stops it
pub unopened_stops : {a : Container} {s : Stop} → IsContainer a → a.children ≢ [] → IsUnopened a.point.asked.text a.kind a.point.place s → IsStop a.point a.needs s
unopened_stops is some x = entry_stops is some (no_entry_by_fault x.0 x.1) (λ e. x.0)

-- so does a value in which no node leads on, unless the walk goes on
pub dead_stops : {a : Container} {s : Stop} → IsContainer a → a.children ≢ [] → IsDead a.point.asked.text a.point.place a.kind s → a.point.asked.each ≡ false
    → IsStop a.point a.needs s
dead_stops is some dead stops =
    entry_stops is some (λ rule node rest same. fails_so (dead rule node rest same)) (λ e. (let clash : true ≡ false = sym e ∙ stops in absurd cc))
