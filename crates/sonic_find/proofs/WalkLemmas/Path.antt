-- The paths with a prefix: how they go on by its children, which of them are settled, and which are stopped.
use Rattle.std.proofs.Common.{◌≡◌, ◌≢◌, ◌⊎◌, ◌∙◌, inl, inr, sym, refl, ℕ, List, ◌∷◌, ◌++◌, Bool, true, false, append_assoc, get_or}
use Rattle.std.proofs.lemmas.Bool.{cases_order}
use Rattle.std.proofs.lemmas.Option.{slice_get_within, slice_get-get_or, get_or_from_slice_get}
use Rattle.std.specs.List.{Contains}
use Rattle.std.specs.Prelude.{Some, slice_get}
use Rattle.sonic_find.proofs.PathLemmas.Rule.{by_first, by_fault}
use Rattle.sonic_find.proofs.PathLemmas.Outcome.{cut_is_fault, by_one}
use Rattle.sonic_find.specs.Internal.Walk.{Question, Findings, Keeps, Point, child_point, LeadsFrom, LeadsAt, IsPath, AreFindings, SomeLack, IsLater, IsKnown, was_found, was_lacked, has_failed, IsSettled, AllSettled, ComesTo, IsCause, path_stops, value_stops, AreSet, slot_of}
use Rattle.sonic_find.specs.DeadEnds.{IsPathStop, fails_so, cut_so}
use Rattle.sonic_find.specs.declared.outcome.PathOutcome.{PathOutcome}
use Rattle.sonic_find.specs.declared.span.Span.{Span}
use Rattle.sonic_find.specs.Paths.{Outcome, found, lacks, fails, cut, LeadsOn, LeadsBy, EvaluatesBy}
use Rattle.sonic_find.specs.Paths.EvaluatesBy.{goes_on, cut_before}
use Rattle.sonic_pointer.specs.Paths.{IsChildren}
use Rattle.sonic_text.specs.Faults.{IsFault}
use Rattle.sonic_text.specs.Paths.{Node, Path}
use Rattle.sonic_text.specs.Strings.{strict}
use Rattle.sonic_text.specs.declared.stop.Stop.{Stop}
use Rattle.sonic_pointer.specs.declared.rule.KeyRule.{KeyRule}

-- an element of a list is at some place of it
pub held : {X : Type 0} (xs : List X) {x : X} → Contains xs x → (k : ℕ) × (slice_get xs k ≡ Some x)
held xs {x} c =
    let read : slice_get xs c.0 ≡ Some (get_or xs c.0 x) = slice_get-get_or xs c.0 x c.1 in
    (c.0, rw c.2 at read)

-- and what is at a place is an element
pub contained : {X : Type 0} (xs : List X) (k : ℕ) {x : X} → slice_get xs k ≡ Some x → Contains xs x
contained xs k {x} h = (k, slice_get_within xs k x h, get_or_from_slice_get xs k x x h)

-- a path that goes on after the prefix goes on by a child
pub child_at : (p : Point) {children : List Node} (k : ℕ) (node : Node) (rest : Path) → IsChildren p.asked.paths p.prefix children → IsPath p k (node ∷ rest)
    → (c : ℕ) × (slice_get children c ≡ Some node)
child_at p {children} k node rest all h = held children ((all.exact node).1 (record { rest = rest; path = contained p.asked.paths k h }))

-- some path goes on after the prefix by this node
pub record GoesOn (p : Point) (node : Node) : Type 0 where
  pub number : ℕ
  pub rest : Path
  pub is : IsPath p number (node ∷ rest)

-- by each child some path goes on
pub path_of_child : (p : Point) {children : List Node} (c : ℕ) (node : Node) → IsChildren p.asked.paths p.prefix children → slice_get children c ≡ Some node
    → GoesOn p node
path_of_child p {children} c node all h =
    let next = (all.exact node).0 (contained children c h) in
    let k = held p.asked.paths next.path in
    record { number = k.0; rest = next.rest; is = k.1 }

-- a child is at one place
pub child_one : {paths : List Path} {prefix : Path} {children : List Node} (c d : ℕ) (node : Node) → IsChildren paths prefix children
    → slice_get children c ≡ Some node → slice_get children d ≡ Some node → c ≡ d
child_one {children = children} c d node all h g =
    let a = get_or_from_slice_get children c node node h in
    let b = get_or_from_slice_get children d node node g in
    let l = slice_get_within children c node h in
    let m = slice_get_within children d node g in
    elim (cases_order c d) [
      | inl e ↦ e
      | inr (inl k) ↦ absurd (all.distinct c d node k m (cc (a, b)))
      | inr (inr k) ↦ absurd (all.distinct d c node k l (cc (a, b)))
    ]

-- a path that goes on after the prefix begins with the child's prefix
pub path_down : (p : Point) (k : ℕ) (node : Node) (rest : Path) (v : ℕ) → IsPath p k (node ∷ rest) → IsPath (child_point p node v) k rest
path_down p k node rest v h = rw append_assoc h

-- and the other way round
pub path_up : (p : Point) (k : ℕ) (node : Node) (rest : Path) (v : ℕ) → IsPath (child_point p node v) k rest → IsPath p k (node ∷ rest)
path_up p k node rest v h = rw append_assoc at h

-- the prefix leads on to a child
pub comes_down : {p : Point} {v : ℕ} (node : Node) → ComesTo p → LeadsBy p.asked.rule p.asked.text p.place node v → ComesTo (child_point p node v)
comes_down {p} node comes l = record {
  up = λ rest o e. rw append_assoc (comes.up (node ∷ rest) o (goes_on l e));
  fault = λ s f. comes.fault s (by_fault p.asked.rule node l f);
}

-- where the paths of a child are settled, each of them is
pub settled_up : (p : Point) (v : ℕ) {f : Findings} (k : ℕ) (node : Node) (rest : Path) → AllSettled (child_point p node v) f → IsPath p k (node ∷ rest)
    → IsSettled p.asked f k (p.prefix ++ node ∷ rest)
settled_up p v k node rest all h = rw append_assoc at (all k rest (path_down p k node rest v h))

-- what is settled fails nowhere, where a walk stops at a fail
pub settled_no_fail : {p : Point} {rest : Path} {k : ℕ} {f : Findings} {r : Stop} → ComesTo p → p.asked.each ≡ false
    → IsSettled p.asked f k (p.prefix ++ rest) → ¬ LeadsAt p rest (fails r)
settled_no_fail {p} {rest} {r = r} comes stops x e = x.goes stops r (comes.up rest (fails r) e)

-- where a path leads is known by its slot
pub known_by : {q : Question} {f : Findings} {k : ℕ} {path : Path} (o : Outcome) → ((s : Stop) → o ≢ cut s) → LeadsFrom q path o
    → slice_get f.slots k ≡ Some (slot_of q.tells o) → ((p : ℕ) → o ≡ lacks p → f.lacking ≡ true) → IsKnown q f k path
known_by (found i j) uncut l h lack = was_found l h
known_by (lacks p) uncut l h lack = was_lacked l h (lack p refl)
known_by (fails s) uncut l h lack = has_failed l h
known_by (cut s) uncut l h lack = absurd (uncut s refl)

-- what is known stays so in an equal slot
pub still_known : {q : Question} {before now : Findings} {k : ℕ} {path : Path} → slice_get now.slots k ≡ slice_get before.slots k
    → (before.lacking ≡ true → now.lacking ≡ true) → IsKnown q before k path → IsKnown q now k path
still_known same lack (was_found l h) = was_found l (same ∙ h)
still_known same lack (was_lacked l h e) = was_lacked l (same ∙ h) (lack e)
still_known same lack (has_failed l h) = has_failed l (same ∙ h)

-- and what is settled
pub still_settled : {q : Question} {before now : Findings} {k : ℕ} {path : Path} → Keeps q before now → slice_get q.paths k ≡ Some path
    → IsSettled q before k path → IsSettled q now k path
still_settled {k = k} {path} keeps is x = record { known = keeps k path is x.known; goes = x.goes }

-- findings stay as they are
pub not_later : {q : Question} {f : Findings} → AreFindings q f → IsLater q f f
not_later are = record { are = are; kept = λ k path is x. x; lack = λ e. e }

-- what is later than later findings is later
pub later_twice : {q : Question} {a b c : Findings} → IsLater q a b → IsLater q b c → IsLater q a c
later_twice f g = record { are = g.are; kept = λ k path is x. g.kept k path is (f.kept k path is x); lack = λ e. g.lack (f.lack e) }

-- some of the slots are set to where their paths lead
pub record IsFilling (q : Question) (Is : ℕ → Type 0) (o : Outcome) : Type 0 where
  pub uncut : (s : Stop) → o ≢ cut s
  pub each : (k : ℕ) (path : Path) → slice_get q.paths k ≡ Some path → Is k → LeadsFrom q path o

-- then what was known stays so
pub filled_keeps : {q : Question} {Is : ℕ → Type 0} {before now : Findings} (o : Outcome) → IsFilling q Is o
    → AreSet Is before.slots now.slots (slot_of q.tells o) → ((k p : ℕ) → Is k → o ≡ lacks p → now.lacking ≡ true)
    → (before.lacking ≡ true → now.lacking ≡ true) → Keeps q before now
filled_keeps o fill set noted lack k path is x = elim (set.each k) [
  | inl same ↦ still_known same lack x
  | inr here ↦ known_by o fill.uncut (fill.each k path is here.0) here.1 (λ p e. noted k p here.0 e)
]

-- and the paths are known
pub filled_known : {q : Question} {Is : ℕ → Type 0} {before : List (PathOutcome Span)} {now : Findings} {k : ℕ} {path : Path} (o : Outcome) → IsFilling q Is o
    → AreSet Is before now.slots (slot_of q.tells o) → ((k p : ℕ) → Is k → o ≡ lacks p → now.lacking ≡ true)
    → slice_get q.paths k ≡ Some path → Is k → IsKnown q now k path
filled_known {k = k} {path} o fill set noted is here =
    known_by o fill.uncut (fill.each k path is here) (set.filled k here) (λ p e. noted k p here e)

-- so the findings are later
pub filled_later : {q : Question} {Is : ℕ → Type 0} {before now : Findings} (o : Outcome) → IsFilling q Is o
    → AreSet Is before.slots now.slots (slot_of q.tells o) → ((k p : ℕ) → Is k → o ≡ lacks p → now.lacking ≡ true)
    → (before.lacking ≡ true → now.lacking ≡ true) → (now.lacking ≡ true → SomeLack q) → AreFindings q before → IsLater q before now
filled_later o fill set noted still some are = record {
  are = record { long = set.long ∙ are.long; lack = some };
  kept = filled_keeps o fill set noted still;
  lack = still;
}

-- a path that leads to another outcome doesn't fail
pub settled_by : {q : Question} {f : Findings} {k : ℕ} {path : Path} (o : Outcome) → IsKnown q f k path → LeadsFrom q path o
    → ((s : Stop) → o ≡ fails s → q.each ≡ true) → IsSettled q f k path
settled_by {q} {path = path} o known leads why = record {
  known = known;
  goes = λ stops s l.
      let same : o ≡ fails s = by_one path leads l in
      let clash : true ≡ false = sym (why s same) ∙ stops in
      absurd cc;
}

-- a path whose node leads nowhere is cut by the value's fault
pub cut_stops : {t : List ℕ} {i : ℕ} {node : Node} {rest : Path} {s : Stop} {rule : KeyRule} → IsFault strict t i s → ((v : ℕ) → ¬ LeadsOn t i node v)
    → IsPathStop rule t i (node ∷ rest) s
cut_stops {node = node} {rule = rule} f none = cut_so (cut_before f (λ v l. by_first rule node v l none))

-- a path is stopped where its rest is
pub stopped_up : {t : List ℕ} {i v : ℕ} {node : Node} {rest : Path} {s : Stop} {rule : KeyRule} → LeadsBy rule t i node v → IsPathStop rule t v rest s → IsPathStop rule t i (node ∷ rest) s
stopped_up l (fails_so e) = fails_so (goes_on l e)
stopped_up l (cut_so e) = cut_so (goes_on l e)

-- a path that fails is stopped so, and nowhere else
pub stopped_one : {t : List ℕ} {i : ℕ} {r s : Stop} {rule : KeyRule} (path : Path) → EvaluatesBy rule t i path (fails r) → IsPathStop rule t i path s → r ≡ s
stopped_one {r = r} {s} path e (fails_so x) = let same : fails r ≡ fails s = by_one path e x in cc
stopped_one {r = r} {s} path e (cut_so x) = let same : fails r ≡ cut s = by_one path e x in absurd cc

-- a path fails so, or the value has this fault
abbrev pub FailsOrFaulty : Point → Stop → Type 0
FailsOrFaulty p s = ((rest : Path) × LeadsAt p rest (fails s)) ⊎ IsFault strict p.asked.text p.place s

-- so it is of each cause
pub fails_or_faulty : {p : Point} {needs : Bool} {s : Stop} → IsCause p needs s → FailsOrFaulty p s
fails_or_faulty (path_stops k rest is (fails_so e)) = inl (rest, e)
fails_or_faulty (path_stops k rest is (cut_so e)) = inr (cut_is_fault rest e)
fails_or_faulty (value_stops f why) = inr f
