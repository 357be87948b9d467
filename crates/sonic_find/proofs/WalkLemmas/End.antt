-- Where a container closes, and where a value ends at which paths end.
use Rattle.std.proofs.Common.{◌≡◌, ◌≢◌, ◌∙◌, ◌⊎◌, inl, inr, sym, ap, ℕ, ◌+◌, ◌-◌, ◌<◌, List, [], ◌∷◌, ◌++◌, Bool, true, false, length, arith, refl}
use Rattle.std.proofs.lemmas.List.{append-nil}
use Rattle.std.proofs.lemmas.Option.{slice_get_within, same_Some}
use Rattle.std.specs.List.{Contains}
use Rattle.std.specs.Prelude.{Some, slice_get}
use Rattle.sonic_error.specs.declared.code.ErrorCode.TheVariants.{GetIndexOutOfArray}
use Rattle.sonic_find.proofs.PathLemmas.Outcome.{nowhere_past}
use Rattle.sonic_find.proofs.WalkLemmas.List.{first_of}
use Rattle.sonic_find.proofs.WalkLemmas.Path.{contained, child_at, path_of_child, still_settled, settled_by, IsFilling, filled_keeps, filled_known, filled_later}
use Rattle.sonic_find.proofs.WalkLemmas.Start.{cut_at_end}
use Rattle.sonic_find.proofs.WalkLemmas.Step.{OpenStopped, open_node, open_cause, open_stops, none_ahead}
use Rattle.sonic_parser.specs.ValueSpans.{FlagsEscape}
use Rattle.sonic_find.specs.Found.{FlagEscapes}
use Rattle.sonic_find.specs.Internal.Walk.{Question, Findings, Keeps, Point, LeadsFrom, LeadsAt, ComesTo, IsPath, AreFindings, IsLater, IsKnown, IsSettled, BelowSettled, IsCause, value_stops, path_stops, IsStop, IsDead, IsPassedValue, IsContainer, SomeLack, Container, Progress, SomeOpen, IsUnvisited, IsWanted, IsItemPassed, AreSet, GoesBy, IsOpen, slot_of}
use Rattle.sonic_find.specs.DeadEnds.{fails_so}
use Rattle.sonic_find.specs.declared.outcome.PathOutcome.{PathOutcome}
use Rattle.sonic_find.specs.declared.outcome.PathOutcome.TheVariants.{Found}
use Rattle.sonic_find.specs.declared.span.Span.{Span}
use Rattle.sonic_parser.specs.declared.value_span.ValueSpan.{ValueSpan}
use Rattle.sonic_find.specs.Paths.{found, lacks, fails, cut, past_end}
use Rattle.sonic_find.specs.Paths.EvaluatesBy.{found_here, leads_nowhere}
use Rattle.sonic_parser.specs.Containers.{IsEnd}
use Rattle.sonic_pointer.specs.Paths.{IsOrders}
use Rattle.sonic_text.proofs.Items.{opening_no_quote, closing_no_comma}
use Rattle.sonic_text.proofs.Values.{items_open, items_not_empty}
use Rattle.sonic_text.specs.Paths.{Node, Path}
use Rattle.sonic_text.specs.Strings.{strict, IsEscapedString}
use Rattle.sonic_text.specs.Places.{byte}
use Rattle.sonic_text.specs.Values.{IsValue, ItemsFit, opening, filled, empty}
use Rattle.sonic_text.specs.declared.kind.Kind.{Kind}
use Rattle.sonic_text.specs.declared.kind.Kind.TheVariants.{Array, Object}
use Rattle.sonic_text.specs.declared.stop.Stop.{Stop}

-- the whole value, where the closing bracket follows an item
pub whole_there : {a : Container} {g : Progress} {e j : ℕ} → IsItemPassed a g e → IsWanted a g → IsEnd a.point.asked.text a.kind e j
    → IsValue strict a.point.asked.text a.point.place j
whole_there p wanted k = filled p.before.fit p.head.head (p.value wanted) k.0 k.1

-- a child that was not visited is past the container's end
past_there : {a : Container} {g : Progress} {e j : ℕ} {node : Node} (rest : Path) → IsItemPassed a g e → IsWanted a g → IsEnd a.point.asked.text a.kind e j
    → IsUnvisited a g.visited node → LeadsAt a.point (node ∷ rest) (past_end a.kind (j - 1))
past_there {a} {j = j} {node} rest p wanted k o =
    let past = nowhere_past a.point.asked.text a.point.place (j - 1) a.kind (items_open p.before.fit) (items_not_empty p.before.fit) in
    leads_nowhere (whole_there p wanted k) (λ v. none_ahead p wanted (λ e. closing_no_comma a.kind (sym k.0 ∙ e)) node v o)
    (rw (p.before.container.kind o.0 node o.2, past) refl)

-- which stops the walk where it is an index
pub close_stops : {a : Container} {g : Progress} {e j : ℕ} {s : Stop} → IsItemPassed a g e → IsWanted a g → IsEnd a.point.asked.text a.kind e j
    → SomeOpen g.visited → a.kind ≡ Array → s ≡ record { place = j - 1; code = GetIndexOutOfArray } → a.point.asked.each ≡ false → IsStop a.point a.needs s
close_stops {a} {g} {j = j} {s} p wanted k x array is_stop stops =
    let all : OpenStopped a g.visited s =
    (λ node rest o. rw is_stop (fails_so (rw array at (past_there rest p wanted k o)))) in
    open_stops p.before all (λ e. (let clash : true ≡ false = sym e ∙ stops in absurd cc)) (open_cause g.visited p.before.container p.before.long all x)

-- and lacks where it is a key
lacks_there : {a : Container} {g : Progress} {e j : ℕ} {node : Node} (rest : Path) → IsItemPassed a g e → IsWanted a g → IsEnd a.point.asked.text a.kind e j
    → IsUnvisited a g.visited node → a.kind ≡ Object → LeadsFrom a.point.asked (a.point.prefix ++ node ∷ rest) (lacks (j - 1))
lacks_there {j = j} {node} rest p wanted k o object =
    p.before.container.comes.up (node ∷ rest) (lacks (j - 1)) (rw object at (past_there rest p wanted k o))

-- so some path does
some_lack : {a : Container} {g : Progress} {e j : ℕ} → IsItemPassed a g e → IsWanted a g → IsEnd a.point.asked.text a.kind e j → SomeOpen g.visited
    → a.kind ≡ Object → SomeLack a.point.asked
some_lack {a} {g} {j = j} p wanted k x object =
    let o = open_node a g.visited p.before.long x in
    let path = path_of_child a.point o.1.0 o.0 p.before.container.children o.1.2 in
    record {
      number = path.number;
      path = a.point.prefix ++ o.0 ∷ path.rest;
      place = j - 1;
      is = path.is;
      leads = lacks_there path.rest p wanted k o.1 object;
    }

-- what is past the end of a container fails in an array, and is lacked in an object
past_uncut : (kind : Kind) (q : ℕ) (s : Stop) → past_end kind q ≢ cut s
past_uncut Array q s e = absurd cc
past_uncut Object q s e = absurd cc

past_fails : (kind : Kind) (q : ℕ) (s : Stop) → past_end kind q ≡ fails s → kind ≡ Array
past_fails Array q s e = refl
past_fails Object q s e = absurd cc

past_lacks : (kind : Kind) (q p : ℕ) → past_end kind q ≡ lacks p → kind ≡ Object
past_lacks Array q p e = absurd cc
past_lacks Object q p e = refl

-- the paths that go on by a child that was not visited
abbrev pub OpenPaths : Container → List Bool → ℕ → Type 0
OpenPaths a visited = GoesBy a.point.asked.paths a.point.prefix a.children (IsOpen visited)

-- are past the container's end
close_filling : {a : Container} {g : Progress} {e j : ℕ} → IsItemPassed a g e → IsWanted a g → IsEnd a.point.asked.text a.kind e j
    → IsFilling a.point.asked (OpenPaths a g.visited) (past_end a.kind (j - 1))
close_filling {a} {j = j} p wanted k = record {
  uncut = past_uncut a.kind (j - 1);
  each = λ n path is (c, node, rest, ahead, child, goes).
      let same : a.point.prefix ++ node ∷ rest ≡ path = same_Some _ path (sym goes ∙ is) in
      rw same at (p.before.container.comes.up (node ∷ rest) (past_end a.kind (j - 1)) (past_there rest p wanted k (c, ahead, child)));
}

-- where that is noted, what was known stays known
pub close_later : {a : Container} {g : Progress} {e j : ℕ} {now : Findings} → IsItemPassed a g e → IsWanted a g → IsEnd a.point.asked.text a.kind e j
    → AreSet (OpenPaths a g.visited) g.findings.slots now.slots (slot_of a.point.asked.tells (past_end a.kind (j - 1)))
    → (SomeOpen g.visited → a.kind ≡ Object → now.lacking ≡ true) → (g.findings.lacking ≡ true → now.lacking ≡ true)
    → (now.lacking ≡ true → (g.findings.lacking ≡ true) ⊎ SomeOpen g.visited × (a.kind ≡ Object)) → IsLater a.point.asked g.findings now
close_later {a} {j = j} p wanted k set noted still lack =
    filled_later (past_end a.kind (j - 1)) (close_filling p wanted k) set (λ n q (c, node, rest, ahead, child, goes) e. noted (c, ahead) (past_lacks a.kind (j - 1) q e)) still
    (λ e. elim (lack e) [ inl was ↦ p.before.are.lack was | inr x ↦ some_lack p wanted k x.0 x.1 ]) p.before.are

-- and the paths below are settled
pub close_settled : {a : Container} {g : Progress} {e j : ℕ} {now : Findings} → IsItemPassed a g e → IsWanted a g → IsEnd a.point.asked.text a.kind e j
    → AreSet (OpenPaths a g.visited) g.findings.slots now.slots (slot_of a.point.asked.tells (past_end a.kind (j - 1)))
    → (SomeOpen g.visited → a.kind ≡ Object → now.lacking ≡ true) → (SomeOpen g.visited → a.kind ≡ Array → a.point.asked.each ≡ true)
    → IsLater a.point.asked g.findings now → BelowSettled a.point now
close_settled {a} {j = j} p wanted k set noted goes later = λ n node rest h. elim (p.before.settled n node rest h) [
  | inr done ↦ still_settled later.kept h done
  | inl o ↦
      let past = past_end a.kind (j - 1) in
      let known = filled_known past (close_filling p wanted k) set (λ m q (c, other, more, ahead, child, x) e. noted (c, ahead) (past_lacks a.kind (j - 1) q e)) h
      (o.0, node, rest, o.1, o.2, h) in
      settled_by past known (p.before.container.comes.up (node ∷ rest) past (past_there rest p wanted k o))
      (λ s e. goes (o.0, o.1) (past_fails a.kind (j - 1) s e))
]

-- where no node leads on in a value, all paths below it fail
dead_filling : {a : Container} {s : Stop} (visited : List Bool) → IsContainer a → IsDead a.point.asked.text a.point.place a.kind s
    → IsFilling a.point.asked (OpenPaths a visited) (fails s)
dead_filling {a} {s} visited is dead = record {
  uncut = λ r e. absurd cc;
  each = λ n path at (c, node, rest, ahead, child, goes).
      let same : a.point.prefix ++ node ∷ rest ≡ path = same_Some _ path (sym goes ∙ at) in
      rw same at (is.comes.up (node ∷ rest) (fails s) (dead a.point.asked.rule node rest (is.kind c node child)));
}

-- where that is noted, what was known stays known
pub dead_later : {a : Container} {s : Stop} {before now : Findings} (visited : List Bool) → IsContainer a → IsDead a.point.asked.text a.point.place a.kind s
    → AreSet (OpenPaths a visited) before.slots now.slots (slot_of a.point.asked.tells (fails s)) → now.lacking ≡ before.lacking
    → AreFindings a.point.asked before → IsLater a.point.asked before now
dead_later {s = s} visited is dead set same are =
    filled_later (fails s) (dead_filling visited is dead) set (λ n q x e. absurd cc) (λ e. same ∙ e) (λ e. are.lack (sym same ∙ e)) are

-- and they are settled, where the walk goes on
pub dead_settled : {a : Container} {s : Stop} {before : List (PathOutcome Span)} {now : Findings} (visited : List Bool) → IsContainer a → IsDead a.point.asked.text a.point.place a.kind s
    → ((c : ℕ) → c < length a.children → slice_get visited c ≡ Some false)
    → AreSet (OpenPaths a visited) before now.slots (slot_of a.point.asked.tells (fails s)) → a.point.asked.each ≡ true → BelowSettled a.point now
dead_settled {a} {s} visited is dead none set goes = λ k node rest h.
    let c = child_at a.point k node rest is.children h in
    let known = filled_known (fails s) (dead_filling visited is dead) set (λ n q x e. absurd cc) h
    (c.0, node, rest, none c.0 (slice_get_within a.children c.0 node c.1), c.1, h) in
    settled_by (fails s) known (is.comes.up (node ∷ rest) (fails s) (dead a.point.asked.rule node rest (is.kind c.0 node c.1))) (λ r e. goes)

-- where each child was visited, they are
pub done_settled : {a : Container} {g : Progress} {e : ℕ} → IsItemPassed a g e → ¬ SomeOpen g.visited → BelowSettled a.point g.findings
done_settled p none = λ k node rest h. elim (p.before.settled k node rest h) [ inr done ↦ done | inl o ↦ absurd (none (o.0, o.1)) ]

-- a container is no string with a backslash
pub container_plain : {t : List ℕ} {kind : Kind} {i n h j : ℕ} → ItemsFit strict t kind i n h → ¬ IsEscapedString t i j
container_plain {kind = kind} is x = let b = items_open is in absurd (opening_no_quote kind (omega (arith, x.0)))

-- an empty container was passed, and no backslash is in it
pub empty_passed : {t : List ℕ} (kind : Kind) {i j : ℕ} {x : ValueSpan} → byte t i ≡ opening kind → IsEnd t kind (i + 1) j
    → x ≡ record { start = i; end = j; escaped = false } → IsPassedValue t i j x
empty_passed kind o e is = record {
  value = empty kind o e.0 e.1;
  begins = ap (λ (y : ValueSpan). y.start) is;
  ends = ap (λ (y : ValueSpan). y.end) is;
  escaped = rw is (λ e. absurd cc, λ x. absurd (opening_no_quote kind (omega (arith, x.0, o))));
}

-- the number of an order is that of a path
pub order_within : {q : Question} {prefix : Path} {orders : List ℕ} {f : Findings} (k : ℕ) → IsOrders q.paths prefix orders
    → AreFindings q f → Contains orders k → k < length f.slots
order_within {q} {prefix} k o are h = omega (arith, slice_get_within q.paths k prefix ((o.exact k).0 h), are.long)

-- where a slot is kept whose value, if it has one, says whether it is a string with a backslash, each value says it
pub set_escapes : (t : List ℕ) {Is : ℕ → Type 0} {before now : List (PathOutcome ValueSpan)} {x : PathOutcome ValueSpan} → AreSet Is before now x → FlagEscapes t before
    → ((v : ValueSpan) → x ≡ Found v → FlagsEscape t v) → FlagEscapes t now
set_escapes t {x = x} set have is = λ k y h. elim (set.each k) [
  | inl same ↦ have k y (sym same ∙ h)
  | inr here ↦ is y (same_Some x (Found y) (sym here.1 ∙ h))
]

-- the paths that end at the prefix lead to the value's span
value_filling : {p : Point} {j : ℕ} {orders : List ℕ} → ComesTo p → IsValue strict p.asked.text p.place j → IsOrders p.asked.paths p.prefix orders
    → IsFilling p.asked (Contains orders) (found p.place j)
value_filling {p} {j} comes x o = record {
  uncut = λ s e. absurd cc;
  each = λ k path is order.
      let same : p.prefix ≡ path = same_Some p.prefix path (sym ((o.exact k).0 order) ∙ is) in
      let up : LeadsFrom p.asked (p.prefix ++ []) (found p.place j) = comes.up [] (found p.place j) (found_here x) in
      rw same at (rw (append-nil p.prefix) at up);
}

-- where the value's span is kept for them, what was known stays known
pub value_keeps : {p : Point} {j : ℕ} {orders : List ℕ} {before now : Findings} → ComesTo p → IsValue strict p.asked.text p.place j
    → IsOrders p.asked.paths p.prefix orders → AreSet (Contains orders) before.slots now.slots (slot_of p.asked.tells (found p.place j))
    → (before.lacking ≡ true → now.lacking ≡ true) → Keeps p.asked before now
value_keeps {p} {j} comes x o set still = filled_keeps (found p.place j) (value_filling comes x o) set (λ k q order e. absurd cc) still

pub value_later : {p : Point} {j : ℕ} {orders : List ℕ} {f : Findings} {more : List (PathOutcome Span)} → ComesTo p → IsValue strict p.asked.text p.place j
    → IsOrders p.asked.paths p.prefix orders → AreFindings p.asked f → AreSet (Contains orders) f.slots more (slot_of p.asked.tells (found p.place j))
    → IsLater p.asked f (record f { slots = more })
value_later {p} {j} comes x o are set =
    filled_later (found p.place j) (value_filling comes x o) set (λ k q order e. absurd cc) (λ e. e) are.lack are

-- and they are known
pub value_known : (p : Point) {j : ℕ} {orders : List ℕ} {before : List (PathOutcome Span)} {now : Findings} → ComesTo p → IsValue strict p.asked.text p.place j
    → IsOrders p.asked.paths p.prefix orders → AreSet (Contains orders) before now.slots (slot_of p.asked.tells (found p.place j))
    → (k : ℕ) → IsPath p k [] → IsKnown p.asked now k (p.prefix ++ [])
value_known p {j} comes x o set k h =
    let is : slice_get p.asked.paths k ≡ Some p.prefix = rw (append-nil p.prefix) at h in
    filled_known (found p.place j) (value_filling comes x o) set (λ n q order e. absurd cc) h ((o.exact k).1 is)

-- so the paths with the prefix are settled
pub value_settled : (p : Point) {j : ℕ} {orders : List ℕ} {f : Findings} {more : List (PathOutcome Span)} → ComesTo p → IsValue strict p.asked.text p.place j
    → IsOrders p.asked.paths p.prefix orders → AreSet (Contains orders) f.slots more (slot_of p.asked.tells (found p.place j))
    → IsLater p.asked f (record f { slots = more }) → BelowSettled p f
    → (k : ℕ) (rest : Path) → IsPath p k rest → IsSettled p.asked (record f { slots = more }) k (p.prefix ++ rest)
value_settled p {j} comes x o set later below k [] h =
    settled_by (found p.place j) (value_known p comes x o set k h) (comes.up [] (found p.place j) (found_here x)) (λ s e. absurd cc)
value_settled p comes x o set later below k (node ∷ rest) h = still_settled later.kept h (below k node rest h)

-- where no path ends at the prefix, they are without
pub early_settled : (p : Point) {orders : List ℕ} {f : Findings} → IsOrders p.asked.paths p.prefix orders → orders ≡ [] → BelowSettled p f
    → (k : ℕ) (rest : Path) → IsPath p k rest → IsSettled p.asked f k (p.prefix ++ rest)
early_settled p o none below k [] h =
    let is : slice_get p.asked.paths k ≡ Some p.prefix = rw (append-nil p.prefix) at h in
    let there : Contains [] k = rw none at ((o.exact k).1 is) in
    absurd (omega (arith, there.1))
early_settled p o none below k (node ∷ rest) h = below k node rest h

-- some path ends at the prefix
order_ends : (p : Point) {orders : List ℕ} → IsOrders p.asked.paths p.prefix orders → orders ≢ [] → (k : ℕ) × IsPath p k []
order_ends p {orders} o some =
    let k = first_of orders some in
    let is : slice_get p.asked.paths k.0 ≡ Some p.prefix = (o.exact k.0).0 (contained orders 0 k.1) in
    (k.0, rw (append-nil p.prefix) is)

-- why a value has to be whole where it is asked for, or a path ends at it
asked_cause : {p : Point} {orders : List ℕ} {finish needs : Bool} {s : Stop} → IsOrders p.asked.paths p.prefix orders
    → (needs ≡ true → (finish ≡ true) ⊎ (orders ≢ [])) → IsCause p needs s → IsCause p finish s
asked_cause o why (path_stops k rest is x) = path_stops k rest is x
asked_cause o why (value_stops f (inr lack)) = value_stops f (inr lack)
asked_cause {p} o why (value_stops f (inl e)) = elim (why e) [
  | inl finish ↦ value_stops f (inl finish)
  | inr some ↦ (let k = order_ends p o some in cut_at_end k.0 k.1 f)
]

-- so it stops
pub asked_stops : {p : Point} {orders : List ℕ} {finish needs : Bool} {s : Stop} → IsOrders p.asked.paths p.prefix orders
    → (needs ≡ true → (finish ≡ true) ⊎ (orders ≢ [])) → IsStop p needs s → IsStop p finish s
asked_stops o why x = record { nearest = x.nearest; fault = x.fault; cause = asked_cause o why x.cause }
