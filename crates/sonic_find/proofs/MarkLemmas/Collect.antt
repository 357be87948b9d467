-- What the outcomes of paths are that the marks of their prefixes come to.
use Rattle.std.proofs.Common.{◌≡◌, ◌≢◌, ◌∙◌, ◌⊎◌, inl, inr, sym, ap, refl, Bool, true, false, ℕ, ◌+◌, ◌-◌, ◌<◌, ◌≤◌, List, [], ◌∷◌, ◌++◌, append_assoc, append-nil, length, arith}
use Rattle.std.proofs.lemmas.Bool.{cases_order}
use Rattle.std.proofs.lemmas.Option.{same_Some}
use Rattle.std.specs.Prelude.{Option, Some, None, not, slice_get, IfSome}
use Rattle.sonic_error.specs.declared.code.ErrorCode.{ErrorCode}
use Rattle.sonic_error.specs.declared.code.ErrorCode.TheVariants.{GetIndexOutOfArray, DuplicateKey, Message}
use Rattle.sonic_error.specs.declared.json_type.Note.TheVariants.{Mismatch}
use Rattle.sonic_find.proofs.MarkLemmas.Kept.{mark_one}
use Rattle.sonic_find.proofs.PathLemmas.Outcome.{MixNowhere, by_one, cut_is_fault, fails_agree, nowhere_past}
use Rattle.sonic_find.proofs.WalkLemmas.End.{value_known, value_keeps}
use Rattle.sonic_find.proofs.WalkLemmas.List.{first_of}
use Rattle.sonic_find.proofs.WalkLemmas.Path.{held, contained, child_at, path_of_child, path_down, IsFilling, filled_keeps, filled_known, filled_later}
use Rattle.sonic_find.proofs.WalkLemmas.Start.{no_entry_by_kind, no_entry_in_empty}
use Rattle.sonic_find.specs.Internal.Collected.{IsNoted, IsFailBelow, IsCollected, AllCollected, NodeCollected}
use Rattle.sonic_find.specs.Internal.Follow.{IsDeadNode, LacksNode}
use Rattle.sonic_find.specs.Internal.Marks.{MarkState, IsMarkOf, AreMarks, IsWholeMark, HasItems, ChildSays, says_none, says_twice, says_one, NodeSays, says_no_items, says_items, SaysAll, IsLive}
use Rattle.sonic_find.specs.Cursors.{HasWhole}
use Rattle.sonic_find.specs.declared.outcome.PathOutcome.{PathOutcome}
use Rattle.sonic_find.specs.declared.span.Span.{Span}
use Rattle.sonic_find.specs.Internal.Walk.{Question, Findings, Keeps, Point, child_point, ComesTo, AreFindings, IsLater, AllSettled, IsCause, path_stops, value_stops, IsStop, AreSet, Begins, slot_of, NoneNearer}
use Rattle.sonic_find.specs.DeadEnds.{IsPathStop, fails_so, cut_so}
use Rattle.sonic_find.specs.Paths.{found, lacks, fails, kind_of, empty_code, wanted_of, LeadsOn, LeadsBy, LeadsUnder, EvaluatesBy, past_end}
use Rattle.sonic_find.specs.Paths.EvaluatesBy.{found_here, goes_on, repeats, leads_nowhere, cut_before}
use Rattle.sonic_find.specs.declared.marks.Mark.{Mark}
use Rattle.std.specs.List.{Contains}
use Rattle.sonic_pointer.specs.Nodes.{is_key}
use Rattle.sonic_pointer.specs.Paths.{IsChildren, IsOrders, IsUnmixed}
use Rattle.sonic_pointer.specs.declared.rule.KeyRule.{KeyRule}
use Rattle.sonic_pointer.specs.declared.rule.KeyRule.TheVariants.{First, Last, Refuse}
use Rattle.sonic_text.proofs.Values.{items_open, items_not_empty, value_end_one, value_never_both}
use Rattle.sonic_text.specs.Faults.{IsFault}
use Rattle.sonic_text.specs.Paths.{Node, Path, key, index}
use Rattle.sonic_text.specs.Places.{byte, after_space}
use Rattle.sonic_text.specs.Strings.{strict}
use Rattle.sonic_text.specs.Values.{type_at, opening, IsValue, empty}
use Rattle.sonic_text.specs.declared.kind.Kind.TheVariants.{Object, Array}
use Rattle.sonic_text.specs.declared.stop.Stop.{Stop}

-- nodes that are both keys or both indexes ask for one kind
same_kind : (a b : Node) → is_key a ≡ is_key b → kind_of a ≡ kind_of b
same_kind (key k) (key l) e = refl
same_kind (index n) (index m) e = refl
same_kind (key k) (index m) e = absurd cc
same_kind (index n) (key l) e = absurd cc

-- two paths of a tree mix nowhere
pub paths_unmixed : {paths : List Path} {p q : Path} → IsUnmixed paths → Contains paths p → Contains paths q → MixNowhere p q
paths_unmixed unmixed x y = λ prefix r s a b e f.
    same_kind a b (unmixed prefix a b (record { rest = r; path = rw e at x }) (record { rest = s; path = rw f at y }))

-- so two that fail at one place fail at one stop
pub unmixed_agree : {rule : KeyRule} {t : List ℕ} {paths : List Path} (p q : Path) {s r : Stop} → IsUnmixed paths → Contains paths p → Contains paths q
    → LeadsUnder rule t p (fails s) → LeadsUnder rule t q (fails r) → s.place ≡ r.place → s ≡ r
unmixed_agree p q unmixed x y = fails_agree p q (paths_unmixed unmixed x y)

-- in a whole value a path that is stopped fails
pub stopped_fails : {t : List ℕ} {i : ℕ} {path : Path} {s : Stop} {rule : KeyRule} → HasWhole t i → IsPathStop rule t i path s → EvaluatesBy rule t i path (fails s)
stopped_fails x (fails_so e) = e
stopped_fails {path = path} x (cut_so e) = absurd (value_never_both x.1 (cut_is_fault path e))

-- a test that fails, and one that holds
pub not_true : (b : Bool) → not b ≡ true → b ≡ false
not_true true e = absurd cc
not_true false e = refl

pub not_false : (b : Bool) → not b ≡ false → b ≡ true
not_false true e = refl
not_false false e = absurd cc

-- what is known below a live mark
abbrev pub LeadsToMark : MarkState → ℕ → Node → Mark → (Mark → Type 0) → Type 0
LeadsToMark g i node c Below = LeadsBy g.rule g.text i node c.value.start × IsWholeMark g.text c × Below c

live_child_says : {g : MarkState} {i place : ℕ} {prefix : Path} {node : Node} {c : Mark} {B : Mark → Type 0} → AreMarks g place → IsMarkOf g prefix c
    → i < c.value.start → c.again ≡ None → ChildSays g i prefix node B → LeadsToMark g i node c B
live_child_says {c = c} are is later first (says_none old none) = absurd (let before = old c is in omega (arith, before, later))
live_child_says {c = c} are is later first (says_twice {c = d} {q} there inside again refuses same y) =
    let some : c.again ≡ Some q = rw (mark_one are there is) at again in
    let clash : None ≡ Some q = sym first ∙ some in
    absurd cc
live_child_says {g} {i} {node = node} {c} {B} are is later first (says_one {c = d} there inside none leads whole below) =
    let same = mark_one are there is in
    (rw same at leads, rw same at whole, rw same at below)

-- a live mark is of the value to which the node leads on
pub live_says : {g : MarkState} {m : Mark} {place : ℕ} {prefix : Path} {node : Node} {c : Mark} {B : Mark → Type 0} → AreMarks g place → IsLive g m prefix c
    → NodeSays g m prefix node B → LeadsToMark g m.value.start node c B
live_says are live (says_no_items none x) = (let clash : true ≡ false = sym live.items ∙ none in absurd cc)
live_says are live (says_items has x child) = live_child_says are live.is live.later live.first child

-- a value without items has no entry for a node
pub empty_dead : {g : MarkState} {m : Mark} {node : Node} {code : ErrorCode} {place : ℕ} {prefix : Path} {B : Mark → Type 0} → NodeSays g m prefix node B → IsWholeMark g.text m
    → m.has_items ≡ false → (byte g.text m.value.start ≡ opening (kind_of node) → code ≡ empty_code (kind_of node))
    → (byte g.text m.value.start ≢ opening (kind_of node) → code ≡ Message (Mismatch (type_at g.text m.value.start) (wanted_of (kind_of node)))) → place ≡ m.value.end - 1
    → IsDeadNode g.rule g.text m.value.start node (record { place = place; code = code })
empty_dead (says_items has y child) whole none inside outside e = (let clash : true ≡ false = sym has ∙ none in absurd cc)
empty_dead {g} {m} {node} {code} {place} (says_no_items is x) whole none inside outside e = λ rest. elim x [
  | inl other ↦ no_entry_by_kind whole.value other (rw (outside other, e) refl) g.rule node rest refl
  | inr (o, c) ↦
      let end = value_end_one whole.value (empty (kind_of node) o c refl) in
      let last : place ≡ after_space g.text (m.value.start + 1) = omega (arith, e, end) in
      no_entry_in_empty o c (rw (inside o, last) refl) g.rule node rest refl
]

-- a node that none of the items has comes to the container's end
past_child : (g : MarkState) {m : Mark} {node : Node} → IsWholeMark g.text m → HasItems g.text m.value.start (kind_of node)
    → ((v : ℕ) → ¬ LeadsOn g.text m.value.start node v) → (rest : Path)
    → EvaluatesBy g.rule g.text m.value.start (node ∷ rest) (past_end (kind_of node) (m.value.end - 1))
past_child g {m} {node} whole x none rest =
    let past = nowhere_past g.text m.value.start (m.value.end - 1) (kind_of node) (items_open x.1) (items_not_empty x.1) in
    leads_nowhere whole.value none (rw past refl)

-- so it is where its mark is of a value before
pub old_past : {g : MarkState} {m c : Mark} {node : Node} {prefix : Path} {place : ℕ} {B : Mark → Type 0} → AreMarks g place → IsWholeMark g.text m
    → IsMarkOf g prefix c → c.value.start ≤ m.value.start → m.has_items ≡ true → NodeSays g m prefix node B → (rest : Path)
    → EvaluatesBy g.rule g.text m.value.start (node ∷ rest) (past_end (kind_of node) (m.value.end - 1))
old_past are whole is before has (says_no_items none x) rest = (let clash : true ≡ false = sym has ∙ none in absurd cc)
old_past {g} are whole is before has (says_items h x (says_none old none)) rest = past_child g whole x none rest
old_past {m = m} are whole is before has (says_items h x (says_twice there inside again refuses same y)) rest =
    absurd (let same = ap (λ (y : Mark). y.value.start) (mark_one are there is) in omega (arith, same, inside, before))
old_past {m = m} are whole is before has (says_items h x (says_one there inside none leads w below)) rest =
    absurd (let same = ap (λ (y : Mark). y.value.start) (mark_one are there is) in omega (arith, same, inside, before))

-- which lacks it where it is a key
pub old_lacks : {g : MarkState} {m c : Mark} {node : Node} {prefix : Path} {place : ℕ} {B : Mark → Type 0} → AreMarks g place → IsWholeMark g.text m
    → IsMarkOf g prefix c → c.value.start ≤ m.value.start → m.has_items ≡ true → kind_of node ≡ Object → NodeSays g m prefix node B
    → LacksNode g.rule g.text m.value.start node (m.value.end - 1)
old_lacks are whole is before has object says = λ rest. rw object at (old_past are whole is before has says rest)

-- and fails where it is an index
pub old_dead : {g : MarkState} {m c : Mark} {node : Node} {prefix : Path} {place : ℕ} {s : Stop} {B : Mark → Type 0} → AreMarks g place → IsWholeMark g.text m
    → IsMarkOf g prefix c → c.value.start ≤ m.value.start → m.has_items ≡ true → kind_of node ≡ Array
    → s ≡ record { place = m.value.end - 1; code = GetIndexOutOfArray } → NodeSays g m prefix node B → IsDeadNode g.rule g.text m.value.start node s
old_dead are whole is before has array e says = λ rest. rw e (fails_so (rw array at (old_past are whole is before has says rest)))

-- a key that came again is refused
pub twice_dead : {g : MarkState} {m c : Mark} {node : Node} {prefix : Path} {place q : ℕ} {B : Mark → Type 0} → AreMarks g place → IsMarkOf g prefix c
    → m.value.start < c.value.start → m.has_items ≡ true → c.again ≡ Some q → NodeSays g m prefix node B
    → IsDeadNode g.rule g.text m.value.start node (record { place = q; code = DuplicateKey })
twice_dead are is later has again (says_no_items none x) = (let clash : true ≡ false = sym has ∙ none in absurd cc)
twice_dead {c = c} are is later has again (says_items h x (says_none old none)) = absurd (let before = old c is in omega (arith, before, later))
twice_dead {c = c} {q = q} are is later has again (says_items h x (says_one there inside first leads w below)) =
    let none : c.again ≡ None = rw (mark_one are there is) at first in
    let clash : None ≡ Some q = sym none ∙ again in
    absurd cc
twice_dead {g} {m} {c} {node} {q = q} are is later has again (says_items h x (says_twice {c = d} {q = p} {k} there inside second refuses same y)) = λ rest.
    let other : c.again ≡ Some p = rw (mark_one are there is) at second in
    let one : p ≡ q = (let both : Some p ≡ Some q = sym other ∙ again in cc) in
    rw (refuses, same, ← one) (fails_so (repeats y))

-- what is said of all paths is said of each child
pub says_child : {g : MarkState} {prefix : Path} {children : List Node} {m : Mark} (c : ℕ) (node : Node) → IsChildren g.paths prefix children
    → slice_get children c ≡ Some node → SaysAll g prefix m → NodeSays g m (prefix ++ node ∷ []) node (λ d. Unit)
says_child {g} {prefix} {children} c node all is says =
    let next = (all.exact node).0 (contained children c is) in
    let path = held g.paths next.path in
    forget (says path.0 (node ∷ next.rest) path.1)
  where
    forget_child : {g : MarkState} {i : ℕ} {prefix : Path} {node : Node} {B : Mark → Type 0} → ChildSays g i prefix node B → ChildSays g i prefix node (λ d. Unit)
    forget_child (says_none old none) = says_none old none
    forget_child (says_twice is later again refuses same y) = says_twice is later again refuses same y
    forget_child (says_one is later first leads whole below) = says_one is later first leads whole tt

    forget : {g : MarkState} {m : Mark} {prefix : Path} {node : Node} {B : Mark → Type 0} → NodeSays g m prefix node B → NodeSays g m prefix node (λ d. Unit)
    forget (says_no_items none x) = says_no_items none x
    forget (says_items has x child) = says_items has x (forget_child child)

-- below a live mark all is said of the paths of the child
pub live_all : {g : MarkState} {prefix : Path} {m c : Mark} {place : ℕ} (node : Node) → AreMarks g place → IsLive g m (prefix ++ node ∷ []) c → SaysAll g prefix m
    → SaysAll g (prefix ++ node ∷ []) c
live_all node are live says = λ k rest h. (live_says are live (says k (node ∷ rest) (rw append_assoc at h))).2

-- what is collected of the paths of a child is, of each of them
pub collected_up : (p : Point) (node : Node) (v : ℕ) {f : Findings} {nearest : Option Stop} → AllCollected (child_point p node v) f nearest → NodeCollected p f nearest node
collected_up p node v all k rest h = rw append_assoc at (all k rest (path_down p k node rest v h))

-- a fail below a child is one below its parent
pub fail_up : (p : Point) (node : Node) (v : ℕ) {s : Stop} → LeadsBy p.asked.rule p.asked.text p.place node v → IsFailBelow (child_point p node v) s → IsFailBelow p s
fail_up p node v leads x = record { number = x.number; rest = node ∷ x.rest; is = rw append_assoc at x.is; fails_so = goes_on leads x.fails_so }

-- a dead node fails
pub dead_below : (p : Point) {children : List Node} {s : Stop} (c : ℕ) (node : Node) → HasWhole p.asked.text p.place → IsChildren p.asked.paths p.prefix children
    → slice_get children c ≡ Some node → IsDeadNode p.asked.rule p.asked.text p.place node s → IsFailBelow p s
dead_below p c node whole all is dead =
    let path = path_of_child p c node all is in
    record { number = path.number; rest = node ∷ path.rest; is = path.is; fails_so = stopped_fails whole (dead path.rest) }

-- its paths do
dead_filling : {p : Point} {s : Stop} (node : Node) → HasWhole p.asked.text p.place → ComesTo p → IsDeadNode p.asked.rule p.asked.text p.place node s
    → IsFilling p.asked (Begins p.asked.paths (p.prefix ++ node ∷ [])) (fails s)
dead_filling {p} {s} node whole comes dead = record {
  uncut = λ r e. absurd cc;
  each = λ k path is (rest, goes).
      let same : p.prefix ++ node ∷ rest ≡ path = same_Some _ path (sym (rw append_assoc at goes) ∙ is) in
      rw same at (comes.up (node ∷ rest) (fails s) (stopped_fails whole (dead rest)));
}

-- what is kept of them keeps what is known
pub dead_keeps : (p : Point) {s : Stop} {before now : Findings} (node : Node) → HasWhole p.asked.text p.place → ComesTo p
    → IsDeadNode p.asked.rule p.asked.text p.place node s
    → AreSet (Begins p.asked.paths (p.prefix ++ node ∷ [])) before.slots now.slots (slot_of p.asked.tells (fails s))
    → (before.lacking ≡ true → now.lacking ≡ true) → Keeps p.asked before now
dead_keeps p {s} node whole comes dead set still = filled_keeps (fails s) (dead_filling node whole comes dead) set (λ k q x e. absurd cc) still

-- and so they are collected
pub dead_collected : (p : Point) {s : Stop} {before : List (PathOutcome Span)} {now : Findings} (node : Node) → HasWhole p.asked.text p.place → ComesTo p
    → IsDeadNode p.asked.rule p.asked.text p.place node s
    → AreSet (Begins p.asked.paths (p.prefix ++ node ∷ [])) before now.slots (slot_of p.asked.tells (fails s)) → NodeCollected p now (Some s) node
dead_collected p {s} node whole comes dead set k rest h =
    let leads = comes.up (node ∷ rest) (fails s) (stopped_fails whole (dead rest)) in
    record {
      known = filled_known (fails s) (dead_filling node whole comes dead) set (λ k q x e. absurd cc) h (rest, rw append_assoc h);
      noted = λ r l.
          let same : fails s ≡ fails r = by_one (p.prefix ++ node ∷ rest) leads l in
          let one : s ≡ r = cc in
          rw one (let l : r.place ≤ r.place = omega arith in l);
    }

-- the paths of a node that is lacked lack it
lacks_filling : {p : Point} {q : ℕ} (node : Node) → ComesTo p → LacksNode p.asked.rule p.asked.text p.place node q
    → IsFilling p.asked (Begins p.asked.paths (p.prefix ++ node ∷ [])) (lacks q)
lacks_filling {p} {q} node comes lack = record {
  uncut = λ r e. absurd cc;
  each = λ k path is (rest, goes).
      let same : p.prefix ++ node ∷ rest ≡ path = same_Some _ path (sym (rw append_assoc at goes) ∙ is) in
      rw same at (comes.up (node ∷ rest) (lacks q) (lack rest));
}

-- what is kept of them keeps what is known
pub lacks_keeps : (p : Point) {q : ℕ} {before now : Findings} (node : Node) → ComesTo p → LacksNode p.asked.rule p.asked.text p.place node q
    → AreSet (Begins p.asked.paths (p.prefix ++ node ∷ [])) before.slots now.slots (slot_of p.asked.tells (lacks q)) → now.lacking ≡ true → Keeps p.asked before now
lacks_keeps p {q} node comes lack set noted = filled_keeps (lacks q) (lacks_filling node comes lack) set (λ k r x e. noted) (λ e. noted)

-- they are collected where that is noted
pub lacks_collected : (p : Point) {q : ℕ} {before : List (PathOutcome Span)} {now : Findings} {nearest : Option Stop} (node : Node) → ComesTo p
    → LacksNode p.asked.rule p.asked.text p.place node q
    → AreSet (Begins p.asked.paths (p.prefix ++ node ∷ [])) before now.slots (slot_of p.asked.tells (lacks q)) → now.lacking ≡ true → NodeCollected p now nearest node
lacks_collected p {q} node comes lack set noted k rest h =
    let leads = comes.up (node ∷ rest) (lacks q) (lack rest) in
    record {
      known = filled_known (lacks q) (lacks_filling node comes lack) set (λ k r x e. noted) h (rest, rw append_assoc h);
      noted = λ r l.
          let clash : lacks q ≡ fails r = by_one (p.prefix ++ node ∷ rest) leads l in
          absurd cc;
    }

-- and the findings are later
pub lacks_later : (p : Point) {children : List Node} {before now : Findings} {q : ℕ} (c : ℕ) (node : Node) → ComesTo p → IsChildren p.asked.paths p.prefix children
    → slice_get children c ≡ Some node → LacksNode p.asked.rule p.asked.text p.place node q
    → AreSet (Begins p.asked.paths (p.prefix ++ node ∷ [])) before.slots now.slots (slot_of p.asked.tells (lacks q)) → now.lacking ≡ true
    → AreFindings p.asked before → IsLater p.asked before now
lacks_later p {q = q} c node comes all is lack set noted are =
    let path = path_of_child p c node all is in
    filled_later (lacks q) (lacks_filling node comes lack) set (λ k r x e. noted) (λ e. noted)
    (λ e. record {
      number = path.number;
      path = p.prefix ++ node ∷ path.rest;
      place = q;
      is = path.is;
      leads = comes.up (node ∷ path.rest) (lacks q) (lack path.rest);
    }) are

-- where a dead node's paths are kept, they are, too
pub dead_later : (p : Point) {s : Stop} {before now : Findings} (node : Node) → HasWhole p.asked.text p.place → ComesTo p
    → IsDeadNode p.asked.rule p.asked.text p.place node s
    → AreSet (Begins p.asked.paths (p.prefix ++ node ∷ [])) before.slots now.slots (slot_of p.asked.tells (fails s)) → now.lacking ≡ before.lacking
    → AreFindings p.asked before → IsLater p.asked before now
dead_later p {s} node whole comes dead set same are =
    filled_later (fails s) (dead_filling node whole comes dead) set (λ k q x e. absurd cc) (λ e. same ∙ e) (λ e. are.lack (sym same ∙ e)) are

-- what is collected stays so
pub still_collected : {q : Question} {f g : Findings} {k : ℕ} {path : Path} {was now : Option Stop} → Keeps q f g → slice_get q.paths k ≡ Some path
    → ((p : ℕ) → IsNoted was p → IsNoted now p) → IsCollected q f was k path → IsCollected q g now k path
still_collected {k = k} {path} keeps is nearer x = record { known = keeps k path is x.known; noted = λ s l. nearer s.place (x.noted s l) }

-- what is known of the first children is known of one more
pub one_more_collected : (p : Point) (children : List Node) {f g : Findings} {was stop now : Option Stop} {i : ℕ} → Keeps p.asked f g
    → ((q : ℕ) → IsNoted was q → IsNoted now q) → ((q : ℕ) → IsNoted stop q → IsNoted now q)
    → ((c : ℕ) (node : Node) → c < i → slice_get children c ≡ Some node → NodeCollected p f was node)
    → ((node : Node) → slice_get children i ≡ Some node → NodeCollected p g stop node)
    → (c : ℕ) (node : Node) → c < i + 1 → slice_get children c ≡ Some node → NodeCollected p g now node
one_more_collected p children {i = i} keeps first second before last c node l is = elim (cases_order c i) [
  | inl same ↦ (λ k rest h. (let x = last node (rw same at is) k rest h in record { known = x.known; noted = λ s e. second s.place (x.noted s e) }))
  | inr (inl less) ↦ (λ k rest h. still_collected keeps h first (before c node less is k rest h))
  | inr (inr more) ↦ absurd (omega (arith, l, more))
]

-- the nearer stop is one of both
pub nearer_below : (p : Point) {was stop now : Option Stop} → IfSome was (IsFailBelow p) → IfSome stop (IsFailBelow p) → (now ≡ was) ⊎ (now ≡ stop)
    → IfSome now (IsFailBelow p)
nearer_below p x y (inl e) = rw e x
nearer_below p x y (inr e) = rw e y

-- where the value is kept for the paths that end at the prefix, all with it are collected
pub kept_collected : (p : Point) {j : ℕ} {orders : List ℕ} {f g : Findings} {nearest : Option Stop} {children : List Node} → ComesTo p
    → IsValue strict p.asked.text p.place j → IsOrders p.asked.paths p.prefix orders
    → AreSet (Contains orders) f.slots g.slots (slot_of p.asked.tells (found p.place j)) → (f.lacking ≡ true → g.lacking ≡ true)
    → IsChildren p.asked.paths p.prefix children → ((c : ℕ) (node : Node) → slice_get children c ≡ Some node → NodeCollected p f nearest node)
    → AllCollected p g nearest
kept_collected p {j} comes value o set still all below k [] h = record {
  known = value_known p comes value o set k h;
  noted = λ s l. (let clash : found p.place j ≡ fails s = by_one (p.prefix ++ []) (comes.up [] (found p.place j) (found_here value)) l in absurd cc);
}
kept_collected p comes value o set still all below k (node ∷ rest) h =
    let c = child_at p k node rest all h in
    still_collected (value_keeps comes value o set still) h (λ q n. n) (below c.0 node c.1 k rest h)

-- where none ends at it, they are without
pub early_collected : (p : Point) {orders : List ℕ} {f : Findings} {nearest : Option Stop} {children : List Node} → IsOrders p.asked.paths p.prefix orders → length orders ≡ 0
    → IsChildren p.asked.paths p.prefix children → ((c : ℕ) (node : Node) → slice_get children c ≡ Some node → NodeCollected p f nearest node) → AllCollected p f nearest
early_collected p o none all below k [] h =
    let is : slice_get p.asked.paths k ≡ Some p.prefix = rw append-nil at h in
    let there = (o.exact k).1 is in
    absurd (omega (arith, none, there.1))
early_collected p o none all below k (node ∷ rest) h =
    let c = child_at p k node rest all h in
    below c.0 node c.1 k rest h

-- where no stop is noted, or the walk goes on after it, all are settled
pub none_settled : (p : Point) {f : Findings} → AllCollected p f None → AllSettled p f
none_settled p all k rest h = (let x = all k rest h in record { known = x.known; goes = λ stops s l. absurd (x.noted s l) })

pub each_settled : (p : Point) {f : Findings} {nearest : Option Stop} → p.asked.each ≡ true → AllCollected p f nearest → AllSettled p f
each_settled p each all k rest h =
    record { known = (all k rest h).known; goes = λ stops s l. (let clash : true ≡ false = sym each ∙ stops in absurd cc) }

-- no path with the prefix fails before the stop that is noted, and none fails there for another reason
none_nearer : (p : Point) {f : Findings} {s : Stop} → IsUnmixed p.asked.paths → ComesTo p → IsFailBelow p s → AllCollected p f (Some s) → NoneNearer p s
none_nearer p {s = s} unmixed comes x all k rest r h e =
    let near : s.place ≤ r.place = (all k rest h).noted r (comes.up rest (fails r) e) in
    elim (cases_order s.place r.place) [
      | inl equal ↦
          let mix = paths_unmixed unmixed (contained p.asked.paths x.number x.is) (contained p.asked.paths k h) in
          inl (sym (fails_agree (p.prefix ++ x.rest) (p.prefix ++ rest) mix (comes.up x.rest (fails s) x.fails_so) (comes.up rest (fails r) e) equal))
      | inr (inl less) ↦ inr less
      | inr (inr more) ↦ absurd (omega (arith, near, more))
    ]

-- so the stop that is noted stops the walk, unless it goes on
pub noted_stops : (p : Point) {f : Findings} {s : Stop} → p.asked.each ≡ false → IsUnmixed p.asked.paths → ComesTo p → IsFailBelow p s → AllCollected p f (Some s)
    → IsStop p false s
noted_stops p stops unmixed comes x all = record {
  nearest = λ e. none_nearer p unmixed comes x all;
  fault = λ e. (let clash : true ≡ false = sym e ∙ stops in absurd cc);
  cause = path_stops x.number x.rest x.is (fails_so x.fails_so);
}

-- under a rule that reads an object to its end no key leads on in one with a fault
no_key_leads : {t : List ℕ} {i : ℕ} {s : Stop} (r : KeyRule) (node : Node) (v : ℕ) → r ≢ First → kind_of node ≡ Object → IsFault strict t i s → ¬ LeadsBy r t i node v
no_key_leads First node v some same f l = absurd (some refl)
no_key_leads Last (key k) v some same f l = value_never_both l.whole f
no_key_leads Refuse (key k) v some same f l = value_never_both l.last.whole f
no_key_leads r (index n) v some same f l = absurd cc

-- and none fails
no_key_fails : {t : List ℕ} {i : ℕ} {s q : Stop} {node : Node} (r : KeyRule) (rest : Path) → r ≢ First → kind_of node ≡ Object → IsFault strict t i s
    → ¬ EvaluatesBy r t i (node ∷ rest) (fails q)
no_key_fails {node = node} r rest some same f (goes_on {v} l e) = no_key_leads r node v some same f l
no_key_fails r rest some same f (repeats y) = value_never_both y.whole f
no_key_fails r rest some same f (leads_nowhere x none e) = value_never_both x f

-- so the fault cuts each path that goes on by a key
pub fault_cuts : (p : Point) {children : List Node} {s : Stop} → p.asked.rule ≢ First → IsChildren p.asked.paths p.prefix children → children ≢ []
    → ((c : ℕ) (node : Node) → slice_get children c ≡ Some node → kind_of node ≡ Object) → IsFault strict p.asked.text p.place s → IsStop p false s
fault_cuts p {children} {s} rule all some kind f =
    let child = first_of children some in
    let path = path_of_child p 0 child.0 all child.1 in
    record {
      nearest = λ stops. nearest_of p rule all kind f;
      fault = λ e. f;
      cause = path_stops path.number (child.0 ∷ path.rest) path.is (cut_so (cut_before f (λ v l. no_key_leads p.asked.rule child.0 v rule (kind 0 child.0 child.1) f l)));
    }
  where
    nearest_of : (p : Point) {children : List Node} {s : Stop} → p.asked.rule ≢ First → IsChildren p.asked.paths p.prefix children
        → ((c : ℕ) (node : Node) → slice_get children c ≡ Some node → kind_of node ≡ Object) → IsFault strict p.asked.text p.place s → NoneNearer p s
    nearest_of p rule all kind f k [] r h e = elim e [ ]
    nearest_of p rule all kind f k (node ∷ rest) r h e =
        let c = child_at p k node rest all h in
        absurd (no_key_fails p.asked.rule rest rule (kind c.0 node c.1) f e)

-- what stops a value that isn't asked for stops it
pub stop_anyway : {p : Point} {needs : Bool} {s : Stop} → IsStop p false s → IsStop p needs s
stop_anyway x = record { nearest = x.nearest; fault = x.fault; cause = anyway x.cause }
  where
    anyway : {p : Point} {needs : Bool} {s : Stop} → IsCause p false s → IsCause p needs s
    anyway (path_stops k rest is y) = path_stops k rest is y
    anyway (value_stops f (inl e)) = absurd cc
    anyway (value_stops f (inr lack)) = value_stops f (inr lack)
