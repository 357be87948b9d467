-- The items of a container, one after the other, and what the marks say when it has closed.
use Rattle.std.proofs.Common.{◌≡◌, ◌≢◌, ◌∙◌, ◌⊎◌, inl, inr, sym, ap, refl, true, false, ℕ, ◌+◌, ◌<◌, ◌≤◌, List, [], ◌∷◌, ◌++◌, append_assoc, length, set, arith}
use Rattle.std.proofs.lemmas.Bool.{cases_order}
use Rattle.std.proofs.lemmas.Option.{slice_get_within}
use Rattle.std.specs.Prelude.{Some, None, slice_get}
use Rattle.sonic_find.proofs.MarkLemmas.Kept.{with_marks, mark_one, says_kept, node_kept, KeepsBelow, KeepsFrom, sight_kept, kept_from_other, longer_apart, set_kept, set_beside, set_mark, set_are, later_are}
use Rattle.sonic_find.proofs.MarkLemmas.Seen.{nothing_seen, seen_other, seen_last_next, seen_only_next, seen_twice_next, seen_twice_still, NoMore, none_of_all, one_of_all, two_of_all}
use Rattle.sonic_find.proofs.PathLemmas.Lead.{node_or_other, named_kind, past_byte}
use Rattle.sonic_find.proofs.WalkLemmas.Path.{contained, held, contained}
use Rattle.sonic_parser.specs.ValueSpans.{FlagsEscape}
use Rattle.sonic_find.specs.Internal.Marks.{MarkState, IsMarkOf, AreMarks, KeptBeside, HasNoItems, ChildSays, says_none, says_twice, says_one, says_no_items, says_items, Says, SaysAll, IsPassedBy, IsMarked, Sight, none_seen, one_seen, two_seen, IsSeen, seen_none, seen_only, seen_twice, SightSays, sight_none, sight_one, sight_two, IsFollowing, AllFollowing, IsMarking, IsMarkedItem, IsClosed, IsWholeLevel}
use Rattle.sonic_find.specs.Internal.Walk.{Container}
use Rattle.sonic_find.specs.Paths.{kind_of, IsNamed}
use Rattle.sonic_parser.specs.declared.value_span.ValueSpan.{ValueSpan}
use Rattle.sonic_find.specs.declared.marks.Mark.{Mark}
use Rattle.sonic_parser.specs.Containers.{IsEnd, IsSeparated}
use Rattle.sonic_pointer.specs.Paths.{IsChildren, HasNextNode}
use Rattle.sonic_pointer.specs.declared.rule.KeyRule.{KeyRule}
use Rattle.sonic_pointer.specs.declared.rule.KeyRule.TheVariants.{First, Last, Refuse}
use Rattle.sonic_text.proofs.Items.{closing_no_comma, opening_no_quote}
use Rattle.sonic_text.proofs.Places.{after_space_later}
use Rattle.sonic_text.proofs.Values.{items_open, items_not_empty, items-later, head-later, value-longer}
use Rattle.sonic_text.specs.Paths.{Node, Path}
use Rattle.sonic_text.specs.Places.{byte, after_space}
use Rattle.sonic_text.specs.Strings.{strict}
use Rattle.sonic_text.specs.Values.{opening, closing, IsValue, ItemsFit, first_item, next_item, filled}
use Rattle.sonic_text.specs.declared.kind.Kind.{Kind}

-- before the first item nothing is known of a child, whose mark is of a value before
pub first_marking : {g : MarkState} {a : Container} {h : ℕ} → AreMarks g a.point.place → ItemsFit strict g.text a.kind a.point.place 0 h → IsMarking g a 0 h
first_marking {g} {a} are fit =
    let later = items-later fit in
    record {
      are = later_are are (omega (arith, later));
      fit = fit;
      all = λ c node is. record {
        sight = none_seen;
        seen = nothing_seen g.text a.point.place node g.rule;
        says = sight_none (λ m x. are.before x.number m x.mark);
      };
    }

-- what is known of a child after an item of another name
following_other : {g : MarkState} {a : Container} {n h v : ℕ} {node b : Node} (marks : List Mark) → ItemsFit strict g.text a.kind a.point.place n h
    → IsNamed g.text a.kind n h v node → node ≢ b → kind_of b ≡ a.kind → KeepsFrom g marks (a.point.prefix ++ b ∷ []) → IsFollowing g a n b
    → IsFollowing (with_marks g marks) a (n + 1) b
following_other {g} {a} {n} {h} {v} {node} {b} marks fit item other same kept x =
    let fits : ItemsFit strict g.text (kind_of b) a.point.place n h = rw (← same) at fit in
    let named : IsNamed g.text (kind_of b) n h v node = rw (← same) at item in
    record { sight = x.sight; seen = seen_other fits named other x.seen; says = sight_kept g marks (a.point.prefix ++ b ∷ []) kept x.says }

-- after an item that is no child all children have other names
pub none_following : {g : MarkState} {a : Container} {n h v : ℕ} {node : Node} → IsWholeLevel a → ItemsFit strict g.text a.kind a.point.place n h
    → IsNamed g.text a.kind n h v node → ¬ HasNextNode a.point.asked.paths a.point.prefix node → AllFollowing g a n → AllFollowing g a (n + 1)
none_following {g} {a} {node = node} level fit item none all = λ c b is.
    let other : node ≢ b = (λ e. none (rw e ((level.children.exact b).0 (contained a.children c is)))) in
    following_other g.marks fit item other (level.kind c b is) (λ more n there. refl) (all c b is)

-- after one that is, that one is known, and the marks of the others are kept
pub child_following : {g : MarkState} {a : Container} {n h v : ℕ} {node : Node} (marks : List Mark) → IsWholeLevel a → ItemsFit strict g.text a.kind a.point.place n h
    → IsNamed g.text a.kind n h v node → KeptBeside g marks (a.point.prefix ++ node ∷ []) → IsFollowing (with_marks g marks) a (n + 1) node → AllFollowing g a n
    → AllFollowing (with_marks g marks) a (n + 1)
child_following {g} {a} {n} {node = node} marks level fit item beside this all = λ c b is. elim (node_or_other node b) [
  | inl same ↦ rw (← same) this
  | inr other ↦ following_other marks fit item other (level.kind c b is) (kept_from_other g marks a.point.prefix beside other) (all c b is)
]

-- the value of an item begins after the bracket
item_inside : {t : List ℕ} {kind : Kind} {i n h v : ℕ} {node : Node} → ItemsFit strict t kind i n h → IsNamed t kind n h v node → i < v
item_inside fit item = omega (arith, items-later fit, head-later item.head)

-- by the rule the item that is gathered is the one that counts so far
counts_seen : {g : MarkState} {a : Container} {n h v : ℕ} {node : Node} {m : Mark} {place : ℕ} (r : KeyRule) → g.rule ≡ r → r ≢ First
    → (r ≢ Refuse) ⊎ (m.value.start ≤ a.point.place) → AreMarks g place → IsMarkOf g (a.point.prefix ++ node ∷ []) m
    → ItemsFit strict g.text (kind_of node) a.point.place n h → IsNamed g.text (kind_of node) n h v node → IsFollowing g a n node
    → IsSeen g.text a.point.place (n + 1) node r (one_seen v)
counts_seen First e some counts are is fit item x = absurd (some refl)
counts_seen Last e some counts are is fit item x = seen_last_next fit item
counts_seen Refuse e some (inl other) are is fit item x = absurd (other refl)
counts_seen {g} {a} {n} {node = node} {m} Refuse e some (inr before) are is fit item x =
    let seen : IsSeen g.text a.point.place n node Refuse x.sight = rw e at x.seen in
    only_where_none are is before fit item seen x.says
  where
    only_where_none : {g : MarkState} {prefix : Path} {i n h v place : ℕ} {node : Node} {m : Mark} {s : Sight} → AreMarks g place → IsMarkOf g prefix m
        → m.value.start ≤ i → ItemsFit strict g.text (kind_of node) i n h → IsNamed g.text (kind_of node) n h v node → IsSeen g.text i n node Refuse s
        → SightSays g i prefix s → IsSeen g.text i (n + 1) node Refuse (one_seen v)
    only_where_none are is before fit item (seen_none none) says = seen_only_next fit item none
    only_where_none are is before fit item (seen_only y) (sight_one {c} there later first whole below) =
        absurd (let same = ap (λ (d : Mark). d.value.start) (mark_one are there is) in omega (arith, same, later, before))
    only_where_none are is before fit item (seen_twice y) (sight_two {c} there later again) =
        absurd (let same = ap (λ (d : Mark). d.value.start) (mark_one are there is) in omega (arith, same, later, before))

-- after it was gathered this is known of it
pub gathered_following : {g : MarkState} {a : Container} {n h v e : ℕ} {node : Node} {m : Mark} {place : ℕ} (marks : List Mark) → g.rule ≢ First
    → (g.rule ≢ Refuse) ⊎ (m.value.start ≤ a.point.place) → AreMarks g place → IsMarkOf g (a.point.prefix ++ node ∷ []) m
    → ItemsFit strict g.text a.kind a.point.place n h → IsNamed g.text a.kind n h v node → IsFollowing g a n node
    → IsMarked (with_marks g marks) (a.point.prefix ++ node ∷ []) v e → IsFollowing (with_marks g marks) a (n + 1) node
gathered_following {g} {a} {n} {h} {v} {node = node} marks some counts are is fit item x y =
    let same = named_kind item in
    let fits : ItemsFit strict g.text (kind_of node) a.point.place n h = rw (← same) at fit in
    let named : IsNamed g.text (kind_of node) n h v node = rw (← same) at item in
    let inside = item_inside fit item in
    let later : a.point.place < y.mark.value.start = rw y.begins inside in
    record {
      sight = one_seen y.mark.value.start;
      seen = rw y.begins (counts_seen g.rule refl some counts are is fits named x);
      says = sight_one y.is later y.first y.whole y.says;
    }

-- after a second one was refused this is
pub repeated_following : {g : MarkState} {a : Container} {n h v : ℕ} {node : Node} {m : Mark} {place : ℕ} (now : Mark) (number : ℕ) → g.rule ≡ Refuse
    → a.point.place < m.value.start → AreMarks g place → slice_get g.prefixes number ≡ Some (a.point.prefix ++ node ∷ []) → slice_get g.marks number ≡ Some m
    → now.value ≡ m.value → (m.again ≡ None → now.again ≡ Some h) → (m.again ≢ None → now.again ≡ m.again) → ItemsFit strict g.text a.kind a.point.place n h
    → IsNamed g.text a.kind n h v node → IsFollowing g a n node → IsFollowing (with_marks g (set g.marks number now)) a (n + 1) node
repeated_following {g} {a} {n} {h} {v} {node} {m} now number refuses inside are is mark same first later fit item x =
    let kind = named_kind item in
    let fits : ItemsFit strict g.text (kind_of node) a.point.place n h = rw (← kind) at fit in
    let named : IsNamed g.text (kind_of node) n h v node = rw (← kind) at item in
    let seen : IsSeen g.text a.point.place n node Refuse x.sight = rw refuses at x.seen in
    let known : IsMarkOf g (a.point.prefix ++ node ∷ []) m = record { number = number; is = is; mark = mark } in
    let there : a.point.place < now.value.start = rw same inside in
    twice_where_seen refuses are known (set_mark number now are is) inside there first later fits named seen x.says
  where
    twice_where_seen : {g : MarkState} {a : Container} {n h v place : ℕ} {node : Node} {m now : Mark} {s : Sight} {marks : List Mark} → g.rule ≡ Refuse
        → AreMarks g place → IsMarkOf g (a.point.prefix ++ node ∷ []) m → IsMarkOf (with_marks g marks) (a.point.prefix ++ node ∷ []) now → a.point.place < m.value.start
        → a.point.place < now.value.start → (m.again ≡ None → now.again ≡ Some h) → (m.again ≢ None → now.again ≡ m.again)
        → ItemsFit strict g.text (kind_of node) a.point.place n h → IsNamed g.text (kind_of node) n h v node → IsSeen g.text a.point.place n node Refuse s
        → SightSays g a.point.place (a.point.prefix ++ node ∷ []) s → IsFollowing (with_marks g marks) a (n + 1) node
    twice_where_seen refuses are known new inside there first later fit item (seen_none none) (sight_none old) =
        absurd (let before = old _ known in omega (arith, before, inside))
    twice_where_seen {h = h} {m = m} refuses are known new inside there first later fit item (seen_only y) (sight_one {c} is l again whole below) =
        let none : m.again ≡ None = ap (λ (d : Mark). d.again) (sym (mark_one are is known)) ∙ again in
        record { sight = two_seen h; seen = rw refuses (seen_twice_next fit item y); says = sight_two new there (first none) }
    twice_where_seen {m = m} refuses are known new inside there first later fit item (seen_twice {q} y) (sight_two {c} is l again) =
        let some : m.again ≡ Some q = ap (λ (d : Mark). d.again) (sym (mark_one are is known)) ∙ again in
        let kept = later (λ e. (let clash : None ≡ Some q = sym e ∙ some in absurd cc)) in
        record { sight = two_seen q; seen = rw refuses (seen_twice_still y); says = sight_two new there (kept ∙ some) }

-- an item that is no child is passed
pub none_marked : {g : MarkState} {a : Container} {n h v e : ℕ} {node : Node} → IsWholeLevel a → IsMarking g a n h → IsNamed g.text a.kind n h v node
    → ¬ HasNextNode a.point.asked.paths a.point.prefix node → IsValue strict g.text v e → IsMarkedItem g a n h e
none_marked {v = v} {node = node} level m item none value = record {
  are = later_are m.are (omega (arith, head-later item.head, value-longer value));
  fit = m.fit;
  node = node;
  v = v;
  item = item;
  value = value;
  all = none_following level m.fit item none m.all;
}

-- so is one that is gathered
pub gathered_marked : {g : MarkState} {a : Container} {n h v e : ℕ} {node : Node} {m : Mark} (c : ℕ) (marks : List Mark) → IsWholeLevel a → g.rule ≢ First
    → (g.rule ≢ Refuse) ⊎ (m.value.start ≤ a.point.place) → IsMarking g a n h → IsMarkOf g (a.point.prefix ++ node ∷ []) m → IsNamed g.text a.kind n h v node
    → slice_get a.children c ≡ Some node → KeptBeside g marks (a.point.prefix ++ node ∷ [])
    → IsMarked (with_marks g marks) (a.point.prefix ++ node ∷ []) v e → IsMarkedItem (with_marks g marks) a n h e
gathered_marked {g} {v = v} {node = node} c marks level some counts m is item there beside y = record {
  are = y.are;
  fit = m.fit;
  node = node;
  v = v;
  item = item;
  value = (let value = y.whole.value in rw (y.begins, y.ends) at value);
  all = child_following marks level m.fit item beside (gathered_following marks some counts m.are is m.fit item (m.all c node there) y) m.all;
}

-- and one that is refused
pub repeated_marked : {g : MarkState} {a : Container} {n h v e : ℕ} {node : Node} {m : Mark} (c : ℕ) (now : Mark) (number : ℕ) → IsWholeLevel a → g.rule ≡ Refuse
    → a.point.place < m.value.start → IsMarking g a n h → slice_get g.prefixes number ≡ Some (a.point.prefix ++ node ∷ []) → slice_get g.marks number ≡ Some m
    → now.value ≡ m.value → (m.again ≡ None → now.again ≡ Some h) → (m.again ≢ None → now.again ≡ m.again) → IsNamed g.text a.kind n h v node
    → slice_get a.children c ≡ Some node → IsValue strict g.text v e → IsMarkedItem (with_marks g (set g.marks number now)) a n h e
repeated_marked {g} {a} {n} {h} {v} {e} {node} {m} c now number level refuses inside x is mark same first later item there value =
    let begins : now.value.start ≡ m.value.start = ap (λ (value : ValueSpan). value.start) same in
    let before : now.value.start ≤ h = (let l = x.are.before number m mark in omega (arith, l, begins)) in
    record {
      are = later_are (set_are number now x.are is before) (omega (arith, head-later item.head, value-longer value));
      fit = x.fit;
      node = node;
      v = v;
      item = item;
      value = value;
      all = child_following (set g.marks number now) level x.fit item (set_beside g number now is)
          (repeated_following now number refuses inside x.are is mark same first later x.fit item (x.all c node there)) x.all;
    }

-- after a comma the next item is expected
pub next_marking : {g : MarkState} {a : Container} {n h e next : ℕ} → IsMarkedItem g a n h e → IsSeparated g.text e next → IsMarking g a (n + 1) next
next_marking {g} {a} {n} {e = e} x comma =
    let first = after_space_later g.text e in
    let second = after_space_later g.text (after_space g.text e + 1) in
    record {
      are = later_are x.are (omega (arith, first, second, comma.1));
      fit = next_item x.fit x.item.head x.value comma.0 comma.1 refl;
      all = x.all;
    }

-- after the closing bracket no more items fit than were passed
none_more : {g : MarkState} {a : Container} {n h e j : ℕ} → IsMarkedItem g a n h e → IsEnd g.text a.kind e j → NoMore g.text a.point.place a.kind (n + 1)
none_more {a = a} {n} x k p f fits = elim (cases_order p n) [
  | inl same ↦ omega (arith, same)
  | inr (inl less) ↦ omega (arith, less)
  | inr (inr more) ↦ absurd (past_byte x.fit x.item x.value (λ c. closing_no_comma a.kind (sym k.0 ∙ c)) p f more fits)
]

-- and the mark of a child says what was seen of its node
closed_child : {g : MarkState} {i n j : ℕ} {prefix : Path} {s : Sight} (node : Node) → IsValue strict g.text i j → NoMore g.text i (kind_of node) n
    → IsSeen g.text i n node g.rule s → SightSays g i prefix s → ChildSays g i prefix node (λ below. SaysAll g prefix below)
closed_child node whole most (seen_none none) (sight_none old) = says_none old (none_of_all most none)
closed_child {g} {i = i} {n} {s = s} node whole most seen (sight_one {c} is later first true_mark below) =
    says_one is later first (one_of_all node whole most seen) true_mark below
closed_child node whole most seen (sight_two is later again) =
    let x = two_of_all node whole seen in
    says_twice is later again x.refuses x.is x.twice

-- so the container is closed
pub closed_marking : {g : MarkState} {a : Container} {n h e j : ℕ} → IsWholeLevel a → IsMarkedItem g a n h e → IsEnd g.text a.kind e j → IsClosed g a j
closed_marking {g} {a} {n} {e = e} level x k =
    let value = filled x.fit x.item.head x.value k.0 k.1 in
    let last = after_space_later g.text e in
    record {
      are = later_are x.are (omega (arith, last, k.1));
      value = value;
      items = (_, first_item (items_open x.fit) refl (items_not_empty x.fit) refl);
      each = λ c node is.
          let y = x.all c node is in
          let most : NoMore g.text a.point.place (kind_of node) (n + 1) = rw (level.kind c node is) (none_more x k) in
          closed_child node value most y.seen y.says;
    }

-- what begins with a bracket is no string with a backslash
pub bracket_plain : (t : List ℕ) {i j : ℕ} (kind : Kind) → byte t i ≡ opening kind → FlagsEscape t (record { start = i; end = j; escaped = false })
bracket_plain t kind b = (λ e. absurd cc, λ x. absurd (opening_no_quote kind (omega (arith, x.0, b))))

-- where there are no children, or no container of their kind begins, each finds none
pub none_begins : (t : List ℕ) (i : ℕ) {count : ℕ} {kind : Kind} (children : List Node) → count ≡ length children
    → ((c : ℕ) (node : Node) → slice_get children c ≡ Some node → kind_of node ≡ kind) → (count ≡ 0) ⊎ (byte t i ≢ opening kind) → (c : ℕ) (node : Node)
    → slice_get children c ≡ Some node → HasNoItems t i (kind_of node)
none_begins t i children counts kinds (inl none) c node is = absurd (omega (arith, counts, none, slice_get_within children c node is))
none_begins t i children counts kinds (inr other) c node is = inl (rw (kinds c node is) other)

-- nor where an empty one does
pub none_in_empty : (t : List ℕ) (i : ℕ) {kind : Kind} (children : List Node)
    → ((c : ℕ) (node : Node) → slice_get children c ≡ Some node → kind_of node ≡ kind) → byte t i ≡ opening kind
    → byte t (after_space t (i + 1)) ≡ closing kind → (c : ℕ) (node : Node) → slice_get children c ≡ Some node → HasNoItems t i (kind_of node)
none_in_empty t i children kinds o k c node is = inr (rw (kinds c node is) (o, k))

-- a value without items is passed, and each child finds none
pub passed_without : {g : MarkState} {prefix : Path} {children : List Node} {start place : ℕ} {x : ValueSpan} → AreMarks g start
    → IsChildren g.paths prefix children → IsValue strict g.text start place → x.start ≡ start → x.end ≡ place → FlagsEscape g.text x
    → ((c : ℕ) (node : Node) → slice_get children c ≡ Some node → HasNoItems g.text start (kind_of node))
    → IsPassedBy g prefix children start place (record { value = x; has_items = false; again = None })
passed_without are all value begins ends escaped each = record {
  are = later_are are (omega (arith, value-longer value));
  begins = begins;
  ends = ends;
  first = refl;
  whole = record { value = rw (begins, ends) value; escaped = escaped };
  all = all;
  each = λ c node is. says_no_items refl (rw begins (each c node is));
}

-- one with items is passed when it has closed
pub passed_with : {g : MarkState} {a : Container} {place : ℕ} {x : ValueSpan} → IsWholeLevel a → IsChildren g.paths a.point.prefix a.children → IsClosed g a place
    → x.start ≡ a.point.place → x.end ≡ place → FlagsEscape g.text x
    → IsPassedBy g a.point.prefix a.children a.point.place place (record { value = x; has_items = true; again = None })
passed_with level all closed begins ends escaped = record {
  are = closed.are;
  begins = begins;
  ends = ends;
  first = refl;
  whole = record { value = rw (begins, ends) closed.value; escaped = escaped };
  all = all;
  each = λ c node is. says_items refl (rw (begins, level.kind c node is) closed.items) (rw begins (closed.each c node is));
}

-- once its own mark is set, it is marked
pub passed_marked : {g : MarkState} {prefix : Path} {children : List Node} {start place : ℕ} {m : Mark} (number : ℕ) → slice_get g.prefixes number ≡ Some prefix → IsPassedBy g prefix children start place m
    → IsMarked (with_marks g (set g.marks number m)) prefix start place
passed_marked {g} {prefix} {children} {start} {place} {m} number is x =
    let inside : m.value.start ≤ place = (let l = value-longer x.whole.value in omega (arith, l, x.ends)) in
    let kept : KeepsBelow g (set g.marks number m) prefix = λ node more. set_kept g number m is (prefix ++ node ∷ more) (longer_apart prefix node more) in
    record {
      are = set_are number m x.are is inside;
      mark = m;
      is = set_mark number m x.are is;
      begins = x.begins;
      ends = x.ends;
      first = x.first;
      whole = x.whole;
      says = λ k rest h. path_says g number x.all kept x k rest h;
    }
  where
    path_says : (g : MarkState) {prefix : Path} {children : List Node} {start place : ℕ} {m : Mark} (number : ℕ) → IsChildren g.paths prefix children
        → KeepsBelow g (set g.marks number m) prefix → IsPassedBy g prefix children start place m → (k : ℕ) (rest : Path)
        → slice_get g.paths k ≡ Some (prefix ++ rest) → Says (with_marks g (set g.marks number m)) prefix m rest
    path_says g number all kept x k [] h = tt
    path_says g {prefix} {children} {start} {m = m} number all kept x k (node ∷ rest) h =
        let c = held children ((all.exact node).1 (record { rest = rest; path = contained g.paths k h })) in
        let below : KeepsBelow g (set g.marks number m) (prefix ++ node ∷ []) = λ next more. rw append_assoc (kept node (next ∷ more)) in
        node_kept (kept node []) (λ d y. says_kept g (set g.marks number m) (prefix ++ node ∷ []) d rest below (y k rest (rw append_assoc h))) (x.each c.0 node c.1)
