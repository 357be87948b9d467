-- What the marks of the prefixes of a tree say, in values that have to be whole before a key leads on.
use Rattle.std.specs.Prelude.{◌≡◌, ◌≢◌, ◌⊎◌, ℕ, ◌+◌, ◌<◌, ◌≤◌, List, [], ◌∷◌, ◌++◌, Some, None, length, slice_get, IsTrue, IsFalse}
use Rattle.sonic_text.specs.declared.kind.Kind.{Kind}
use Rattle.sonic_text.specs.Places.{byte, after_space}
use Rattle.sonic_text.specs.Strings.{strict}
use Rattle.sonic_text.specs.Paths.{Node, Path, key}
use Rattle.sonic_text.specs.Values.{opening, closing, IsValue, ItemsFit}
use Rattle.sonic_pointer.specs.Paths.{IsChildren, IsUnmixed}
use Rattle.sonic_pointer.specs.Views.{HaveOneNumber}
use Rattle.sonic_pointer.specs.declared.rule.KeyRule.{KeyRule}
use Rattle.sonic_pointer.specs.declared.rule.KeyRule.TheVariants.{First, Last, Refuse}
use Rattle.sonic_find.specs.declared.marks.Mark.{Mark}
use Rattle.sonic_parser.specs.ValueSpans.{FlagsEscape}
use Rattle.sonic_find.specs.Internal.Walk.{Container}
use Rattle.sonic_find.specs.Paths.{kind_of, IsNamed, LeadsOn, Repeats, LeadsBy}

-- the marks of a walk by its rule, over its text, and the prefixes of the paths that have them by their numbers
pub record MarkState : Type 0 where
  pub rule : KeyRule
  pub text : List ℕ
  pub paths : List Path
  pub prefixes : List Path
  pub marks : List Mark

-- the prefix has this mark
pub record IsMarkOf (g : MarkState) (prefix : Path) (m : Mark) : Type 0 where
  pub number : ℕ
  pub is : slice_get g.prefixes number ≡ Some prefix
  pub mark : slice_get g.marks number ≡ Some m

-- each prefix has one, of a value that doesn't begin after the place, and keys and indexes don't mix
pub record AreMarks (g : MarkState) (place : ℕ) : Type 0 where
  pub unmixed : IsUnmixed g.paths
  pub one : HaveOneNumber g.prefixes
  pub long : length g.marks ≡ length g.prefixes
  pub before : (n : ℕ) (m : Mark) → slice_get g.marks n ≡ Some m → m.value.start ≤ place

-- where the first of equal keys counts there are none
abbrev pub KeepsMarks : MarkState → ℕ → Type 0
KeepsMarks g place = (g.rule ≡ First) ⊎ AreMarks g place

-- the prefix has the mark that it had
abbrev pub KeepsMark : MarkState → List Mark → Path → Type 0
KeepsMark g marks prefix = (n : ℕ) → slice_get g.prefixes n ≡ Some prefix → slice_get marks n ≡ slice_get g.marks n

-- so it is for each prefix that doesn't begin with this one
abbrev pub KeptBeside : MarkState → List Mark → Path → Type 0
KeptBeside g marks prefix = (other : Path) → ((rest : Path) → other ≢ prefix ++ rest) → KeepsMark g marks other

-- the mark is of a whole value
pub record IsWholeMark (t : List ℕ) (m : Mark) : Type 0 where
  pub value : IsValue strict t m.value.start m.value.end
  pub escaped : FlagsEscape t m.value

-- no container of this kind with items begins at i
abbrev pub HasNoItems : List ℕ → ℕ → Kind → Type 0
HasNoItems t i kind = (byte t i ≢ opening kind) ⊎ (byte t i ≡ opening kind) × (byte t (after_space t (i + 1)) ≡ closing kind)

-- one does
abbrev pub HasItems : List ℕ → ℕ → Kind → Type 0
HasItems t i kind = (h : ℕ) × ItemsFit strict t kind i 0 h

-- what the mark of a child's prefix says of its node in the whole value at i, below which this holds of the mark where the node leads on: it names no item, it names a second one, which is refused, or it leads on to the value of the mark
pub data ChildSays (g : MarkState) (i : ℕ) (prefix : Path) (node : Node) (Below : Mark → Type 0) : Type 0 where
  says_none : ((c : Mark) → IsMarkOf g prefix c → c.value.start ≤ i) → ((v : ℕ) → ¬ LeadsOn g.text i node v) → ChildSays g i prefix node Below
  says_twice : {c : Mark} {q : ℕ} {k : List ℕ} → IsMarkOf g prefix c → i < c.value.start → c.again ≡ Some q → g.rule ≡ Refuse → node ≡ key k
      → Repeats g.text i (key k) q → ChildSays g i prefix node Below
  says_one : {c : Mark} → IsMarkOf g prefix c → i < c.value.start → c.again ≡ None → LeadsBy g.rule g.text i node c.value.start → IsWholeMark g.text c → Below c
      → ChildSays g i prefix node Below

-- what the mark of a prefix says of a node, whose own prefix is this
pub data NodeSays (g : MarkState) (m : Mark) (prefix : Path) (node : Node) (Below : Mark → Type 0) : Type 0 where
  says_no_items : IsFalse m.has_items → HasNoItems g.text m.value.start (kind_of node) → NodeSays g m prefix node Below
  says_items : IsTrue m.has_items → HasItems g.text m.value.start (kind_of node) → ChildSays g m.value.start prefix node Below → NodeSays g m prefix node Below

-- and of the rest of a path
abbrev pub Says : MarkState → Path → Mark → Path → Type 0
Says g prefix m [] = Unit
Says g prefix m (node ∷ rest) = NodeSays g m (prefix ++ node ∷ []) node (λ c. Says g (prefix ++ node ∷ []) c rest)

-- and of all paths with the prefix
abbrev pub SaysAll : MarkState → Path → Mark → Type 0
SaysAll g prefix m = (k : ℕ) (rest : Path) → slice_get g.paths k ≡ Some (prefix ++ rest) → Says g prefix m rest

-- the value from start to place was passed for a prefix: this mark of it says what each child that follows has there
pub record IsPassedBy (g : MarkState) (prefix : Path) (children : List Node) (start place : ℕ) (m : Mark) : Type 0 where
  pub are : AreMarks g place
  pub begins : m.value.start ≡ start
  pub ends : m.value.end ≡ place
  pub first : m.again ≡ None
  pub whole : IsWholeMark g.text m
  pub all : IsChildren g.paths prefix children
  pub each : (c : ℕ) (node : Node) → slice_get children c ≡ Some node
      → NodeSays g m (prefix ++ node ∷ []) node (λ below. SaysAll g (prefix ++ node ∷ []) below)

-- and the prefix has a mark that says so of all paths that begin with it
pub record IsMarked (g : MarkState) (prefix : Path) (start place : ℕ) : Type 0 where
  pub are : AreMarks g place
  pub mark : Mark
  pub is : IsMarkOf g prefix mark
  pub begins : mark.value.start ≡ start
  pub ends : mark.value.end ≡ place
  pub first : mark.again ≡ None
  pub whole : IsWholeMark g.text mark
  pub says : SaysAll g prefix mark

-- what was seen of a node among the first items of a container: it named none, one that counts, whose value begins at v, or two that are refused, of which the second is at q
pub data Sight : Type 0 where
  none_seen : Sight
  one_seen : ℕ → Sight
  two_seen : ℕ → Sight

-- of the first n items the node names none
abbrev pub NoneAmong : List ℕ → ℕ → ℕ → Node → Type 0
NoneAmong t i n node = (p g v : ℕ) → p < n → ItemsFit strict t (kind_of node) i p g → ¬ IsNamed t (kind_of node) p g v node

-- of those after the m-th and before the n-th it names none
abbrev pub NoneBetween : List ℕ → ℕ → ℕ → ℕ → Node → Type 0
NoneBetween t i m n node = (p g u : ℕ) → m < p → p < n → ItemsFit strict t (kind_of node) i p g → ¬ IsNamed t (kind_of node) p g u node

-- of the first n items the node names the m-th, whose value begins at v, and none after it
pub record LastAmong (t : List ℕ) (i n : ℕ) (node : Node) (v : ℕ) : Type 0 where
  pub m : ℕ
  pub g : ℕ
  pub less : m < n
  pub fit : ItemsFit strict t (kind_of node) i m g
  pub item : IsNamed t (kind_of node) m g v node
  pub between : NoneBetween t i m n node

-- and none before it
pub record OnlyAmong (t : List ℕ) (i n : ℕ) (node : Node) (v : ℕ) : Type 0 where
  pub last : LastAmong t i n node v
  pub first : NoneAmong t i last.m node

-- it names this one first, and then this second one
pub record TwiceAmong (t : List ℕ) (i n : ℕ) (node : Node) (q : ℕ) : Type 0 where
  pub v : ℕ
  pub m : ℕ
  pub first : OnlyAmong t i m node v
  pub less : m < n
  pub w : ℕ
  pub fit : ItemsFit strict t (kind_of node) i m q
  pub item : IsNamed t (kind_of node) m q w node

-- what was seen is so by the rule: the last one counts, or the only one
pub data IsSeen (t : List ℕ) (i n : ℕ) (node : Node) : KeyRule → Sight → Type 0 where
  seen_none : {r : KeyRule} → NoneAmong t i n node → IsSeen t i n node r none_seen
  seen_last : {v : ℕ} → LastAmong t i n node v → IsSeen t i n node Last (one_seen v)
  seen_only : {v : ℕ} → OnlyAmong t i n node v → IsSeen t i n node Refuse (one_seen v)
  seen_twice : {q : ℕ} → TwiceAmong t i n node q → IsSeen t i n node Refuse (two_seen q)

-- and the mark of the node's prefix says it
pub data SightSays (g : MarkState) (i : ℕ) (prefix : Path) : Sight → Type 0 where
  sight_none : ((c : Mark) → IsMarkOf g prefix c → c.value.start ≤ i) → SightSays g i prefix none_seen
  sight_one : {c : Mark} → IsMarkOf g prefix c → i < c.value.start → c.again ≡ None → IsWholeMark g.text c → SaysAll g prefix c
      → SightSays g i prefix (one_seen c.value.start)
  sight_two : {c : Mark} {q : ℕ} → IsMarkOf g prefix c → i < c.value.start → c.again ≡ Some q → SightSays g i prefix (two_seen q)

-- after the first n items of a container this is known of a child
pub record IsFollowing (g : MarkState) (a : Container) (n : ℕ) (node : Node) : Type 0 where
  pub sight : Sight
  pub seen : IsSeen g.text a.point.place n node g.rule sight
  pub says : SightSays g a.point.place (a.point.prefix ++ node ∷ []) sight

-- and so of all
abbrev pub AllFollowing : MarkState → Container → ℕ → Type 0
AllFollowing g a n = (c : ℕ) (node : Node) → slice_get a.children c ≡ Some node → IsFollowing g a n node

-- the first n items of the container fit up to the next, and of each child this is known
pub record IsMarking (g : MarkState) (a : Container) (n next : ℕ) : Type 0 where
  pub are : AreMarks g next
  pub fit : ItemsFit strict g.text a.kind a.point.place n next
  pub all : AllFollowing g a n

-- so it is after the item that is expected at h, whose value ends at e
pub record IsMarkedItem (g : MarkState) (a : Container) (n h e : ℕ) : Type 0 where
  pub are : AreMarks g e
  pub fit : ItemsFit strict g.text a.kind a.point.place n h
  pub node : Node
  pub v : ℕ
  pub item : IsNamed g.text a.kind n h v node
  pub value : IsValue strict g.text v e
  pub all : AllFollowing g a (n + 1)

-- the container has closed at the place, and the marks say what each child has in it
pub record IsClosed (g : MarkState) (a : Container) (place : ℕ) : Type 0 where
  pub are : AreMarks g place
  pub value : IsValue strict g.text a.point.place place
  pub items : HasItems g.text a.point.place a.kind
  pub each : (c : ℕ) (node : Node) → slice_get a.children c ≡ Some node → ChildSays g a.point.place (a.point.prefix ++ node ∷ []) node
      (λ below. SaysAll g (a.point.prefix ++ node ∷ []) below)

-- the children of a prefix, in a container of the kind that they ask for, under a rule that reads it to its end
pub record IsWholeLevel (a : Container) : Type 0 where
  pub rule : a.point.asked.rule ≢ First
  pub children : IsChildren a.point.asked.paths a.point.prefix a.children
  pub kind : (c : ℕ) (node : Node) → slice_get a.children c ≡ Some node → kind_of node ≡ a.kind

-- the mark of a child's prefix is of a value inside that of this mark, which is the only one so far
pub record IsLive (g : MarkState) (m : Mark) (prefix : Path) (c : Mark) : Type 0 where
  pub is : IsMarkOf g prefix c
  pub items : IsTrue m.has_items
  pub later : m.value.start < c.value.start
  pub first : c.again ≡ None
