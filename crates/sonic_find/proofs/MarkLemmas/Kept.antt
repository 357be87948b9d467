-- The mark of a prefix is one, and stays as it is while others are set.
use Rattle.std.proofs.Common.{◌≡◌, ◌≢◌, ◌∙◌, inl, inr, sym, refl, ℕ, ◌<◌, ◌≤◌, List, [], ◌∷◌, ◌++◌, append_assoc, append-nil, length, set, arith}
use Rattle.std.proofs.lemmas.List.{append_cancel_left, length-set}
use Rattle.std.proofs.lemmas.Option.{same_Some, slice_get_within}
use Rattle.std.specs.Prelude.{Some, slice_get}
use Rattle.sonic_find.proofs.WalkLemmas.List.{set_here, set_cases}
use Rattle.sonic_find.specs.Internal.Marks.{MarkState, IsMarkOf, AreMarks, KeepsMarks, KeepsMark, KeptBeside, ChildSays, says_none, says_twice, says_one, NodeSays, says_no_items, says_items, Says, SaysAll, Sight, SightSays, sight_none, sight_one, sight_two}
use Rattle.sonic_find.specs.declared.marks.Mark.{Mark}
use Rattle.sonic_pointer.specs.declared.rule.KeyRule.{KeyRule}
use Rattle.sonic_pointer.specs.declared.rule.KeyRule.TheVariants.{First, Last, Refuse}
use Rattle.sonic_text.specs.Paths.{Node, Path}

-- with these marks
abbrev pub with_marks : MarkState → List Mark → MarkState
with_marks g marks = record g { marks = marks }

-- a prefix has one mark
pub mark_one : {g : MarkState} {prefix : Path} {a b : Mark} {place : ℕ} → AreMarks g place → IsMarkOf g prefix a → IsMarkOf g prefix b → a ≡ b
mark_one {g} {prefix} {a} {b} are x y =
    let there : slice_get g.marks y.number ≡ Some a = rw (are.one x.number y.number prefix x.is y.is) at x.mark in
    same_Some a b (sym there ∙ y.mark)

-- the number of a prefix is one of a mark
pub number_within : {g : MarkState} {prefix : Path} {place : ℕ} (n : ℕ) → AreMarks g place → slice_get g.prefixes n ≡ Some prefix → n < length g.marks
number_within {g} {prefix} n are is = omega (arith, slice_get_within g.prefixes n prefix is, are.long)

-- a mark that is kept is there, and was
pub kept_mark : {g : MarkState} {prefix : Path} {marks : List Mark} {m : Mark} → KeepsMark g marks prefix → IsMarkOf g prefix m
    → IsMarkOf (with_marks g marks) prefix m
kept_mark kept x = record { number = x.number; is = x.is; mark = kept x.number x.is ∙ x.mark }

pub was_mark : {g : MarkState} {prefix : Path} {marks : List Mark} {m : Mark} → KeepsMark g marks prefix → IsMarkOf (with_marks g marks) prefix m
    → IsMarkOf g prefix m
was_mark kept x = record { number = x.number; is = x.is; mark = sym (kept x.number x.is) ∙ x.mark }

-- what it says of a node stays so
child_kept : {g : MarkState} {i : ℕ} {prefix : Path} {node : Node} {marks : List Mark} {B C : Mark → Type 0} → KeepsMark g marks prefix
    → ((m : Mark) → B m → C m) → ChildSays g i prefix node B → ChildSays (with_marks g marks) i prefix node C
child_kept kept f (says_none old none) = says_none (λ c is. old c (was_mark kept is)) none
child_kept kept f (says_twice is later again refuses same y) = says_twice (kept_mark kept is) later again refuses same y
child_kept kept f (says_one {c} is later first leads whole below) = says_one (kept_mark kept is) later first leads whole (f c below)

pub node_kept : {g : MarkState} {m : Mark} {prefix : Path} {node : Node} {marks : List Mark} {B C : Mark → Type 0} → KeepsMark g marks prefix
    → ((c : Mark) → B c → C c) → NodeSays g m prefix node B → NodeSays (with_marks g marks) m prefix node C
node_kept kept f (says_no_items none x) = says_no_items none x
node_kept kept f (says_items has x child) = says_items has x (child_kept kept f child)

-- each longer prefix keeps its mark
abbrev pub KeepsBelow : MarkState → List Mark → Path → Type 0
KeepsBelow g marks prefix = (node : Node) (more : Path) → KeepsMark g marks (prefix ++ node ∷ more)

-- then what is said of the rest of a path stays so
pub says_kept : (g : MarkState) (marks : List Mark) (prefix : Path) (m : Mark) (rest : Path) → KeepsBelow g marks prefix → Says g prefix m rest
    → Says (with_marks g marks) prefix m rest
says_kept g marks prefix m [] kept x = tt
says_kept g marks prefix m (node ∷ rest) kept x =
    let below : KeepsBelow g marks (prefix ++ node ∷ []) = λ next more. rw append_assoc (kept node (next ∷ more)) in
    node_kept (kept node []) (λ c y. says_kept g marks (prefix ++ node ∷ []) c rest below y) x

-- and of all paths
pub says_all_kept : (g : MarkState) (marks : List Mark) (prefix : Path) (m : Mark) → KeepsBelow g marks prefix → SaysAll g prefix m
    → SaysAll (with_marks g marks) prefix m
says_all_kept g marks prefix m kept x = λ k rest h. says_kept g marks prefix m rest kept (x k rest h)

-- a prefix and all longer ones keep their marks
abbrev pub KeepsFrom : MarkState → List Mark → Path → Type 0
KeepsFrom g marks prefix = (more : Path) → KeepsMark g marks (prefix ++ more)

kept_here : (g : MarkState) (marks : List Mark) (prefix : Path) → KeepsFrom g marks prefix → KeepsMark g marks prefix
kept_here g marks prefix kept = rw (append-nil prefix) at (kept [])

-- then what was seen of its node is said as before
pub sight_kept : (g : MarkState) (marks : List Mark) {i : ℕ} (prefix : Path) {s : Sight} → KeepsFrom g marks prefix
    → SightSays g i prefix s → SightSays (with_marks g marks) i prefix s
sight_kept g marks prefix kept (sight_none old) = sight_none (λ c is. old c (was_mark (kept_here g marks prefix kept) is))
sight_kept g marks prefix kept (sight_one {c} is later first whole says) =
    sight_one (kept_mark (kept_here g marks prefix kept) is) later first whole (says_all_kept g marks prefix c (λ node more. kept (node ∷ more)) says)
sight_kept g marks prefix kept (sight_two is later again) = sight_two (kept_mark (kept_here g marks prefix kept) is) later again

-- the prefixes of two children differ, and so do all longer ones
pub child_apart : (prefix : Path) {a b : Node} → a ≢ b → (more rest : Path) → (prefix ++ b ∷ []) ++ more ≢ (prefix ++ a ∷ []) ++ rest
child_apart prefix {a} {b} other more rest e =
    let same : prefix ++ b ∷ more ≡ prefix ++ a ∷ rest = rw (append_assoc, append_assoc) at e in
    let tails : b ∷ more ≡ a ∷ rest = append_cancel_left prefix (b ∷ more) (a ∷ rest) same in
    other cc

-- a longer prefix is another
pub longer_apart : (prefix : Path) (node : Node) (more : Path) → prefix ++ node ∷ more ≢ prefix
longer_apart prefix node more e =
    let same : prefix ++ node ∷ more ≡ prefix ++ [] = rw (append-nil prefix) e in
    let tails : node ∷ more ≡ [] = append_cancel_left prefix (node ∷ more) [] same in
    absurd cc

-- where one child's marks are set, those of another are kept
pub kept_from_other : (g : MarkState) (marks : List Mark) (prefix : Path) {a b : Node} → KeptBeside g marks (prefix ++ a ∷ []) → a ≢ b
    → KeepsFrom g marks (prefix ++ b ∷ [])
kept_from_other g marks prefix {a} {b} beside other = λ more. beside ((prefix ++ b ∷ []) ++ more) (λ rest e. child_apart prefix other more rest e)

-- and those of what doesn't begin with the prefix of both
pub kept_beside : (g : MarkState) (marks : List Mark) (prefix : Path) (a : Node) → KeptBeside g marks (prefix ++ a ∷ []) → KeptBeside g marks prefix
kept_beside g marks prefix a beside = λ other apart. beside other (λ rest e. apart (a ∷ rest) (rw append_assoc at e))

-- where the mark of one prefix is set, each other is kept
pub set_kept : (g : MarkState) {prefix : Path} (n : ℕ) (m : Mark) → slice_get g.prefixes n ≡ Some prefix → (other : Path) → other ≢ prefix
    → KeepsMark g (set g.marks n m) other
set_kept g {prefix} n m is other apart = λ k there. elim (set_cases g.marks n k m) [
  | inr kept ↦ kept.1
  | inl same ↦
      let here : slice_get g.prefixes n ≡ Some other = rw same at there in
      absurd (apart (same_Some other prefix (sym here ∙ is)))
]

-- so it is beside that prefix
pub set_beside : (g : MarkState) {prefix : Path} (n : ℕ) (m : Mark) → slice_get g.prefixes n ≡ Some prefix → KeptBeside g (set g.marks n m) prefix
set_beside g {prefix = prefix} n m is = λ other apart. set_kept g n m is other (λ e. apart [] (rw append-nil e))

-- and the prefix has that mark
pub set_mark : {g : MarkState} {prefix : Path} {place : ℕ} (n : ℕ) (m : Mark) → AreMarks g place → slice_get g.prefixes n ≡ Some prefix
    → IsMarkOf (with_marks g (set g.marks n m)) prefix m
set_mark {g} n m are is = record { number = n; is = is; mark = set_here g.marks n m (number_within n are is) }

-- marks still begin no later than the place
pub set_are : {g : MarkState} {prefix : Path} {place : ℕ} (n : ℕ) (m : Mark) → AreMarks g place → slice_get g.prefixes n ≡ Some prefix → m.value.start ≤ place
    → AreMarks (with_marks g (set g.marks n m)) place
set_are {g} {prefix} {place} n m are is l = record {
  unmixed = are.unmixed;
  one = are.one;
  long = length-set g.marks n m ∙ are.long;
  before = λ k c h. elim (set_cases g.marks n k m) [
    | inr kept ↦ are.before k c (sym kept.1 ∙ h)
    | inl same ↦
        let here : slice_get (set g.marks n m) n ≡ Some c = rw same at h in
        let one : m ≡ c = same_Some m c (sym (set_here g.marks n m (number_within n are is)) ∙ here) in
        rw one at l
  ];
}

-- or than a later one
pub later_are : {g : MarkState} {place next : ℕ} → AreMarks g place → place ≤ next → AreMarks g next
later_are are l = record { unmixed = are.unmixed; one = are.one; long = are.long; before = λ k c h. omega (arith, are.before k c h, l) }

-- and where the first of equal keys counts there are none
pub keeps_later : {g : MarkState} {place next : ℕ} → KeepsMarks g place → place ≤ next → KeepsMarks g next
keeps_later (inl first) l = inl first
keeps_later (inr are) l = inr (later_are are l)

-- so it is by the rule
pub keeps_by : {g : MarkState} {place : ℕ} (r : KeyRule) → g.rule ≡ r → (r ≢ First → AreMarks g place) → KeepsMarks g place
keeps_by First e are = inl e
keeps_by Last e are = inr (are (λ f. cc))
keeps_by Refuse e are = inr (are (λ f. cc))

-- what is kept twice is kept
pub kept_twice : (g : MarkState) (more most : List Mark) (prefix : Path) → KeptBeside g more prefix → KeptBeside (with_marks g more) most prefix
    → KeptBeside g most prefix
kept_twice g more most prefix x y = λ other apart n is. y other apart n is ∙ x other apart n is

-- nothing is set
pub not_set : (g : MarkState) (prefix : Path) → KeptBeside g g.marks prefix
not_set g prefix = λ other apart n is. refl
