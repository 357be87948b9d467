-- Forms of values: how far a value is opened.
use Rattle.std.specs.Prelude.{◌≡◌, ℕ, List, [], ◌∷◌, ◌++◌, length, Option, Some, None}
use Rattle.std.specs.Str.{IsUtf8}
use Rattle.sonic_lazy.specs.Scalars.{Scalar, container, scalar_of}
use Rattle.sonic_text.specs.Quoting.{quoted}
use Rattle.sonic_text.specs.Trees.{Tree, Items, no_item, item, container as a_container, Means}
use Rattle.sonic_text.specs.Strings.{strict}
use Rattle.sonic_text.specs.Values.{opening, closing, IsValue}
use Rattle.sonic_text.specs.declared.kind.Kind.{Kind}
use Rattle.sonic_text.specs.declared.kind.Kind.TheVariants.{Array, Object}

mutual
  -- a value as it is kept: the text of one value, which isn't opened, or a level, a container whose items have forms of their own
  pub data Form : Type 0 where
    raw : List ℕ → Form
    level : Kind → Members → Form

  -- the items of a level, each member with its key
  pub data Members : Type 0 where
    no_member : Members
    member : Option (List ℕ) → Form → Members → Members

-- an element has no key, and a member one in UTF-8
abbrev pub IsLabel : Kind → Option (List ℕ) → Type 0
IsLabel Array l = l ≡ None
IsLabel Object l = (k : List ℕ) × (l ≡ Some k) × IsUtf8 k

mutual
  -- the form is that of a value: a text that isn't opened is one value in UTF-8, and items have the keys that their kind has
  pub data IsSound : Form → Type 0 where
    raw_sound : {b : List ℕ} → IsValue strict b 0 (length b) → IsUtf8 b → IsSound (raw b)
    level_sound : {kind : Kind} {ms : Members} → AreSound kind ms → IsSound (level kind ms)

  -- and so are those of the items of a level
  pub data AreSound : Kind → Members → Type 0 where
    none_sound : {kind : Kind} → AreSound kind no_member
    item_sound : {kind : Kind} {l : Option (List ℕ)} {f : Form} {ms : Members} → IsLabel kind l → IsSound f → AreSound kind ms → AreSound kind (member l f ms)

-- the items of an array, and those of an object
abbrev pub unnamed : List Form → Members
unnamed [] = no_member
unnamed (f ∷ fs) = member None f (unnamed fs)

abbrev pub named : List (List ℕ × Form) → Members
named [] = no_member
named (m ∷ ms) = member (Some m.0) m.1 (named ms)

-- what comes before an item's value: nothing, or a key and a colon
abbrev pub label_text : Option (List ℕ) → List ℕ
label_text None = []
label_text (Some k) = quoted k ++ 58 ∷ []

abbrev mutual
  -- the text of a form: a raw text as it is, and a level anew, with no white space
  pub text : Form → List ℕ
  text (raw b) = b
  text (level kind ms) = opening kind ∷ members_text [] ms ++ closing kind ∷ []

  -- the items' texts, with this before the first and a comma before each other
  pub members_text : List ℕ → Members → List ℕ
  members_text before no_member = []
  members_text before (member l f ms) = before ++ (label_text l ++ (text f ++ members_text (44 ∷ []) ms))

mutual
  -- the form means the tree
  pub data FormMeans : Form → Tree → Type 0 where
    raw_means : {b : List ℕ} {v : Tree} → Means b 0 (length b) v → FormMeans (raw b) v
    level_means : {kind : Kind} {ms : Members} {xs : Items} → MembersMean ms xs → FormMeans (level kind ms) (a_container kind xs)

  -- and the items of a level, those of the tree, one by one
  pub data MembersMean : Members → Items → Type 0 where
    no_member_means : MembersMean no_member no_item
    member_means : {l : Option (List ℕ)} {f : Form} {ms : Members} {v : Tree} {xs : Items} → FormMeans f v → MembersMean ms xs → MembersMean (member l f ms) (item l v xs)

-- what a value of this form is as far as its own first level says
abbrev pub scalar_of_form : Form → Scalar
scalar_of_form (raw b) = scalar_of b
scalar_of_form (level kind ms) = container kind
