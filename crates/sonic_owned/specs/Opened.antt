-- Forms whose first level is opened.
use Rattle.std.specs.Prelude.{◌≡◌, ℕ, List, [], ◌∷◌}
use Rattle.sonic_lazy.specs.Items.{Item, AreItems, AreClosed}
use Rattle.sonic_lazy.specs.Scalars.{container, scalar_of}
use Rattle.sonic_find.specs.Answers.{span_text}
use Rattle.sonic_owned.specs.Forms.{Form, raw, level, Members, no_member, member}
use Rattle.sonic_text.specs.declared.kind.Kind.{Kind}

-- the items of a text, each with its own text, which isn't opened
abbrev pub raw_members : List ℕ → List Item → Members
raw_members t [] = no_member
raw_members t (x ∷ xs) = member x.label (raw (span_text t x.span)) (raw_members t xs)

-- these are all items of the container of this kind that begins the text
pub record AreAllMembers (t : List ℕ) (kind : Kind) (ms : Members) : Type 0 where
  pub count : ℕ
  pub items : List Item
  pub are : AreItems t kind count items
  pub closed : AreClosed t kind count
  pub shown : ms ≡ raw_members t items

-- a container that isn't opened
abbrev pub IsClosedContainer : Form → Type 0
IsClosedContainer (raw b) = (kind : Kind) × (scalar_of b ≡ container kind)
IsClosedContainer (level kind ms) = ⊥

-- and one of this kind
abbrev pub IsClosedOf : Kind → Form → Type 0
IsClosedOf kind (raw b) = scalar_of b ≡ container kind
IsClosedOf kind (level k ms) = ⊥

-- the second form is the first with its first level opened: a container that wasn't is the level of its items, and everything else is as it was
pub data IsOpened (f g : Form) : Type 0 where
  as_it_was : ¬ IsClosedContainer f → g ≡ f → IsOpened f g
  level_opened : {b : List ℕ} {kind : Kind} {ms : Members} → f ≡ raw b → scalar_of b ≡ container kind → AreAllMembers b kind ms → g ≡ level kind ms → IsOpened f g
