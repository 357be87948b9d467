-- Copies of values that are being made.
use Rattle.std.specs.Prelude.{◌≡◌, ℕ, ◌+◌, List, [], ◌∷◌, ◌++◌, map, drop, slice_get, Option, Some, None}
use Rattle.sonic_owned.specs.Forms.{Form, level, unnamed, named}
use Rattle.sonic_owned.specs.Internal.Bulks.{members_bulk}
use Rattle.sonic_owned.specs.Internal.Levels.{elements_of, members_of}
use Rattle.sonic_owned.specs.Views.{form}
use Rattle.sonic_owned.specs.declared.value.copy.Copying.{Copying}
use Rattle.sonic_owned.specs.declared.value.copy.Copying.TheVariants.{Whole, Array, Object}
use Rattle.sonic_text.specs.declared.kind.Kind.TheVariants as kind

-- the form of the copy once the items that are left are copied too
abbrev pub copied_form : Copying → Form
copied_form (Whole v) = form v
copied_form (Array vs made) = level kind.Array (unnamed (elements_of made.items ++ elements_of vs.now))
copied_form (Object ms made) = level kind.Object (named (members_of made.items ++ members_of ms.now))

-- the form of the first item that is left
abbrev pub next_form : Copying → Option Form
next_form (Whole v) = None
next_form (Array vs made) = slice_get (elements_of vs.now) 0
next_form (Object ms made) = slice_get (map (λ (m : List ℕ × Form). m.1) (members_of ms.now)) 0

-- how much the items that are left hold, and those after the first
abbrev pub copying_bulk : Copying → ℕ
copying_bulk (Whole v) = 1
copying_bulk (Array vs made) = 2 + members_bulk (unnamed (elements_of vs.now))
copying_bulk (Object ms made) = 2 + members_bulk (named (members_of ms.now))

abbrev pub waiting_bulk : Copying → ℕ
waiting_bulk (Whole v) = 0
waiting_bulk (Array vs made) = 2 + members_bulk (unnamed (elements_of (drop 1 vs.now)))
waiting_bulk (Object ms made) = 2 + members_bulk (named (members_of (drop 1 ms.now)))

abbrev pub waiting_bulks : List Copying → ℕ
waiting_bulks [] = 0
waiting_bulks (u ∷ us) = waiting_bulk u + waiting_bulks us

-- with these levels open, the outermost first, a copy of the form f is being made, and next comes g
abbrev pub AreOpen : Form → List Copying → Form → Type 0
AreOpen f [] g = f ≡ g
AreOpen f (u ∷ us) g = (copied_form u ≡ f) × ((h : Form) × (next_form u ≡ Some h) × AreOpen h us g)

-- an item g is copied where it comes next
pub record HasCopied (u : Copying) (g : Form) (w : Copying) : Type 0 where
  pub same : copied_form w ≡ copied_form u
  pub less : copying_bulk w ≡ waiting_bulk u
