-- What a call that changes a part of a value leaves of it.
use Rattle.std.specs.Prelude.{◌≡◌, ◌<◌, ◌≤◌, ◌-◌, ℕ, [], ◌∷◌, Some, length}
use Rattle.sonic_error.specs.Errors.{IsPlainError}
use Rattle.sonic_error.specs.declared.code.ErrorCode.TheVariants.{NoMemory, RecursionLimitExceeded}
use Rattle.sonic_error.specs.declared.error.Error.{Error}
use Rattle.sonic_find.specs.Paths.{kind_of}
use Rattle.sonic_lazy.specs.Scalars.{container}
use Rattle.sonic_owned.specs.Forms.{Form, FormMeans, scalar_of_form}
use Rattle.sonic_owned.specs.Leading.{LeadsTo, item_in}
use Rattle.sonic_owned.specs.Opened.{IsOpened, IsClosedOf}
use Rattle.sonic_owned.specs.Puts.{put_in, IsPartOf, IsPut}
use Rattle.sonic_owned.specs.TreeEdits.{Change, Edit, set, push, pair, take, insert, remove}
use Rattle.sonic_owned.specs.Views.{form}
use Rattle.sonic_owned.specs.declared.value.OwnedLazyValue.{OwnedLazyValue}
use Rattle.sonic_text.specs.Paths.{Node, key, index, Path}
use Rattle.sonic_text.specs.Trees.{Tree}
use Rattle.sonic_text.specs.declared.kind.Kind.TheVariants.{Array, Object}

-- g means what f means
abbrev pub MeansStill : (f g : Form) → Type 0
MeansStill f g = (x : Tree) → FormMeans f x → FormMeans g x

-- the path leads to nothing in the form
abbrev pub LeadsNowhere : Path → Form → Type 0
LeadsNowhere path f = (g : Form) → ¬ LeadsTo path f g

-- after is before, but that levels on the way of the path may be opened in it, each of the kind that its node asks for
pub data IsOpenedAlong : Path → (before after : Form) → Type 0 where
  as_before : {path : Path} {f h : Form} → h ≡ f → IsOpenedAlong path f h
  opened_at : {node : Node} {rest : Path} {f h : Form} → scalar_of_form f ≡ container (kind_of node) → IsOpened f h → IsOpenedAlong (node ∷ rest) f h
  opened_below : {node : Node} {rest : Path} {f level i j h : Form} → IsOpened f level → item_in node level ≡ Some i → IsOpenedAlong rest i j → h ≡ put_in node j level
      → IsOpenedAlong (node ∷ rest) f h

-- nothing is changed but that: after means what before means, and no level is opened but on the way of the path
abbrev pub IsKeptAlong : Path → (before after : Form) → Type 0
IsKeptAlong path before after = MeansStill before after × IsOpenedAlong path before after

-- the way to the item that a change adds or removes: an array is opened for an element, and an object for a member
abbrev pub way_to_item : Change Form → Path
way_to_item (push w) = index 0 ∷ []
way_to_item (pair k w) = key k ∷ []
way_to_item (insert n w) = index n ∷ []
way_to_item (remove node) = node ∷ []
way_to_item (set w) = []
way_to_item take = []

-- on its way the path comes to a container that isn't opened, of the kind that the next node asks for
pub data IsOpenedOn : Path → Form → Type 0 where
  opened_here : {node : Node} {rest : Path} {f : Form} → IsClosedOf (kind_of node) f → IsOpenedOn (node ∷ rest) f
  opened_further : {node : Node} {rest : Path} {f level i : Form} → IsOpened f level → item_in node level ≡ Some i → IsOpenedOn rest i → IsOpenedOn (node ∷ rest) f

-- after is before but for the part to which the path leads, of which this was left
pub record IsChangedAt (path : Path) (before after : OwnedLazyValue) (Left : OwnedLazyValue → OwnedLazyValue → Type 0) : Type 0 where
  pub part : OwnedLazyValue
  pub left : OwnedLazyValue
  pub change : Left part left
  pub put : IsPut path (form before) (form part) (form left) (form after)

-- why the part isn't reached: the path has more than 255 nodes, or there is no memory
pub data IsUnreached (path : Path) (e : Error) : Type 0 where
  too_long : 255 < length path → IsPlainError e RecursionLimitExceeded → IsUnreached path e
  out_of_memory : length path ≤ 255 → IsPlainError e NoMemory → IsUnreached path e

-- a path leads somewhere in the form
abbrev pub LeadsSomewhere : Path → Form → Type 0
LeadsSomewhere path f = (g : Form) × LeadsTo path f g

-- the form is an array with a place at the position: the first, or one behind an element
abbrev pub HasPlace : ℕ → Form → Type 0
HasPlace n f = (scalar_of_form f ≡ container Array) × (0 < n → LeadsSomewhere (index (n - 1) ∷ []) f)

-- the change needs memory: it adds an item to the form, which has a place for it, or removes one that the form has, which is to be opened
abbrev pub ChangeNeedsMemory : Change Form → Form → Type 0
ChangeNeedsMemory (push w) f = scalar_of_form f ≡ container Array
ChangeNeedsMemory (pair k w) f = scalar_of_form f ≡ container Object
ChangeNeedsMemory (insert n w) f = HasPlace n f
ChangeNeedsMemory (remove node) f = IsClosedOf (kind_of node) f × LeadsSomewhere (node ∷ []) f
ChangeNeedsMemory (set w) f = ⊥
ChangeNeedsMemory take f = ⊥

-- the edit needs memory: a level on the way of its path is to be opened, or its change needs some at what that leads to
pub data NeedsMemory (e : Edit Form) (f : Form) : Type 0 where
  for_a_level : IsOpenedOn e.path f → NeedsMemory e f
  for_an_item : {part : Form} → IsPartOf e.path f part → ChangeNeedsMemory e.change part → NeedsMemory e f
