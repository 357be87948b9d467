-- What serves the steps of a loan.
use Rattle.std.specs.Prelude.{◌≡◌, ◌-◌, ◌≤◌, ◌<◌, ℕ, List, ◌∷◌, drop, length, Some, None, Result, Ok, Err, ⊤}
use Rattle.std.specs.Borrow.{MutBor}
use Rattle.sonic_error.specs.Errors.{IsPlainError}
use Rattle.sonic_error.specs.declared.code.ErrorCode.TheVariants as code
use Rattle.sonic_error.specs.declared.error.Error.{Error}
use Rattle.sonic_find.specs.Paths.{kind_of}
use Rattle.sonic_lazy.specs.Scalars.{container}
use Rattle.sonic_owned.specs.Forms.{Form, level, Members, scalar_of_form}
use Rattle.sonic_owned.specs.Leading.{item_in}
use Rattle.sonic_owned.specs.Opened.{IsOpened, IsClosedOf}
use Rattle.sonic_owned.specs.Puts.{put_in, IsPartOf, IsPut}
use Rattle.sonic_owned.specs.Reached.{IsOpenedOn, LeadsNowhere}
use Rattle.sonic_owned.specs.Views.{form}
use Rattle.sonic_owned.specs.declared.value.OwnedLazyValue.{OwnedLazyValue}
use Rattle.sonic_owned.specs.declared.value.lend.Stop.{Stop}
use Rattle.sonic_owned.specs.declared.value.lend.Stop.TheVariants.{Nowhere, NoMemory, TooDeep}
use Rattle.sonic_pointer.specs.Nodes.{path_of}
use Rattle.sonic_pointer.specs.declared.node.PointerNode.{PointerNode}
use Rattle.sonic_text.specs.Paths.{Node, Path}
use Rattle.sonic_text.specs.declared.kind.Kind.{Kind}
use Rattle.sonic_owned.specs.Lends.{LoanAnswer}

-- with its first level opened, the form f has the item i for the node, and h is that level with j in its place
pub record IsItemPut (node : Node) (f i j h : Form) : Type 0 where
  pub level : Form
  pub opened : IsOpened f level
  pub item : item_in node level ≡ Some i
  pub put : h ≡ put_in node j level

-- with its first level opened, the form has this item for the node
pub record HasItem (node : Node) (f i : Form) : Type 0 where
  pub level : Form
  pub opened : IsOpened f level
  pub item : item_in node level ≡ Some i

-- and it has none: the level lacks it, or the form is of another kind
pub data HasNoItem (node : Node) (f : Form) : Type 0 where
  lacks_item : {level : Form} → IsOpened f level → item_in node level ≡ None → HasNoItem node f
  other_kind : ¬ (scalar_of_form f ≡ container (kind_of node)) → HasNoItem node f

-- the last nodes of a path, so many
abbrev pub last_nodes : ℕ → List PointerNode → Path
last_nodes left path = path_of (drop (length path - left) path)

-- this holds of the first of the last nodes, so many
pub record AtNode (left : ℕ) (path : List PointerNode) (P : Node → Type 0) : Type 0 where
  pub node : Node
  pub first : last_nodes left path ≡ node ∷ last_nodes (left - 1) path
  pub holds : P node

-- and if some are left, as many as the path has or fewer
abbrev pub IfAtNode : ℕ → List PointerNode → (Node → Type 0) → Type 0
IfAtNode left path P = 0 < left → left ≤ length path → AtNode left path P

-- what is lent, or why nothing is
abbrev pub Lending : Type 0
Lending = Result (MutBor OwnedLazyValue) Stop

-- the form of what is lent is a part, it is said that the path leads nowhere only where it does, and memory is wanted only where it is
abbrev pub IsLent : (Form → Type 0) → Type 0 → Type 0 → Lending → Type 0
IsLent Part Lost Opens (Ok part) = Part (form part.now)
IsLent Part Lost Opens (Err Nowhere) = Lost
IsLent Part Lost Opens (Err NoMemory) = Opens
IsLent Part Lost Opens (Err TooDeep) = ⊥

-- this holds of the form of what is lent
abbrev pub OfPart : Lending → (Form → Type 0) → Type 0
OfPart (Ok part) P = P (form part.now)
OfPart (Err stop) P = ⊤

-- where nothing is lent this holds of what is left, and where there is no memory that is as it was
abbrev pub IsLeft : Type 0 → Lending → Form → Form → Type 0
IsLeft Opened (Ok part) f h = ⊤
IsLeft Opened (Err Nowhere) f h = Opened
IsLeft Opened (Err NoMemory) f h = h ≡ f
IsLeft Opened (Err TooDeep) f h = ⊥

-- what is lent along a path, or why nothing is: the path is too long, or it is found
abbrev pub IsPathFound : List PointerNode → Form → Lending → Type 0
IsPathFound path f (Ok part) = (length path ≤ 255) × IsPartOf (path_of path) f (form part.now)
IsPathFound path f (Err Nowhere) = (length path ≤ 255) × LeadsNowhere (path_of path) f
IsPathFound path f (Err NoMemory) = (length path ≤ 255) × IsOpenedOn (path_of path) f
IsPathFound path f (Err TooDeep) = 255 < length path

-- what is answered where nothing is lent
abbrev pub IsRefusedLoan : {L : Type 0} → Stop → LoanAnswer L → Type 0
IsRefusedLoan Nowhere r = r ≡ Ok None
IsRefusedLoan NoMemory r = (e : Error) × (r ≡ Err e) × IsPlainError e code.NoMemory
IsRefusedLoan TooDeep r = (e : Error) × (r ≡ Err e) × IsPlainError e code.RecursionLimitExceeded

-- the answer that says what is lent, or why nothing is
abbrev pub IsLoanAnswer : {L : Type 0} → Result (MutBor L) Stop → LoanAnswer L → Type 0
IsLoanAnswer (Ok part) r = r ≡ Ok (Some part)
IsLoanAnswer (Err stop) r = IsRefusedLoan stop r

-- the level that is lent is the first of the form, or the form is of another kind, or it is a container that isn't opened
abbrev pub IsLevelFound : {L : Type 0} → Kind → Form → (L → Members) → Result (MutBor L) Stop → Type 0
IsLevelFound kind f items (Ok l) = IsOpened f (level kind (items l.now))
IsLevelFound kind f items (Err Nowhere) = ¬ (scalar_of_form f ≡ container kind)
IsLevelFound kind f items (Err NoMemory) = IsClosedOf kind f
IsLevelFound kind f items (Err TooDeep) = ⊥

-- h is f but for the part to which the path leads, of which this was left
pub record IsPartChanged (path : Path) (f h : Form) (Left : OwnedLazyValue → OwnedLazyValue → Type 0) : Type 0 where
  pub part : OwnedLazyValue
  pub left : OwnedLazyValue
  pub change : Left part left
  pub put : IsPut path f (form part) (form left) h
