-- What a value becomes, where a part of it was lent.
use Rattle.std.specs.Prelude.{◌≡◌, ◌<◌, List, length, Option, Some, None, Result, Ok, Err, ⊤}
use Rattle.std.specs.Borrow.{MutBor, GName}
use Rattle.std.specs.Option.{ghost_name_of}
use Rattle.sonic_error.specs.declared.error.Error.{Error}
use Rattle.sonic_owned.specs.Forms.{Form}
use Rattle.sonic_owned.specs.Reached.{IsKeptAlong}
use Rattle.sonic_owned.specs.Views.{form}
use Rattle.sonic_owned.specs.declared.value.OwnedLazyValue.{OwnedLazyValue}
use Rattle.sonic_pointer.specs.Nodes.{path_of}
use Rattle.sonic_pointer.specs.declared.node.PointerNode.{PointerNode}
use mathlib.Core.Option as maybe

-- where nothing is lent nothing is changed along the path, and nothing at all where it is too long
abbrev pub IsLeftBehind : List PointerNode → Form → Form → Type 0
IsLeftBehind path f h = IsKeptAlong (path_of path) f h × (255 < length path → h ≡ f)

-- what is lent, or nothing, or an error
abbrev pub LoanAnswer : Type 0 → Type 0
LoanAnswer L = Result (Option (MutBor L)) Error

-- the name of the reference that is lent
abbrev pub answer_name : {L : Type 0} → LoanAnswer L → maybe.Option GName
answer_name (Ok o) = ghost_name_of o
answer_name (Err e) = maybe.none

-- this holds of the form of what is lent
abbrev pub OfAnswer : LoanAnswer OwnedLazyValue → (Form → Type 0) → Type 0
OfAnswer (Ok (Some part)) P = P (form part.now)
OfAnswer (Ok None) P = ⊤
OfAnswer (Err e) P = ⊤
