-- What the edits of the program are, and what is left where not all of them are made.
use Rattle.std.specs.Prelude.{◌≡◌, ◌+◌, ◌++◌, ℕ, List, ◌∷◌}
use Rattle.sonic_edits.specs.declared.edit.Edit as declared
use Rattle.sonic_owned.specs.Changes.{change_of}
use Rattle.sonic_owned.specs.Edits.{IsEdit, IsRefused}
use Rattle.sonic_owned.specs.Forms.{Form}
use Rattle.sonic_owned.specs.Reached.{IsKeptAlong, NeedsMemory, way_to_item}
use Rattle.sonic_owned.specs.TreeEdits.{Edit}

-- an edit by its path and the forms of its values
abbrev pub edit_of : declared.Edit → Edit Form
edit_of e = record { path = e.path; change = change_of e.change }

-- edit n, counted from 1, is the first that is refused, and after it there is h: what the edits before it make of f, in which levels along its path may be opened
pub data StopsAt : List (Edit Form) → (f h : Form) → ℕ → Type 0 where
  stops_here : {e : Edit Form} {es : List (Edit Form)} {f h : Form} {n : ℕ} → IsRefused e f → IsKeptAlong e.path f h → n ≡ 1 → StopsAt (e ∷ es) f h n
  stops_later : {e : Edit Form} {es : List (Edit Form)} {f g h : Form} {n m : ℕ} → IsEdit e f g → StopsAt es g h m → n ≡ m + 1 → StopsAt (e ∷ es) f h n

-- there is no memory for an edit that takes some, and after it there is h: what the edits before it make of f, in which levels along its path may be opened, and
-- the one whose items it changes
pub data Fails : List (Edit Form) → (f h : Form) → Type 0 where
  fails_here : {e : Edit Form} {es : List (Edit Form)} {f h : Form} → NeedsMemory e f → IsKeptAlong (e.path ++ way_to_item e.change) f h → Fails (e ∷ es) f h
  fails_later : {e : Edit Form} {es : List (Edit Form)} {f g h : Form} → IsEdit e f g → Fails es g h → Fails (e ∷ es) f h
