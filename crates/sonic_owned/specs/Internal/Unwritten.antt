-- What is still to be written of a value whose text is written piece by piece.
use Rattle.std.specs.Prelude.{ℕ, ◌+◌, Bool, List, [], ◌∷◌, ◌++◌, Option, Some, None, if◌then◌else◌}
use Rattle.std.specs.Borrow.{Bor}
use Rattle.sonic_owned.specs.Forms.{Members, text, members_text, unnamed, named}
use Rattle.sonic_owned.specs.Internal.Bulks.{members_bulk}
use Rattle.sonic_owned.specs.Internal.Levels.{elements_of, members_of}
use Rattle.sonic_owned.specs.Views.{form}
use Rattle.sonic_owned.specs.declared.value.OwnedLazyValue.{OwnedLazyValue}
use Rattle.sonic_owned.specs.declared.value.unwritten.Unwritten.{Unwritten}
use Rattle.sonic_owned.specs.declared.value.unwritten.Unwritten.TheVariants.{Elements, Members as AMembers}

-- the items that are left
abbrev pub items_left : Unwritten → Members
items_left (Elements vs more alloc) = unnamed (elements_of vs.now)
items_left (AMembers ms more alloc) = named (members_of ms.now)

-- a comma, if an item came before
abbrev pub comma : Bool → List ℕ
comma more = if more then 44 ∷ [] else []

-- their text, up to the end of the level
abbrev pub left_text : Unwritten → List ℕ
left_text (Elements vs more alloc) = members_text (comma more) (items_left (Elements vs more alloc)) ++ 93 ∷ []
left_text (AMembers ms more alloc) = members_text (comma more) (items_left (AMembers ms more alloc)) ++ 125 ∷ []

-- what is left of a value, if it is a level
abbrev pub text_left : Option Unwritten → List ℕ
text_left None = []
text_left (Some u) = left_text u

-- what is left of the levels that are open, the outermost first
abbrev pub opened_text : List Unwritten → List ℕ
opened_text [] = []
opened_text (u ∷ us) = opened_text us ++ left_text u

-- how much all of them hold
abbrev pub opened_bulk : List Unwritten → ℕ
opened_bulk [] = 0
opened_bulk (u ∷ us) = 1 + members_bulk (items_left u) + opened_bulk us

-- what is left of all levels, with the one in hand, if there is one; and how much that holds
abbrev pub all_left : Option Unwritten → List Unwritten → List ℕ
all_left None us = []
all_left (Some u) us = left_text u ++ opened_text us

abbrev pub all_bulk : Option Unwritten → List Unwritten → ℕ
all_bulk None us = 0
all_bulk (Some u) us = 1 + members_bulk (items_left u) + opened_bulk us

-- what is left after the head of an item
abbrev pub item_left : Unwritten → Option (Bor OwnedLazyValue) → List ℕ
item_left u None = []
item_left u (Some v) = text (form v.now) ++ left_text u

-- and after the items before a level
abbrev pub level_left : Unwritten → Option Unwritten → List ℕ
level_left u None = []
level_left u (Some inner) = left_text inner ++ left_text u
