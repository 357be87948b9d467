-- What a view shows, and what comes of a step.
use Rattle.std.specs.Prelude.{◌⊎◌, ◌↔◌, ℕ, List, Option, Some, None, IsSome}
use Rattle.std.specs.Cow.{IsBorrowedStr}
use Rattle.std.specs.declared.borrow.CowStr.{CowStr}
use Rattle.sonic_lazy.specs.LazyValues.{raw_bytes}
use Rattle.sonic_lazy.specs.StringTexts.{IsEscapedText}
use Rattle.sonic_owned.specs.Forms.{Form, raw}
use Rattle.sonic_owned.specs.Views.{form, made_text, read_text, array_in, object_in}
use Rattle.sonic_owned.specs.declared.value.LazyArray.{LazyArray}
use Rattle.sonic_owned.specs.declared.value.LazyObject.{LazyObject}
use Rattle.sonic_owned.specs.declared.view.OwnedView.{OwnedView}
use Rattle.sonic_owned.specs.declared.view.OwnedView.TheVariants.{Node, Raw}

-- the form of what is seen
abbrev pub view_form : OwnedView → Form
view_form (Node value) = form value.now
view_form (Raw value) = raw (raw_bytes value)

-- the text that it was made of, if it is a string that was made
abbrev pub view_made : OwnedView → Option (List ℕ)
view_made (Node value) = made_text value.now
view_made (Raw value) = None

-- the text that it is kept as, if it was read and isn't opened
abbrev pub view_read : OwnedView → Option (List ℕ)
view_read (Node value) = read_text value.now
view_read (Raw value) = Some (raw_bytes value)

-- the level that it is opened to, if it is one
abbrev pub view_array : OwnedView → Option LazyArray
view_array (Node value) = array_in value.now
view_array (Raw value) = None

abbrev pub view_object : OwnedView → Option LazyObject
view_object (Node value) = object_in value.now
view_object (Raw value) = None

-- what a string denotes is borrowed exactly where it was made of that, or has no backslash
abbrev pub IsLentText : {Z : Type 0} → Option (List ℕ) → List ℕ → CowStr Z → Type 0
IsLentText made t shown = IsBorrowedStr shown ↔ (IsSome made ⊎ ¬ IsEscapedText t)
