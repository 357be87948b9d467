-- The forms of the values in a level, item by item.
use Rattle.std.specs.Prelude.{ℕ, List, map}
use Rattle.sonic_owned.specs.Forms.{Form}
use Rattle.sonic_owned.specs.Views.{form, pair_of}
use Rattle.sonic_owned.specs.declared.made.MadeText.{MadeText}
use Rattle.sonic_owned.specs.declared.value.OwnedLazyValue.{OwnedLazyValue}

abbrev pub elements_of : List OwnedLazyValue → List Form
elements_of vs = map form vs

abbrev pub formed : MadeText × OwnedLazyValue → MadeText × Form
formed m = (m.0, form m.1)

abbrev pub members_of : List (MadeText × OwnedLazyValue) → List (List ℕ × Form)
members_of ms = map pair_of (map formed ms)
