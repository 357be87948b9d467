-- What a change of one part comes to.
use Rattle.std.specs.Prelude.{◌≡◌, Bool, true, false, Result, Ok, Err}
use Rattle.sonic_error.specs.Errors.{IsPlainError}
use Rattle.sonic_error.specs.declared.code.ErrorCode.TheVariants.{NoMemory}
use Rattle.sonic_error.specs.declared.error.Error.{Error}
use Rattle.sonic_owned.specs.Edits.{IsChange}
use Rattle.sonic_owned.specs.Forms.{Form}
use Rattle.sonic_owned.specs.TreeEdits.{Change}
use Rattle.sonic_owned.specs.Reached.{IsOpenedAlong, way_to_item, ChangeNeedsMemory}

-- what came of a change of f, after which there is g: it was made, or it was refused and the form is as it was, or there was no memory for it, and the level whose items are changed may be opened
pub data IsChanged (c : Change Form) (f g : Form) : Result Bool Error → Type 0 where
  change_made : IsChange f g c → IsChanged c f g (Ok true)
  change_refused : ((h : Form) → ¬ IsChange f h c) → g ≡ f → IsChanged c f g (Ok false)
  change_failed : {e : Error} → IsPlainError e NoMemory → ChangeNeedsMemory c f → IsOpenedAlong (way_to_item c) f g → IsChanged c f g (Err e)
