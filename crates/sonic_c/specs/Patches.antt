-- What a call that makes a patch on a document comes to, in the caller's memory.
use Rattle.std.specs.Prelude.{◌≡◌, ℕ, List}
use Rattle.std.specs.Str.{IsUtf8}
use Rattle.sonic_owned.specs.Forms.{Form}
use Rattle.sonic_patch.specs.Operations.{Operation}
use Rattle.sonic_patch.specs.Patches.{OperationsMake, IsFirstUnmade}
use Rattle.sonic_patch.specs.Patching.{Cause, missing, test_failed, into_child}
use Rattle.sonic_patch.specs.Reading.{SaysPatch, HasReason, no_array, no_operation_at, Fault as ElementFault}
use Rattle.sonic_c.specs.Changes.{IsChangedText, IsUnchanged}
use Rattle.sonic_c.specs.Statuses.{status_bad_patch, status_bad_operation, status_missing, status_test_failed, status_into_child}
use Rattle.sonic_c.specs.Texts.{IsMadeCall}
use Rattle.sonic_c.specs.Told.{TellsInvalid, at_line}
use Rattle.sonic_c.specs.Values.{TextCells}
use Rattle.sonic_c.specs.declared.fault.Fault.{Fault}

-- the bytes are a text in UTF-8 that says these operations
pub record ArePatch (b : List ℕ) (ops : List (Operation Form)) : Type 0 where
  pub utf8 : IsUtf8 b
  pub says : SaysPatch b ops

-- the bytes are no patch, and that is told: they are no JSON text, or no array, or this element, counted from 0, is the first that is no operation
pub data AreNoPatch (b : List ℕ) (after : Fault) (status : ℕ) : Type 0 where
  not_json : status ≡ status_bad_patch → TellsInvalid b after → AreNoPatch b after status
  not_array : IsUtf8 b → HasReason b no_array → status ≡ status_bad_patch → after ≡ at_line 0 → AreNoPatch b after status
  not_operation : (n : ℕ) (fault : ElementFault) → IsUtf8 b → HasReason b (no_operation_at n fault) → status ≡ status_bad_operation → after ≡ at_line n
      → AreNoPatch b after status

-- the status that says why an operation isn't made
abbrev pub status_of_cause : Cause → ℕ
status_of_cause missing = status_missing
status_of_cause test_failed = status_test_failed
status_of_cause into_child = status_into_child

-- the first operation that isn't made of the value is told, counted from 0
pub record IsPatchUnmade (ops : List (Operation Form)) (f : Form) (after : Fault) (status : ℕ) : Type 0 where
  pub number : ℕ
  pub cause : Cause
  pub first : IsFirstUnmade ops f number cause
  pub told : after ≡ at_line number
  pub says : status ≡ status_of_cause cause

-- this is the text of the document with the operations of the patch
pub record IsPatchedText (t b text : List ℕ) : Type 0 where
  pub operations : List (Operation Form)
  pub patch : ArePatch b operations
  pub changed : IsChangedText (OperationsMake operations) t text

-- it isn't patched: the patch is none, or nothing is made by it
pub data IsUnpatched (t b : List ℕ) (before after : Fault) (status : ℕ) : Type 0 where
  no_patch : AreNoPatch b after status → IsUnpatched t b before after status
  patch_unmade : {ops : List (Operation Form)} → ArePatch b ops → IsUnchanged (IsPatchUnmade ops) t before after status → IsUnpatched t b before after status

-- what a call for the text of a document with a patch comes to
abbrev pub IsPatchCall : List ℕ → List ℕ → TextCells → TextCells → ℕ → Type 0
IsPatchCall t b = IsMadeCall (IsPatchedText t b) (IsUnpatched t b)
