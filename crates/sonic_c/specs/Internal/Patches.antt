-- What private calls say of patches.
use Rattle.std.specs.Prelude.{◌≡◌, ℕ, true, List, ⊤}
use Rattle.std.specs.Str.{IsUtf8}
use Rattle.sonic_error.specs.Errors.{IsErrorAt}
use Rattle.sonic_find.specs.Documents.{IsInvalid}
use Rattle.sonic_patch.specs.Reading.{IsNoPatch}
use Rattle.sonic_patch.specs.declared.error.PatchError.{PatchError}
use Rattle.sonic_patch.specs.declared.error.PatchError.TheVariants.{Json, NotArray, Shape, Pointer, TooLong, Missing, TestFailed, IntoChild, NoMemory}
use Rattle.sonic_text.specs.declared.stop.Stop.{Stop}
use Rattle.sonic_c.specs.Internal.Numbers.{numbers_of}
use Rattle.sonic_c.specs.Statuses.{status_no_memory, status_bad_patch, status_bad_operation, status_missing, status_test_failed, status_into_child}
use Rattle.sonic_c.specs.Told.{at_line}
use Rattle.sonic_c.specs.declared.fault.Fault.{Fault}

-- the error says why the bytes are no patch, or that memory ran out
abbrev pub IsPatchErrorOf : List ℕ → PatchError → Type 0
IsPatchErrorOf b (Json e) = (s : Stop) × IsInvalid b true s × IsErrorAt e s.code b s.place
IsPatchErrorOf b NoMemory = ⊤
IsPatchErrorOf b e = IsUtf8 b × IsNoPatch b e

-- a number and why are told
abbrev pub TellsNumber : ℕ → ℕ → Fault → ℕ → Type 0
TellsNumber why n after status = (status ≡ why) × (after ≡ at_line n)

-- an error of patches is told, unless memory ran out
abbrev pub TellsPatchError : PatchError → Fault → Fault → ℕ → Type 0
TellsPatchError (Json e) before after status = (status ≡ status_bad_patch) × (after ≡ numbers_of e)
TellsPatchError NotArray before after status = TellsNumber status_bad_patch 0 after status
TellsPatchError (Shape op) before after status = TellsNumber status_bad_operation op after status
TellsPatchError (Pointer op) before after status = TellsNumber status_bad_operation op after status
TellsPatchError (TooLong op) before after status = TellsNumber status_bad_operation op after status
TellsPatchError (Missing op) before after status = TellsNumber status_missing op after status
TellsPatchError (TestFailed op) before after status = TellsNumber status_test_failed op after status
TellsPatchError (IntoChild op) before after status = TellsNumber status_into_child op after status
TellsPatchError NoMemory before after status = (status ≡ status_no_memory) × (after ≡ before)
