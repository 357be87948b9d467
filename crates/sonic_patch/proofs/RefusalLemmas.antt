-- What the errors of reading say.
use Rattle.std.proofs.Common.{◌≢◌, ℕ, List, false}
use Rattle.sonic_error.specs.Errors.{error_code, IsErrorAt}
use Rattle.sonic_error.specs.declared.code.ErrorCode.TheVariants as code
use Rattle.sonic_error.specs.declared.error.Error.{Error}
use Rattle.sonic_find.specs.Documents.{IsDocumentValue, IsInvalidError, out_of_memory, invalid}
use Rattle.sonic_patch.specs.Internal.Elements.{IsElementError, IsFaultIn}
use Rattle.sonic_patch.specs.Reading.{Fault, HasReason, is_invalid, has_first_fault, no_json, no_operation_at, IsNoPatch}
use Rattle.sonic_patch.specs.declared.error.PatchError.{PatchError}
use Rattle.sonic_patch.specs.declared.error.PatchError.TheVariants.{Json, NotArray, Shape, Pointer, TooLong, Missing, TestFailed, IntoChild, NoMemory}
use Rattle.sonic_text.specs.declared.stop.Stop.{Stop}

-- what a fault is refused by, each fault that follows is
pub refuses_weaker : {At By : ℕ → Fault → Type 0} (e : PatchError) → ((n : ℕ) (fault : Fault) → At n fault → By n fault) → IsElementError At e → IsElementError By e
refuses_weaker (Shape op) f h = f op _ h
refuses_weaker (Pointer op) f h = f op _ h
refuses_weaker (TooLong op) f h = f op _ h
refuses_weaker NoMemory f h = h
refuses_weaker (Json x) f h = h
refuses_weaker NotArray f h = h
refuses_weaker (Missing op) f h = h
refuses_weaker (TestFailed op) f h = h
refuses_weaker (IntoChild op) f h = h

-- a fault in the array that a document is
fault_reason : {t array : List ℕ} {n : ℕ} {fault : Fault} → IsDocumentValue t array → IsFaultIn array n fault → HasReason t (no_operation_at n fault)
fault_reason value x = has_first_fault (record { array = _; value = value; elements = x.elements }) x.first

pub fault_no_patch : {t array : List ℕ} (e : PatchError) → IsDocumentValue t array → IsElementError (IsFaultIn array) e → IsNoPatch t e
fault_no_patch (Shape op) value h = fault_reason value h
fault_no_patch (Pointer op) value h = fault_reason value h
fault_no_patch (TooLong op) value h = fault_reason value h
fault_no_patch NoMemory value h = h
fault_no_patch (Json x) value h = absurd h
fault_no_patch NotArray value h = absurd h
fault_no_patch (Missing op) value h = h
fault_no_patch (TestFailed op) value h = h
fault_no_patch (IntoChild op) value h = h

-- an error that isn't memory's says why a text is no document
pub json_reason : {t : List ℕ} {e : Error} → IsInvalidError t false e → error_code e ≢ code.NoMemory → (s : Stop) × HasReason t (no_json s) × IsErrorAt e s.code t s.place
json_reason (out_of_memory plain) other = absurd (other plain.code)
json_reason (invalid s x at_place) other = (s, is_invalid x, at_place)
