-- What is told of an error of patches is why a document isn't patched.
use Rattle.std.proofs.Common.{◌≡◌, ℕ, List, Result, Ok, Err}
use Rattle.std.specs.Prelude.{IfErr}
use Rattle.std.specs.Str.{IsUtf8}
use Rattle.sonic_owned.specs.Forms.{Form}
use Rattle.sonic_patch.specs.Operations.{Operation}
use Rattle.sonic_patch.specs.Patches.{IsPatchRefusal}
use Rattle.sonic_patch.specs.Reading.{no_json, bad_shape, bad_pointer, long_pointer, HasReason, is_invalid, IsNoPatch}
use Rattle.sonic_patch.specs.declared.error.PatchError.{PatchError}
use Rattle.sonic_patch.specs.declared.error.PatchError.TheVariants.{Json, NotArray, Shape, Pointer, TooLong, Missing, TestFailed, IntoChild, NoMemory}
use Rattle.sonic_c.proofs.TextLemmas.{text_invalid}
use Rattle.sonic_c.proofs.ToldLemmas.{numbers_at}
use Rattle.sonic_c.specs.Internal.Patches.{IsPatchErrorOf, TellsPatchError}
use Rattle.sonic_c.specs.Internal.Texts.{OrOutOfMemory, refuses, ran_out}
use Rattle.sonic_c.specs.Patches.{AreNoPatch, not_json, not_array, not_operation, IsPatchUnmade}
use Rattle.sonic_c.specs.declared.fault.Fault.{Fault}
use Rattle.sonic_find.specs.Documents.{IsInvalid}
use Rattle.sonic_text.specs.declared.stop.Stop.{Stop}
use Rattle.std.proofs.Common.{true}

-- a text that is no JSON text is no document
json_invalid : {b : List ℕ} {s : Stop} → HasReason b (no_json s) → IsInvalid b true s
json_invalid (is_invalid x) = text_invalid x

-- the error of a text in UTF-8 is that of its bytes
utf8_patch_error : {b : List ℕ} (e : PatchError) → IsUtf8 b → IsNoPatch b e → IsPatchErrorOf b e
utf8_patch_error (Json e) utf8 x = (x.0, json_invalid x.1, x.2)
utf8_patch_error NotArray utf8 x = (utf8, x)
utf8_patch_error (Shape op) utf8 x = (utf8, x)
utf8_patch_error (Pointer op) utf8 x = (utf8, x)
utf8_patch_error (TooLong op) utf8 x = (utf8, x)
utf8_patch_error (Missing op) utf8 x = absurd x
utf8_patch_error (TestFailed op) utf8 x = absurd x
utf8_patch_error (IntoChild op) utf8 x = absurd x
utf8_patch_error NoMemory utf8 x = tt

pub utf8_patch_errors : {A : Type 0} (result : Result A PatchError) {text b : List ℕ} → text ≡ b → IsUtf8 b → IfErr result (IsNoPatch text)
    → IfErr result (IsPatchErrorOf b)
utf8_patch_errors (Ok patch) same utf8 holds = tt
utf8_patch_errors (Err e) same utf8 holds = utf8_patch_error e utf8 (rw same at holds)

module _ {Refuses : Fault → Fault → ℕ → Type 0} {before after : Fault} {status : ℕ} where
  -- why bytes are no patch is told, or memory ran out
  pub no_patch_told : {b : List ℕ} (e : PatchError) → (AreNoPatch b after status → Refuses before after status) → IsPatchErrorOf b e
      → TellsPatchError e before after status → OrOutOfMemory Refuses before after status
  no_patch_told (Json e) by x (is, told) = refuses (by (not_json is (record { stop = x.0; invalid = x.1; numbers = numbers_at x.2 told })))
  no_patch_told NotArray by x (is, told) = refuses (by (not_array x.0 x.1 is told))
  no_patch_told (Shape op) by x (is, told) = refuses (by (not_operation op bad_shape x.0 x.1 is told))
  no_patch_told (Pointer op) by x (is, told) = refuses (by (not_operation op bad_pointer x.0 x.1 is told))
  no_patch_told (TooLong op) by x (is, told) = refuses (by (not_operation op long_pointer x.0 x.1 is told))
  no_patch_told (Missing op) by x y = absurd x.1
  no_patch_told (TestFailed op) by x y = absurd x.1
  no_patch_told (IntoChild op) by x y = absurd x.1
  no_patch_told NoMemory by x (is, same) = ran_out is same

  -- and so is which operation isn't made
  pub unmade_told : {ops : List (Operation Form)} {f : Form} (e : PatchError) → (IsPatchUnmade ops f after status → Refuses before after status)
      → IsPatchRefusal ops f e → TellsPatchError e before after status → OrOutOfMemory Refuses before after status
  unmade_told (Missing op) by x (is, told) = refuses (by (record { number = op; cause = _; first = x; told = told; says = is }))
  unmade_told (TestFailed op) by x (is, told) = refuses (by (record { number = op; cause = _; first = x; told = told; says = is }))
  unmade_told (IntoChild op) by x (is, told) = refuses (by (record { number = op; cause = _; first = x; told = told; says = is }))
  unmade_told NoMemory by x (is, same) = ran_out is same
  unmade_told (Json e) by x y = absurd x
  unmade_told NotArray by x y = absurd x
  unmade_told (Shape op) by x y = absurd x
  unmade_told (Pointer op) by x y = absurd x
  unmade_told (TooLong op) by x y = absurd x
