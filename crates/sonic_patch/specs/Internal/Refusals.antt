-- Why an operation isn't made, as the program has it.
use Rattle.std.specs.Prelude.{ℕ, ⊤}
use Rattle.sonic_patch.specs.Patching.{Cause, missing, test_failed, into_child}
use Rattle.sonic_patch.specs.declared.error.PatchError.{PatchError}
use Rattle.sonic_patch.specs.declared.error.PatchError.TheVariants as errors
use Rattle.sonic_patch.specs.declared.error.Refusal.{Refusal}
use Rattle.sonic_patch.specs.declared.error.Refusal.TheVariants.{Missing, TestFailed, IntoChild, NoMemory}

-- this holds of the cause of a refusal that isn't want of memory
abbrev pub HasCause : (Cause → Type 0) → Refusal → Type 0
HasCause P Missing = P missing
HasCause P TestFailed = P test_failed
HasCause P IntoChild = P into_child
HasCause P NoMemory = ⊤

-- there is no memory, or something is missing, where this holds
abbrev pub IsMissing : Type 0 → Refusal → Type 0
IsMissing P Missing = P
IsMissing P TestFailed = ⊥
IsMissing P IntoChild = ⊥
IsMissing P NoMemory = ⊤

-- the error of the operation with this number
abbrev pub error_of : ℕ → Refusal → PatchError
error_of n Missing = errors.Missing n
error_of n TestFailed = errors.TestFailed n
error_of n IntoChild = errors.IntoChild n
error_of n NoMemory = errors.NoMemory
