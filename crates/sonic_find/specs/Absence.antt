-- Which paths are told that the text has no such value.
use Rattle.sonic_error.specs.declared.code.ErrorCode.{ErrorCode}
use Rattle.sonic_error.specs.declared.code.ErrorCode.TheVariants.{Message, GetInEmptyArray, GetIndexOutOfArray}
use Rattle.sonic_error.specs.declared.json_type.JsonType.TheVariants.{Null}
use Rattle.sonic_error.specs.declared.json_type.Note.TheVariants.{Mismatch}
use Rattle.sonic_error.specs.declared.json_type.Wanted.{Wanted}
use Rattle.sonic_find.specs.declared.outcome.PathOutcome.{PathOutcome}
use Rattle.sonic_find.specs.declared.outcome.PathOutcome.TheVariants.{Found, Missing, Fails}

-- an array has no such item, or a null is where a container is wanted
pub data IsAbsence : ErrorCode → Type 0 where
  in_an_empty_array : IsAbsence GetInEmptyArray
  past_the_end : IsAbsence GetIndexOutOfArray
  below_null : {wanted : Wanted} → IsAbsence (Message (Mismatch Null wanted))

-- or an object lacks the key
abbrev pub IsAbsent : {V : Type 0} → PathOutcome V → Type 0
IsAbsent (Found v) = ⊥
IsAbsent (Missing q) = Unit
IsAbsent (Fails s) = IsAbsence s.code
