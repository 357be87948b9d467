-- The code of the error that a refused path is, for a caller whose errors are those of texts.
use Rattle.sonic_error.specs.declared.code.ErrorCode.{ErrorCode}
use Rattle.sonic_error.specs.declared.code.ErrorCode.TheVariants as code
use Rattle.sonic_pointer.specs.declared.fault.PathError.{PathError}
use Rattle.sonic_pointer.specs.declared.fault.PathError.TheVariants.{Mixed, TooLong, NoMemory}

-- keys and indexes after one prefix are a value of the wrong kind, and a long path is too deep
abbrev pub code_of_refusal : PathError → ErrorCode
code_of_refusal Mixed = code.UnexpectedVisitType
code_of_refusal TooLong = code.RecursionLimitExceeded
code_of_refusal NoMemory = code.NoMemory
