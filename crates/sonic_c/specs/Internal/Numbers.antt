-- The numbers that a fault gets.
use Rattle.sonic_c.specs.declared.fault.Fault.{Fault}
use Rattle.sonic_error.specs.Errors.{error_code, error_line, error_column, error_offset}
use Rattle.sonic_error.specs.declared.error.Error.{Error}
use Rattle.sonic_c.specs.Codes.{code_number}

-- the numbers of an error
abbrev pub numbers_of : Error → Fault
numbers_of error = record { code = code_number (error_code error); line = error_line error; column = error_column error; offset = error_offset error }
