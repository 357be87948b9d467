-- The numbers of the statuses, as callers in C are told them.
use Rattle.std.specs.Prelude.{ℕ}

-- what was asked for is there
abbrev pub status_ok : ℕ
status_ok = 0

-- the text has an error, or a path leads nowhere
abbrev pub status_document_error : ℕ
status_document_error = 1

-- there are not as many paths as spans
abbrev pub status_wrong_count : ℕ
status_wrong_count = 2

-- a line says no path
abbrev pub status_bad_lines : ℕ
status_bad_lines = 3

-- memory ran out
abbrev pub status_no_memory : ℕ
status_no_memory = 7

-- the value is of another type than was asked for
abbrev pub status_wrong_type : ℕ
status_wrong_type = 8

-- the number is no integer of those that were asked for
abbrev pub status_no_integer : ℕ
status_no_integer = 9

-- no item is left
abbrev pub status_end : ℕ
status_end = 10

-- a line is to be indented by too many blanks
abbrev pub status_bad_width : ℕ
status_bad_width = 11

-- the patch is none
abbrev pub status_bad_patch : ℕ
status_bad_patch = 12

-- an element of the patch is no operation
abbrev pub status_bad_operation : ℕ
status_bad_operation = 13

-- a pointer of an operation leads to nothing
abbrev pub status_missing : ℕ
status_missing = 14

-- the value that an operation tests is another one
abbrev pub status_test_failed : ℕ
status_test_failed = 15

-- an operation would move a value into itself
abbrev pub status_into_child : ℕ
status_into_child = 16

-- an edit makes nothing of the document
abbrev pub status_edit_refused : ℕ
status_edit_refused = 17

-- the schema is none
abbrev pub status_bad_schema : ℕ
status_bad_schema = 18

-- too many lines are said to come before
abbrev pub status_bad_number : ℕ
status_bad_number = 19

-- the number says no rule for equal keys
abbrev pub status_bad_rule : ℕ
status_bad_rule = 20
