-- What pointers, operations and patches of the program are.
use Rattle.std.specs.Prelude.{List, map}
use Rattle.sonic_owned.specs.Forms.{Form}
use Rattle.sonic_owned.specs.Views.{form}
use Rattle.sonic_patch.specs.Operations as operations
use Rattle.sonic_patch.specs.Pointers.{Token}
use Rattle.sonic_patch.specs.declared.operation.Operation.{Operation}
use Rattle.sonic_patch.specs.declared.operation.Operation.TheVariants.{Add, Remove, Replace, Move, Copy, Test}
use Rattle.sonic_patch.specs.declared.pointer.Pointer.{Pointer}
use Rattle.sonic_patch.specs.declared.read.Patch.{Patch}

-- the tokens of a pointer
abbrev pub tokens_of : Pointer → List Token
tokens_of pointer = pointer.tokens.items

-- an operation by its tokens and the form of its value
abbrev pub operation_of : Operation → operations.Operation Form
operation_of (Add path value) = operations.add (tokens_of path) (form value)
operation_of (Remove path) = operations.remove (tokens_of path)
operation_of (Replace path value) = operations.replace (tokens_of path) (form value)
operation_of (Move from path) = operations.move (tokens_of from) (tokens_of path)
operation_of (Copy from path) = operations.copy (tokens_of from) (tokens_of path)
operation_of (Test path value) = operations.test (tokens_of path) (form value)

-- the operations of a patch, in order
abbrev pub operations_of : Patch → List (operations.Operation Form)
operations_of patch = map operation_of patch.operations.items
