-- What refuses an element, and the elements of an array: private clauses.
use Rattle.std.specs.Prelude.{◌≡◌, ℕ, List, ⊤}
use Rattle.sonic_patch.specs.Reading.{Fault, bad_shape, bad_pointer, long_pointer, HasFault, AreItemTexts, AreOperations, IsFirstFault}
use Rattle.sonic_patch.specs.Operations.{Operation}
use Rattle.sonic_owned.specs.Forms.{Form}
use Rattle.sonic_patch.specs.declared.error.PatchError.{PatchError}
use Rattle.sonic_patch.specs.declared.error.PatchError.TheVariants.{Json, NotArray, Shape, Pointer, TooLong, Missing, TestFailed, IntoChild, NoMemory}

-- the error says the fault of an operation, where it is so at that number, or that memory ran out
abbrev pub IsElementError : (ℕ → Fault → Type 0) → PatchError → Type 0
IsElementError At (Json e) = ⊥
IsElementError At NotArray = ⊥
IsElementError At (Shape op) = At op bad_shape
IsElementError At (Pointer op) = At op bad_pointer
IsElementError At (TooLong op) = At op long_pointer
IsElementError At (Missing op) = ⊥
IsElementError At (TestFailed op) = ⊥
IsElementError At (IntoChild op) = ⊥
IsElementError At NoMemory = ⊤

-- the element with this number has the fault
abbrev pub IsFaultOf : ℕ → List ℕ → ℕ → Fault → Type 0
IsFaultOf number element n fault = (n ≡ number) × HasFault element fault

-- the first fault of an array's elements
pub record IsFaultIn (array : List ℕ) (n : ℕ) (fault : Fault) : Type 0 where
  pub texts : List (List ℕ)
  pub elements : AreItemTexts array texts
  pub first : IsFirstFault texts n fault

-- the text is an array, whose elements are these operations
pub record SaysOperations (array : List ℕ) (ops : List (Operation Form)) : Type 0 where
  pub texts : List (List ℕ)
  pub elements : AreItemTexts array texts
  pub are : AreOperations texts ops
