-- What a text says as a patch (RFC 6902, sections 3 and 4), or why it says none.
use Rattle.std.specs.Prelude.{◌≡◌, ◌+◌, ℕ, List, [], ◌∷◌, codes, length, map, slice_range, false, ⊤}
use Rattle.sonic_error.specs.Errors.{IsErrorAt}
use Rattle.sonic_find.specs.Answers.{span_text}
use Rattle.sonic_find.specs.Documents.{IsDocumentValue, IsInvalid}
use Rattle.sonic_find.specs.Paths.{found, Leads}
use Rattle.sonic_lazy.specs.Items.{Item, closed, IsListing}
use Rattle.sonic_owned.specs.Forms.{Form, raw}
use Rattle.sonic_patch.specs.Operations.{Operation, add, remove, replace, move, copy, test}
use Rattle.sonic_patch.specs.Pointers.{Token, SaysTokens, SaysFewTokens}
use Rattle.sonic_patch.specs.declared.error.PatchError.{PatchError}
use Rattle.sonic_patch.specs.declared.error.PatchError.TheVariants.{Json, NotArray, Shape, Pointer, TooLong, Missing, TestFailed, IntoChild, NoMemory}
use Rattle.sonic_text.specs.Paths.{key}
use Rattle.sonic_text.specs.Strings.{strict, IsString}
use Rattle.sonic_text.specs.declared.kind.Kind.TheVariants.{Array}
use Rattle.sonic_text.specs.declared.stop.Stop.{Stop}

-- the first member with this key has a value with this text; what is no object has no member
pub record HasMember (object k value : List ℕ) : Type 0 where
  pub start : ℕ
  pub end : ℕ
  pub leads : Leads object (key k ∷ []) (found start end)
  pub is : value ≡ slice_range object start end

-- and that is a string, which denotes b
pub record SaysText (object k b : List ℕ) : Type 0 where
  pub value : List ℕ
  pub member : HasMember object k value
  pub string : IsString strict value 0 (length value) b

-- and b is read so, as a pointer
pub record SaysPointer (Reads : List ℕ → List Token → Type 0) (object k : List ℕ) (tokens : List Token) : Type 0 where
  pub text : List ℕ
  pub says : SaysText object k text
  pub reads : Reads text tokens

-- the object is this operation: its `op` is the word, and it has the members that the word needs, whose pointers are read so
pub data IsOperation (Reads : List ℕ → List Token → Type 0) (object : List ℕ) : Operation Form → Type 0 where
  is_add : {path : List Token} {value : List ℕ} → SaysText object (codes "op") (codes "add") → SaysPointer Reads object (codes "path") path
      → HasMember object (codes "value") value → IsOperation Reads object (add path (raw value))
  is_remove : {path : List Token} → SaysText object (codes "op") (codes "remove") → SaysPointer Reads object (codes "path") path
      → IsOperation Reads object (remove path)
  is_replace : {path : List Token} {value : List ℕ} → SaysText object (codes "op") (codes "replace") → SaysPointer Reads object (codes "path") path
      → HasMember object (codes "value") value → IsOperation Reads object (replace path (raw value))
  is_move : {from path : List Token} → SaysText object (codes "op") (codes "move") → SaysPointer Reads object (codes "from") from
      → SaysPointer Reads object (codes "path") path → IsOperation Reads object (move from path)
  is_copy : {from path : List Token} → SaysText object (codes "op") (codes "copy") → SaysPointer Reads object (codes "from") from
      → SaysPointer Reads object (codes "path") path → IsOperation Reads object (copy from path)
  is_test : {path : List Token} {value : List ℕ} → SaysText object (codes "op") (codes "test") → SaysPointer Reads object (codes "path") path
      → HasMember object (codes "value") value → IsOperation Reads object (test path (raw value))

-- any text is read, as any tokens
abbrev pub AnyText : List ℕ → List Token → Type 0
AnyText text tokens = ⊤

-- the object is some operation, if its pointers are read so
abbrev pub IsSomeOperation : (List ℕ → List Token → Type 0) → List ℕ → Type 0
IsSomeOperation Reads object = (op : Operation Form) × IsOperation Reads object op

-- why an element of a patch is no operation
pub data Fault : Type 0 where
  bad_shape : Fault
  bad_pointer : Fault
  long_pointer : Fault

-- it isn't one whatever its pointers are; or else these are no pointers; or else one of them has more than 255 tokens
pub data HasFault (element : List ℕ) : Fault → Type 0 where
  no_shape : ¬ IsSomeOperation AnyText element → HasFault element bad_shape
  no_pointers : IsSomeOperation AnyText element → ¬ IsSomeOperation SaysTokens element → HasFault element bad_pointer
  long_pointers : IsSomeOperation SaysTokens element → ¬ IsSomeOperation SaysFewTokens element → HasFault element long_pointer

-- elements are operations, one by one
pub data AreOperations : List (List ℕ) → List (Operation Form) → Type 0 where
  no_operation : AreOperations [] []
  one_more_operation : {element : List ℕ} {elements : List (List ℕ)} {op : Operation Form} {ops : List (Operation Form)} → IsOperation SaysFewTokens element op
      → AreOperations elements ops → AreOperations (element ∷ elements) (op ∷ ops)

-- element n, counted from 0, is the first that is none, for this fault
pub data IsFirstFault : List (List ℕ) → ℕ → Fault → Type 0 where
  fault_here : {element : List ℕ} {elements : List (List ℕ)} {n : ℕ} {fault : Fault} → HasFault element fault → n ≡ 0 → IsFirstFault (element ∷ elements) n fault
  fault_later : {element : List ℕ} {elements : List (List ℕ)} {op : Operation Form} {m n : ℕ} {fault : Fault} → IsOperation SaysFewTokens element op
      → IsFirstFault elements m fault → n ≡ m + 1 → IsFirstFault (element ∷ elements) n fault

-- the text is an array, whose elements have these texts
pub record AreItemTexts (array : List ℕ) (texts : List (List ℕ)) : Type 0 where
  pub items : List Item
  pub listing : IsListing array false Array (record { items = items; ending = closed })
  pub are : texts ≡ map (λ (x : Item). span_text array x.span) items

-- the text is a document, an array whose elements have these texts
pub record IsArrayOf (t : List ℕ) (texts : List (List ℕ)) : Type 0 where
  pub array : List ℕ
  pub value : IsDocumentValue t array
  pub elements : AreItemTexts array texts

-- the text says these operations: it is an array of them
pub record SaysPatch (t : List ℕ) (ops : List (Operation Form)) : Type 0 where
  pub elements : List (List ℕ)
  pub array : IsArrayOf t elements
  pub are : AreOperations elements ops

-- why a text says no patch
pub data Reason : Type 0 where
  no_json : Stop → Reason
  no_array : Reason
  no_operation_at : ℕ → Fault → Reason

-- it is no document; or it is one, and no array; or it is an array, and this element is the first that is no operation
pub data HasReason (t : List ℕ) : Reason → Type 0 where
  is_invalid : {s : Stop} → IsInvalid t false s → HasReason t (no_json s)
  is_other : {value : List ℕ} → IsDocumentValue t value → ((texts : List (List ℕ)) → ¬ AreItemTexts value texts) → HasReason t no_array
  has_first_fault : {elements : List (List ℕ)} {n : ℕ} {fault : Fault} → IsArrayOf t elements → IsFirstFault elements n fault
      → HasReason t (no_operation_at n fault)

-- the error says why the text says no patch, or that memory ran out; no other error comes
abbrev pub IsNoPatch : List ℕ → PatchError → Type 0
IsNoPatch t (Json e) = (s : Stop) × HasReason t (no_json s) × IsErrorAt e s.code t s.place
IsNoPatch t NotArray = HasReason t no_array
IsNoPatch t (Shape op) = HasReason t (no_operation_at op bad_shape)
IsNoPatch t (Pointer op) = HasReason t (no_operation_at op bad_pointer)
IsNoPatch t (TooLong op) = HasReason t (no_operation_at op long_pointer)
IsNoPatch t (Missing op) = ⊥
IsNoPatch t (TestFailed op) = ⊥
IsNoPatch t (IntoChild op) = ⊥
IsNoPatch t NoMemory = ⊤
