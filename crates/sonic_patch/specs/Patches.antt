-- What operations make of a form: the edits that they are in its tree.
use Rattle.std.specs.Prelude.{◌≡◌, ◌≤◌, ℕ, List, [], ◌∷◌, length, Option, Some, ⊤, IsTrue, IsFalse}
use Rattle.std.specs.List.{All}
use Rattle.std.specs.Str.{IsUtf8}
use Rattle.sonic_owned.specs.Edits.{IsEdit}
use Rattle.sonic_owned.specs.Forms.{Form, raw, text, IsSound, FormMeans}
use Rattle.sonic_owned.specs.Leading.{LeadsTo}
use Rattle.sonic_owned.specs.TreeEdits.{Edit}
use Rattle.sonic_patch.specs.Operations as operations
use Rattle.sonic_patch.specs.Operations.{Operation, add, replace, move, copy, test}
use Rattle.sonic_patch.specs.Patching.{addition, removal, replacement, is_before, Cause, missing, test_failed, into_child, step, unmade, patched, refused}
use Rattle.sonic_patch.specs.Pointers.{Token}
use Rattle.sonic_patch.specs.Resolution.{path_in}
use Rattle.sonic_patch.specs.Sameness.{same}
use Rattle.sonic_patch.specs.declared.error.PatchError.{PatchError}
use Rattle.sonic_patch.specs.declared.error.PatchError.TheVariants.{Json, NotArray, Shape, Pointer, TooLong, Missing, TestFailed, IntoChild, NoMemory}
use Rattle.sonic_text.specs.Paths.{Path}
use Rattle.sonic_text.specs.Trees.{Tree}

-- the pointer leads from the form to this one
pub record PointsTo (ts : List Token) (f g : Form) : Type 0 where
  pub tree : Tree
  pub means : FormMeans f tree
  pub path : Path
  pub is : path_in ts tree ≡ Some path
  pub leads : LeadsTo path f g

-- h is the form with the edit that is decided by its tree
pub data IsDecided (decide : Tree → Option (Edit Form)) (f h : Form) : Type 0 where
  is_decided : {v : Tree} {e : Edit Form} → FormMeans f v → decide v ≡ Some e → IsEdit e f h → IsDecided decide f h

-- the form with a value added, with one removed, and with one put in the place of another
abbrev pub IsAddition : List Token → Form → (f h : Form) → Type 0
IsAddition ts w = IsDecided (addition ts w)

abbrev pub IsRemoval : List Token → (f h : Form) → Type 0
IsRemoval ts = IsDecided (removal ts)

abbrev pub IsReplacement : List Token → Form → (f h : Form) → Type 0
IsReplacement ts w = IsDecided (replacement ts w)

-- the forms mean trees that are the same
pub record AreSame (f g : Form) : Type 0 where
  pub left : Tree
  pub right : Tree
  pub means_left : FormMeans f left
  pub means_right : FormMeans g right
  pub same : IsTrue (same left right)

-- the operation makes h of the form f: what is moved or copied is put there by its text, unopened, and a test leaves the form as it is
pub data OperationMakes (f h : Form) : Operation Form → Type 0 where
  adds : {ts : List Token} {w : Form} → IsAddition ts w f h → OperationMakes f h (add ts w)
  removes : {ts : List Token} → IsRemoval ts f h → OperationMakes f h (operations.remove ts)
  replaces : {ts : List Token} {w : Form} → IsReplacement ts w f h → OperationMakes f h (replace ts w)
  moves : {from ts : List Token} {g m : Form} → IsFalse (is_before from ts) → PointsTo from f g → IsRemoval from f m → IsAddition ts (raw (text g)) m h
      → OperationMakes f h (move from ts)
  copies : {from ts : List Token} {g : Form} → PointsTo from f g → IsAddition ts (raw (text g)) f h → OperationMakes f h (copy from ts)
  tests : {ts : List Token} {w g : Form} → PointsTo ts f g → AreSame g w → h ≡ f → OperationMakes f h (test ts w)

-- the operations in order make h of f
pub data OperationsMake : List (Operation Form) → (f h : Form) → Type 0 where
  none_made : {f h : Form} → h ≡ f → OperationsMake [] f h
  one_more_made : {op : Operation Form} {ops : List (Operation Form)} {f g h : Form} → OperationMakes f g op → OperationsMake ops g h → OperationsMake (op ∷ ops) f h

-- the operation of a form means one of a tree: its value means the value there
pub data OperationMeans : Operation Form → Operation Tree → Type 0 where
  add_means : {ts : List Token} {w : Form} {x : Tree} → FormMeans w x → OperationMeans (add ts w) (add ts x)
  remove_means : {ts : List Token} → OperationMeans (operations.remove ts) (operations.remove ts)
  replace_means : {ts : List Token} {w : Form} {x : Tree} → FormMeans w x → OperationMeans (replace ts w) (replace ts x)
  move_means : {from ts : List Token} → OperationMeans (move from ts) (move from ts)
  copy_means : {from ts : List Token} → OperationMeans (copy from ts) (copy from ts)
  test_means : {ts : List Token} {w : Form} {x : Tree} → FormMeans w x → OperationMeans (test ts w) (test ts x)

-- and so with those of a list, one by one
pub data OperationsMean : List (Operation Form) → List (Operation Tree) → Type 0 where
  none_mean : OperationsMean [] []
  one_more_means : {op : Operation Form} {o : Operation Tree} {ops : List (Operation Form)} {os : List (Operation Tree)} → OperationMeans op o → OperationsMean ops os
      → OperationsMean (op ∷ ops) (o ∷ os)

-- what the operation puts is sound: its value, and the keys that its pointer may give
abbrev pub AreKeys : List Token → Type 0
AreKeys ts = All IsUtf8 ts

abbrev pub IsSoundOperation : Operation Form → Type 0
IsSoundOperation (add ts w) = AreKeys ts × IsSound w
IsSoundOperation (operations.remove ts) = ⊤
IsSoundOperation (replace ts w) = IsSound w
IsSoundOperation (move from ts) = AreKeys ts
IsSoundOperation (copy from ts) = AreKeys ts
IsSoundOperation (test ts w) = IsSound w

abbrev pub AreSoundOperations : List (Operation Form) → Type 0
AreSoundOperations ops = All IsSoundOperation ops

-- no pointer of the operation has more than 255 tokens
abbrev pub HasFewTokens : Operation Form → Type 0
HasFewTokens (add ts w) = length ts ≤ 255
HasFewTokens (operations.remove ts) = length ts ≤ 255
HasFewTokens (replace ts w) = length ts ≤ 255
HasFewTokens (move from ts) = (length from ≤ 255) × (length ts ≤ 255)
HasFewTokens (copy from ts) = (length from ≤ 255) × (length ts ≤ 255)
HasFewTokens (test ts w) = length ts ≤ 255

-- sound operations and a sound form, and what they mean
pub record MeansPatch (ops : List (Operation Form)) (f : Form) (trees : List (Operation Tree)) (tree : Tree) : Type 0 where
  pub operations : AreSoundOperations ops
  pub form : IsSound f
  pub mean : OperationsMean ops trees
  pub means : FormMeans f tree

-- the operation isn't made in the tree that the form means, for this cause
abbrev pub IsUnmade : Operation Form → Form → Cause → Type 0
IsUnmade op f cause = (o : Operation Tree) (v : Tree) → OperationMeans op o → FormMeans f v → step o v ≡ unmade cause

-- in the tree that the form means the operation with this number is the first that isn't made, for this cause
pub record IsFirstUnmade (ops : List (Operation Form)) (f : Form) (n : ℕ) (cause : Cause) : Type 0 where
  pub tree : Tree
  pub means : FormMeans f tree
  pub trees : List (Operation Tree)
  pub mean : OperationsMean ops trees
  pub is : patched 0 trees tree ≡ refused n cause

-- the error says which operation isn't made, and why, or that memory ran out; no other error comes
abbrev pub IsPatchRefusal : List (Operation Form) → Form → PatchError → Type 0
IsPatchRefusal ops f (Missing op) = IsFirstUnmade ops f op missing
IsPatchRefusal ops f (TestFailed op) = IsFirstUnmade ops f op test_failed
IsPatchRefusal ops f (IntoChild op) = IsFirstUnmade ops f op into_child
IsPatchRefusal ops f NoMemory = ⊤
IsPatchRefusal ops f (Json e) = ⊥
IsPatchRefusal ops f NotArray = ⊥
IsPatchRefusal ops f (Shape op) = ⊥
IsPatchRefusal ops f (Pointer op) = ⊥
IsPatchRefusal ops f (TooLong op) = ⊥
