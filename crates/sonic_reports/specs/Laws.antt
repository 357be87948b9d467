-- The laws of reports.
use Rattle.std.specs.Prelude.{◌≡◌, ℕ, List, ◌++◌, Some, codes, drop, length}
use Rattle.sonic_edits.specs.Heads.{SaysEditsOf}
use Rattle.sonic_find.specs.Documents.{IsDocumentValue, IsValidDocument}
use Rattle.sonic_min.specs.Texts.{DocumentMeans}
use Rattle.sonic_owned.specs.Edits.{EditsMean}
use Rattle.sonic_owned.specs.Forms.{Form}
use Rattle.sonic_owned.specs.TreeEdits.{Edit, edit_tree_all}
use Rattle.sonic_patch.specs.Operations.{Operation}
use Rattle.sonic_patch.specs.Patches.{OperationsMean}
use Rattle.sonic_patch.specs.Patching.{patched, done}
use Rattle.sonic_patch.specs.Reading.{SaysPatch}
use Rattle.sonic_reports.specs.Commands.Fills.{first_line, after_first_line}
use Rattle.sonic_reports.specs.declared.status.Status.{Status}
use Rattle.sonic_reports.specs.Reports.{IsReport}
use Rattle.sonic_text.specs.Trees.{Tree, Means}

-- the words and the input determine one report and one status, and there is no other
pub record HasOneReport (words : List (List ℕ)) (input : List ℕ) : Type 0 where
  pub text : List ℕ
  pub status : Status
  pub report : IsReport words input text status
  pub only : (other : List ℕ) (ending : Status) → IsReport words input other ending → (other ≡ text) × (ending ≡ status)

-- the lines of the head say edits, which mean some of trees, and the rest is a value, which means a tree;
-- the text is a valid document, which means what the ones make of the other, and a line feed
pub record WritesEdited (input text : List ℕ) : Type 0 where
  pub edits : List (Edit Form)
  pub document : ℕ
  pub says : SaysEditsOf input edits document
  pub trees : List (Edit Tree)
  pub mean : EditsMean edits trees
  pub value : List ℕ
  pub is : IsDocumentValue (drop document input) value
  pub tree : Tree
  pub means : Means value 0 (length value) tree
  pub result : Tree
  pub makes : edit_tree_all trees tree ≡ Some result
  pub written : List ℕ
  pub ends : text ≡ written ++ codes "\n"
  pub valid : IsValidDocument written
  pub meant : Means written 0 (length written) result

-- the first line says operations, which mean some of trees, and the rest is a value, which means a tree;
-- the text is a valid document, which means what the ones make of the other, and a line feed
pub record WritesPatched (input text : List ℕ) : Type 0 where
  pub operations : List (Operation Form)
  pub says : SaysPatch (first_line input) operations
  pub trees : List (Operation Tree)
  pub mean : OperationsMean operations trees
  pub value : List ℕ
  pub is : IsDocumentValue (after_first_line input) value
  pub tree : Tree
  pub means : Means value 0 (length value) tree
  pub result : Tree
  pub makes : patched 0 trees tree ≡ done result
  pub written : List ℕ
  pub ends : text ≡ written ++ codes "\n"
  pub valid : IsValidDocument written
  pub meant : Means written 0 (length written) result

-- the text is a valid document, which means what the input means, and a line feed
pub record WritesTheSame (input text : List ℕ) : Type 0 where
  pub written : List ℕ
  pub ends : text ≡ written ++ codes "\n"
  pub valid : IsValidDocument written
  pub meant : (tree : Tree) → DocumentMeans input tree → DocumentMeans written tree
