-- What a head of edit lines says.
use Rattle.std.specs.Prelude.{◌≡◌, ◌≤◌, ℕ, List, [], ◌∷◌, ◌++◌, length, map}
use Rattle.sonic_edits.specs.Edits.{edit_of}
use Rattle.sonic_edits.specs.Lines.{IsEditLine}
use Rattle.sonic_edits.specs.declared.lines.EditHead.{EditHead}
use Rattle.sonic_edits.specs.declared.lines.EditHead.TheVariants.{Edits, Bad}
use Rattle.sonic_owned.specs.Forms.{Form}
use Rattle.sonic_owned.specs.TreeEdits.{Edit}
use Rattle.sonic_paths.specs.Heads.{IsHead, AreSaid, IsFirstBad}

-- after the earlier edits the line says one more
pub record SaysNextEdit (earlier : List (Edit Form)) (line : List ℕ) (es : List (Edit Form)) : Type 0 where
  pub edit : Edit Form
  pub says : IsEditLine line edit
  pub is : es ≡ earlier ++ edit ∷ []

-- each line in order says its edit
abbrev pub AreEditLines : List (List ℕ) → List (Edit Form) → Type 0
AreEditLines lines es = AreSaid SaysNextEdit [] lines es

-- line n, counted from 1, is the first that says no edit
abbrev pub IsFirstBadEdit : List (List ℕ) → ℕ → Type 0
IsFirstBadEdit lines n = IsFirstBad SaysNextEdit [] lines n

-- the lines of the input's head say these edits, and the document begins at d
pub record SaysEditsOf (t : List ℕ) (es : List (Edit Form)) (d : ℕ) : Type 0 where
  pub lines : List (List ℕ)
  pub within : d ≤ length t
  pub head : IsHead t 0 lines d
  pub are : AreEditLines lines es

-- line n of the input's head, counted from 1, is the first that says no edit
pub record SaysBadEdit (t : List ℕ) (n : ℕ) : Type 0 where
  pub lines : List (List ℕ)
  pub document : ℕ
  pub head : IsHead t 0 lines document
  pub first : IsFirstBadEdit lines n

-- what the head of an input says: an edit on each line, and where the document begins, or which line is the first that says none
abbrev pub SaysEdits : List ℕ → EditHead → Type 0
SaysEdits t (Edits es d) = SaysEditsOf t (map edit_of es.items) d
SaysEdits t (Bad n) = SaysBadEdit t n
