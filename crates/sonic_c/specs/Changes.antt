-- What a call that changes a document comes to, in the caller's memory, and the one that makes edits.
use Rattle.std.specs.Prelude.{◌≡◌, ℕ, ◌+◌, ◌<◌, List, length}
use Rattle.sonic_edits.specs.Heads.{SaysEditsOf, SaysBadEdit}
use Rattle.sonic_find.specs.Documents.{IsValidDocument}
use Rattle.sonic_owned.specs.Edits.{AreEdits, IsFirstRefused}
use Rattle.sonic_owned.specs.Forms.{Form, text as text_of_form}
use Rattle.sonic_owned.specs.Owned.{IsRawDocument}
use Rattle.sonic_owned.specs.TreeEdits.{Edit}
use Rattle.sonic_c.specs.Statuses.{status_bad_lines, status_edit_refused}
use Rattle.sonic_c.specs.Texts.{IsMadeCall, IsNoDocument}
use Rattle.sonic_c.specs.Told.{at_line}
use Rattle.sonic_c.specs.Values.{TextCells}
use Rattle.sonic_c.specs.declared.fault.Fault.{Fault}

-- the document has a value of this form
pub record IsDocumentForm (t : List ℕ) (f : Form) : Type 0 where
  pub valid : IsValidDocument t
  pub document : IsRawDocument t f

-- this is the text of what is made so of the document's value
pub record IsChangedText (Makes : Form → Form → Type 0) (t text : List ℕ) : Type 0 where
  pub value : Form
  pub document : IsDocumentForm t value
  pub result : Form
  pub make : Makes value result
  pub is : text ≡ text_of_form result

-- nothing is made: the text is no document, or its value is refused so, by the error after it and the status
pub data IsUnchanged (Refuses : Form → Fault → ℕ → Type 0) (t : List ℕ) (before after : Fault) (status : ℕ) : Type 0 where
  no_value : IsNoDocument t before after status → IsUnchanged Refuses t before after status
  value_refused : (f : Form) → IsDocumentForm t f → Refuses f after status → IsUnchanged Refuses t before after status

-- the lines say these edits, and nothing comes after them but blank lines' ends
abbrev pub SayEdits : List ℕ → List (Edit Form) → Type 0
SayEdits lines es = SaysEditsOf lines es (length lines)

-- this line, counted from 1, is the first that says no edit, or is blank with more after it
pub data SayBadEdits (lines : List ℕ) (n : ℕ) : Type 0 where
  bad_edit : SaysBadEdit lines n → SayBadEdits lines n
  blank_edit : {es : List (Edit Form)} {d : ℕ} → SaysEditsOf lines es d → d < length lines → n ≡ length es + 1 → SayBadEdits lines n

-- the lines say no edits, and that is told
pub record AreNoEdits (lines : List ℕ) (before after : Fault) (status : ℕ) : Type 0 where
  pub number : ℕ
  pub bad : SayBadEdits lines number
  pub told : after ≡ at_line number
  pub says : status ≡ status_bad_lines

-- the first edit that the value refuses is told, counted from 1
pub record IsEditRefused (es : List (Edit Form)) (f : Form) (after : Fault) (status : ℕ) : Type 0 where
  pub number : ℕ
  pub first : IsFirstRefused es f number
  pub told : after ≡ at_line number
  pub says : status ≡ status_edit_refused

-- this is the text of the document with the edits that the lines say
pub record IsEditedText (t lines text : List ℕ) : Type 0 where
  pub edits : List (Edit Form)
  pub say : SayEdits lines edits
  pub changed : IsChangedText (AreEdits edits) t text

-- it isn't edited: the lines say no edits, or nothing is made by them
pub data IsUnedited (t lines : List ℕ) (before after : Fault) (status : ℕ) : Type 0 where
  no_edits : AreNoEdits lines before after status → IsUnedited t lines before after status
  edits_unmade : {es : List (Edit Form)} → SayEdits lines es → IsUnchanged (IsEditRefused es) t before after status → IsUnedited t lines before after status

-- what a call for the text of a document with edits comes to
abbrev pub IsEditCall : List ℕ → List ℕ → TextCells → TextCells → ℕ → Type 0
IsEditCall t lines = IsMadeCall (IsEditedText t lines) (IsUnedited t lines)
