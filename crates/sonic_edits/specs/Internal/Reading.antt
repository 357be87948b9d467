-- What the reader of an edit line knows: private clauses, on which no public clause rests.
use Rattle.std.specs.Prelude.{◌≡◌, ℕ, List, [], ◌∷◌, codes}
use Rattle.sonic_edits.specs.Lines.{Denotes, AreElementTexts}
use Rattle.sonic_find.specs.Documents.{IsDocumentValue}
use Rattle.sonic_owned.specs.Forms.{Form, raw}
use Rattle.sonic_owned.specs.TreeEdits.{Change, set, push, pair, take}

-- the line is an array with white space around it, whose elements have these texts
pub record HasElements (line : List ℕ) (texts : List (List ℕ)) : Type 0 where
  pub text : List ℕ
  pub value : IsDocumentValue line text
  pub array : AreElementTexts text texts

-- the word asks for this change, with the texts of what comes after the path
pub data SaysChange (word : List ℕ) : List (List ℕ) → Change Form → Type 0 where
  sets : {value : List ℕ} {c : Change Form} → word ≡ codes "set" → c ≡ set (raw value) → SaysChange word (value ∷ []) c
  pushes : {value : List ℕ} {c : Change Form} → word ≡ codes "push" → c ≡ push (raw value) → SaysChange word (value ∷ []) c
  pairs : {key value k : List ℕ} {c : Change Form} → word ≡ codes "pair" → Denotes key k → c ≡ pair k (raw value) → SaysChange word (key ∷ value ∷ []) c
  takes : {c : Change Form} → word ≡ codes "take" → c ≡ take → SaysChange word [] c
