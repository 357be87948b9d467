-- Edit lines.
use Rattle.std.specs.Prelude.{◌≡◌, ℕ, List, [], ◌∷◌, codes, length, map}
use Rattle.std.specs.Str.{IsUtf8}
use Rattle.sonic_find.specs.Documents.{IsDocumentValue}
use Rattle.sonic_owned.specs.Forms.{Form, raw, unnamed}
use Rattle.sonic_owned.specs.Opened.{AreAllMembers}
use Rattle.sonic_owned.specs.TreeEdits.{Edit, set, push, pair, take}
use Rattle.sonic_paths.specs.Lines.{IsNodeLine}
use Rattle.sonic_text.specs.Strings.{strict, IsString}
use Rattle.sonic_text.specs.declared.kind.Kind.TheVariants.{Array}

-- the whole text is a string, which denotes b
abbrev pub Denotes : List ℕ → List ℕ → Type 0
Denotes t b = IsString strict t 0 (length t) b

-- the texts of an array's elements say this edit: a word, the path, and what the word asks for
pub data SaysEdit : List (List ℕ) → Edit Form → Type 0 where
  says_set : {word path value : List ℕ} {e : Edit Form} → Denotes word (codes "set") → IsNodeLine path e.path → e.change ≡ set (raw value)
      → SaysEdit (word ∷ path ∷ value ∷ []) e
  says_push : {word path value : List ℕ} {e : Edit Form} → Denotes word (codes "push") → IsNodeLine path e.path → e.change ≡ push (raw value)
      → SaysEdit (word ∷ path ∷ value ∷ []) e
  says_pair : {word path key value k : List ℕ} {e : Edit Form} → Denotes word (codes "pair") → IsNodeLine path e.path → Denotes key k
      → e.change ≡ pair k (raw value) → SaysEdit (word ∷ path ∷ key ∷ value ∷ []) e
  says_take : {word path : List ℕ} {e : Edit Form} → Denotes word (codes "take") → IsNodeLine path e.path → e.change ≡ take → SaysEdit (word ∷ path ∷ []) e

-- the text begins with an array, whose elements have these texts
abbrev pub AreElementTexts : List ℕ → List (List ℕ) → Type 0
AreElementTexts t texts = AreAllMembers t Array (unnamed (map raw texts))

-- the line is a document in UTF-8, one value with nothing but white space around it, and that is an array whose elements say this edit
pub record IsEditLine (line : List ℕ) (e : Edit Form) : Type 0 where
  pub utf8 : IsUtf8 line
  pub text : List ℕ
  pub value : IsDocumentValue line text
  pub elements : List (List ℕ)
  pub array : AreElementTexts text elements
  pub says : SaysEdit elements e
