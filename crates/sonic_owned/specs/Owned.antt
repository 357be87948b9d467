-- What calls of owned values say.
use Rattle.std.specs.Prelude.{◌≡◌, ◌<◌, ℕ, List, Some, slice_get}
use Rattle.sonic_find.specs.Documents.{IsDocumentValue}
use Rattle.sonic_owned.specs.Forms.{Form, raw}

-- the form is the text of the one value that the document is
pub record IsRawDocument (t : List ℕ) (f : Form) : Type 0 where
  pub bytes : List ℕ
  pub value : IsDocumentValue t bytes
  pub form : f ≡ raw bytes

-- the member at i has this key
abbrev pub HasKeyAt : List (List ℕ × Form) → List ℕ → ℕ → Type 0
HasKeyAt ms k i = (f : Form) × (slice_get ms i ≡ Some (k, f))

-- and it is the first one
pub record IsFirstOfKey (ms : List (List ℕ × Form)) (k : List ℕ) (i : ℕ) : Type 0 where
  pub here : HasKeyAt ms k i
  pub first : (p : ℕ) → p < i → ¬ HasKeyAt ms k p
