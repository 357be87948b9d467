-- The members of an operation as texts.
use Rattle.std.specs.Prelude.{◌≡◌, ℕ, List, codes}
use Rattle.std.specs.Cow.{cow_str_bytes}
use Rattle.sonic_lazy.specs.LazyValues.{raw_bytes}
use Rattle.sonic_owned.specs.Forms.{Form, raw}
use Rattle.sonic_patch.specs.Internal.Pieces.{IsReadBy}
use Rattle.sonic_patch.specs.Operations as operations
use Rattle.sonic_patch.specs.Operations.{Operation}
use Rattle.sonic_patch.specs.Pointers.{Token}
use Rattle.sonic_patch.specs.Reading.{HasMember, SaysText}
use Rattle.sonic_patch.specs.declared.parts.Paired.{Paired}
use Rattle.sonic_patch.specs.declared.parts.Paired.TheVariants.{Move, Copy}
use Rattle.sonic_patch.specs.declared.parts.Parts.{Parts}
use Rattle.sonic_patch.specs.declared.parts.Parts.TheVariants as parts
use Rattle.sonic_patch.specs.declared.parts.Valued.{Valued}
use Rattle.sonic_patch.specs.declared.parts.Valued.TheVariants.{Add, Replace, Test}
use Rattle.sonic_patch.specs.declared.parts.Word.{Word}
use Rattle.sonic_patch.specs.declared.parts.Word.TheVariants as word

-- the words, and what each makes of tokens and a value
abbrev pub valued_word : Valued → List ℕ
valued_word Add = codes "add"
valued_word Replace = codes "replace"
valued_word Test = codes "test"

abbrev pub paired_word : Paired → List ℕ
paired_word Move = codes "move"
paired_word Copy = codes "copy"

abbrev pub word_text : Word → List ℕ
word_text word.Remove = codes "remove"
word_text (word.Valued w) = valued_word w
word_text (word.Paired w) = paired_word w

abbrev pub valued : Valued → List Token → Form → Operation Form
valued Add path f = operations.add path f
valued Replace path f = operations.replace path f
valued Test path f = operations.test path f

abbrev pub paired : Paired → List Token → List Token → Operation Form
paired Move from path = operations.move from path
paired Copy from path = operations.copy from path

-- an operation with the texts of its pointers and its value
pub data Texts : Type 0 where
  of_remove : (path : List ℕ) → Texts
  of_valued : Valued → (path value : List ℕ) → Texts
  of_paired : Paired → (from path : List ℕ) → Texts

-- those of what was read
abbrev pub texts_of : Parts → Texts
texts_of (parts.Remove path) = of_remove (cow_str_bytes path)
texts_of (parts.Valued w path value) = of_valued w (cow_str_bytes path) (raw_bytes value)
texts_of (parts.Paired w from path) = of_paired w (cow_str_bytes from) (cow_str_bytes path)

-- the object has these texts
abbrev pub HasTexts : List ℕ → Texts → Type 0
HasTexts object (of_remove path) = SaysText object (codes "op") (codes "remove") × SaysText object (codes "path") path
HasTexts object (of_valued w path value) = SaysText object (codes "op") (valued_word w) × SaysText object (codes "path") path × HasMember object (codes "value") value
HasTexts object (of_paired w from path) = SaysText object (codes "op") (paired_word w) × SaysText object (codes "path") path × SaysText object (codes "from") from

-- the pointers among the texts are read so
abbrev pub AreRead : (List ℕ → List Token → Type 0) → Texts → Type 0
AreRead Reads (of_remove path) = IsReadBy Reads path
AreRead Reads (of_valued w path value) = IsReadBy Reads path
AreRead Reads (of_paired w from path) = IsReadBy Reads from × IsReadBy Reads path

-- and make this operation
abbrev pub Makes : (List ℕ → List Token → Type 0) → Texts → Operation Form → Type 0
Makes Reads (of_remove path) op = (tokens : List Token) × Reads path tokens × (op ≡ operations.remove tokens)
Makes Reads (of_valued w path value) op = (tokens : List Token) × Reads path tokens × (op ≡ valued w tokens (raw value))
Makes Reads (of_paired w from path) op = (tokens : List Token) × (others : List Token) × Reads from tokens × Reads path others × (op ≡ paired w tokens others)
