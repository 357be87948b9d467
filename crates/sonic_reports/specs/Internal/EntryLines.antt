-- The line of a value of a document, by the parts that are written of it.
use Rattle.std.specs.Prelude.{◌≡◌, ◌≤◌, ℕ, List, [], ◌++◌, codes, length, slice_range}
use Rattle.std.specs.Fmt.{decimal}
use Rattle.sonic_index.specs.declared.entry.Label.{Label}
use Rattle.sonic_index.specs.declared.entry.Label.TheVariants.{Root, Key, At}

-- a key that is the label lies within the text
abbrev pub HasKeyWithin : List ℕ → Label → Type 0
HasKeyWithin t label = (start end : ℕ) → label ≡ Key start end → (start ≤ end) × (end ≤ length t)

-- the label without the key
abbrev pub word_of_label : Label → List ℕ
word_of_label Root = codes "root"
word_of_label (Key start end) = codes "key "
word_of_label (At n) = codes "at " ++ decimal n

-- the key that is the label, or nothing
abbrev pub key_of_label : List ℕ → Label → List ℕ
key_of_label t Root = []
key_of_label t (Key start end) = slice_range t start end
key_of_label t (At n) = []
