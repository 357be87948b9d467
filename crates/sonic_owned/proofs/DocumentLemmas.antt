-- The value that a document is.
use Rattle.std.proofs.Common.{◌≡◌, ◌∙◌, sym, refl, ap, ap₂, ℕ, List}
use Rattle.std.specs.Prelude.{slice_range}
use Rattle.sonic_find.proofs.DocumentLemmas.{alone_one, alone_part}
use Rattle.sonic_find.specs.Documents.{IsAlone, IsDocumentValue, IsValidDocument}
use Rattle.sonic_owned.specs.Forms.{Form, raw, IsSound, raw_sound}
use Rattle.sonic_owned.specs.Owned.{IsRawDocument}
use Rattle.sonic_text.proofs.ValueParts.{value_of_part}
use Rattle.sonic_text.specs.Places.{after_space}

-- a document is one value
pub value_one : {t a b : List ℕ} → IsDocumentValue t a → IsDocumentValue t b → a ≡ b
value_one {t} x y = let e = alone_one x.alone y.alone in x.is ∙ ap₂ (slice_range t) e.0 e.1 ∙ sym y.is

-- so it has one form
pub raw_document_one : {t : List ℕ} {f g : Form} → IsRawDocument t f → IsRawDocument t g → f ≡ g
raw_document_one x y = x.form ∙ ap raw (value_one x.value y.value) ∙ sym y.form

-- and a valid one has a form, which is sound
pub raw_document_some : {t : List ℕ} → IsValidDocument t → (f : Form) × IsRawDocument t f × IsSound f
raw_document_some {t} x =
    let alone : IsAlone t (after_space t 0) x.alone.end = record { start = refl; root = x.alone.root; end = x.alone.place } in
    let part = alone_part x.utf8 alone in
    let bytes = slice_range t (after_space t 0) x.alone.end in
    let value : IsDocumentValue t bytes = record { start = after_space t 0; end = x.alone.end; alone = alone; is = refl } in
    (raw bytes, record { bytes = bytes; value = value; form = refl }, raw_sound (value_of_part part.value part.inside) part.utf8)
