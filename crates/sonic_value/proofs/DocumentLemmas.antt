-- Whether a text is read as a document.
use Rattle.std.proofs.Common.{◌≡◌, ℕ, ◌<◌, ◌≤◌, List, Bool, true, length, ap, arith, refl, sym, ◌∙◌}
use Rattle.std.specs.Str.{IsUtf8}
use Rattle.sonic_error.specs.Errors.{IsPlainError}
use Rattle.sonic_error.specs.Texts.{valid_up_to}
use Rattle.sonic_error.specs.declared.code.ErrorCode.TheVariants.{InvalidUTF8, TrailingCharacters, NoMemory}
use Rattle.sonic_error.specs.declared.error.Error.{Error}
use Rattle.sonic_find.proofs.DocumentLemmas.{after_alone, valid_but_memory}
use Rattle.sonic_find.specs.Documents.{IsValidDocument, no_root, text_after, broken_text, invalid as an_invalid}
use Rattle.sonic_parser.specs.Faults.{IsStopFor, IsErrorOf}
use Rattle.sonic_parser.specs.declared.fault.Fault.{Fault}
use Rattle.sonic_parser.specs.declared.fault.Fault.TheVariants.{OutOfMemory, At}
use Rattle.sonic_text.proofs.Items.{opening_not_end}
use Rattle.sonic_text.proofs.Places.{byte_within}
use Rattle.sonic_text.proofs.Stops.{fault_within}
use Rattle.sonic_text.specs.Places.{after_space}
use Rattle.sonic_text.specs.Trees.{Tree}
use Rattle.sonic_text.specs.declared.stop.Stop.{Stop}
use Rattle.sonic_value.proofs.KeepingLemmas.{kept_same}
use Rattle.sonic_value.proofs.ReaderLemmas.{value_read}
use Rattle.sonic_value.specs.Depths.{IsShallow}
use Rattle.sonic_value.specs.Internal.Keeping.{kept}
use Rattle.sonic_value.specs.Internal.Readers.{Source, IsValueRead, IsUnreadValue, too_deep as a_too_deep, at_fault, IsDocumentRead}
use Rattle.sonic_value.specs.Reading.{IsRead, IsUnread, too_deep, invalid, IsUnreadError, out_of_memory, unread}

-- a value that isn't read is so within the text
pub unread_within : {t : List ℕ} {depth_left i : ℕ} (s : Stop) → IsUnreadValue t depth_left i s → s.place ≤ length t
unread_within {t} s (a_too_deep {p = p} x e) =
    let b = x.nested.bracket in
    let within = byte_within t p (λ z. opening_not_end x.nested.kind (sym b ∙ z)) in
    rw e (omega arith)
unread_within s (at_fault shallow f) = fault_within f

-- and neither is the document then
pub root_unread : {t : List ℕ} (s : Stop) → IsUnreadValue t 255 (after_space t 0) s → (is_bytes : Bool) → IsUnread t is_bytes s
root_unread s (a_too_deep x e) is_bytes = too_deep x e
root_unread s (at_fault shallow f) is_bytes = invalid shallow (no_root f)

module _ {s : Source} {j : ℕ} {x : Tree} (value : IsValueRead s 255 (after_space s.text 0) j x) where
  -- or text follows it
  pub trailing_unread : after_space s.text j < length s.text → (is_bytes : Bool)
      → IsUnread s.text is_bytes (record { place = after_space s.text j; code = TrailingCharacters })
  trailing_unread less is_bytes = invalid value.shallow (text_after (record { end = j; root = value_read value; place = refl }) less refl)

  -- else the document is read
  pub root_read : after_space s.text j ≡ length s.text → IsDocumentRead s x
  root_read end = record {
    start = after_space s.text 0;
    end = j;
    alone = record { start = refl; root = value_read value; end = end };
    kept = value.kept;
    shallow = value.shallow;
  }

-- in UTF-8
pub document_read : {s : Source} {x : Tree} → IsDocumentRead s x → s.is_utf8 ≡ true → IsUtf8 s.text → IsRead s.text x
document_read {s} {x} d known utf8 =
    let same : d.kept.meant ≡ x = sym (d.kept.is ∙ ap (λ u. kept u d.kept.meant) known ∙ kept_same d.kept.meant) in
    record { start = d.start; end = d.end; alone = d.alone; means = rw same at d.kept.means; utf8 = utf8; shallow = d.shallow }

-- or not
pub broken_unread : {s : Source} {x : Tree} → IsDocumentRead s x → ¬ IsUtf8 s.text → IsUnread s.text true (record { place = valid_up_to s.text; code = InvalidUTF8 })
broken_unread d broken = invalid (rw (← d.alone.start) at d.shallow) (broken_text (after_alone d.alone) refl broken refl)

-- the error of a fault says why it isn't read
pub unread_error : {t : List ℕ} {is_bytes : Bool} {e : Error} (fault : Fault) → IsStopFor (IsUnread t is_bytes) fault → IsErrorOf t fault e
    → IsUnreadError t is_bytes e
unread_error OutOfMemory h e = out_of_memory e
unread_error (At s) h e = unread s h e

-- and of a valid document that isn't too deep it is running out of memory
pub read_but_memory : {t : List ℕ} {is_bytes : Bool} {e : Error} → IsValidDocument t → IsShallow t 255 (after_space t 0) → IsUnreadError t is_bytes e
    → IsPlainError e NoMemory
read_but_memory valid shallow (out_of_memory e) = e
read_but_memory valid shallow (unread s (too_deep {p = p} x e) h) = absurd (shallow p x.nested)
read_but_memory valid shallow (unread s (invalid own h) e) = valid_but_memory valid (an_invalid s h e)
