-- Whether a text is a valid document, and the one reason why it is none.
use Rattle.std.proofs.Common.{◌≡◌, ◌⊎◌, inl, inr, ap, ℕ, ◌<◌, ◌≤◌, List, Bool, true, false, length, take, arith, refl, sym, ◌∙◌}
use Rattle.std.proofs.Math.Seq.{take-length}
use Rattle.std.proofs.lemmas.Bool.{cases_lt}
use Rattle.std.specs.Str.{IsUtf8}
use Rattle.sonic_error.specs.Errors.{IsPlainError}
use Rattle.sonic_error.specs.Texts.{valid_up_to}
use Rattle.sonic_error.specs.declared.code.ErrorCode.TheVariants.{InvalidUTF8, TrailingCharacters, NoMemory}
use Rattle.sonic_error.specs.declared.error.Error.{Error}
use Rattle.sonic_find.proofs.AnswerLemmas.One.{utf8_or_not}
use Rattle.sonic_find.proofs.Utf8Lemmas.{utf8_up_to, utf8_of_span}
use Rattle.sonic_find.specs.Parts.{IsPart}
use Rattle.sonic_text.specs.Values.{IsValue}
use Rattle.sonic_find.specs.Documents.{IsAfterRoot, IsAlone, IsValidDocument, IsInvalid, no_root, text_after, broken_text, IsInvalidError, out_of_memory, invalid}
use Rattle.sonic_find.specs.Internal.Roots.{IsRoot}
use Rattle.sonic_find.specs.declared.document.Root.{Root}
use Rattle.sonic_find.specs.Laws.{HoldsOrHasOneReason}
use Rattle.sonic_parser.specs.Faults.{IsStopFor, IsErrorOf}
use Rattle.sonic_parser.specs.Parsers.{ParserState, moved, value_start, IsPassed}
use Rattle.sonic_parser.specs.declared.fault.Fault.{Fault}
use Rattle.sonic_parser.specs.declared.fault.Fault.TheVariants.{OutOfMemory, At}
use Rattle.sonic_parser.specs.declared.value_span.ValueSpan.{ValueSpan}
use Rattle.sonic_text.proofs.Outcomes.{value_some_outcome}
use Rattle.sonic_text.proofs.Values.{value_end_one, value_fault_one, value_never_both}
use Rattle.sonic_text.proofs.Within.{after_space_within, value_within}
use Rattle.sonic_text.specs.Documents.{IsWhole, StartsWithUtf8Value}
use Rattle.sonic_text.specs.Places.{after_space}
use Rattle.sonic_text.specs.Strings.{strict}
use Rattle.sonic_text.specs.declared.stop.Stop.{Stop}

-- a valid document, or a reason why the text is none
abbrev HasVerdict : List ℕ → Bool → Type 0
HasVerdict t is_bytes = IsValidDocument t ⊎ ((s : Stop) × IsInvalid t is_bytes s)

-- where nothing follows the root, UTF-8 decides
alone_decided : {t : List ℕ} (is_bytes : Bool) → (is_bytes ≡ false → IsUtf8 t) → IsAfterRoot t (length t) → HasVerdict t is_bytes
alone_decided false text x = inl (record { alone = x; utf8 = text refl })
alone_decided {t} true text x = elim (utf8_or_not t) [
  | inl u ↦ inl (record { alone = x; utf8 = u })
  | inr n ↦ inr (record { place = valid_up_to t; code = InvalidUTF8 }, broken_text x refl n refl)
]

-- where there is a root, what follows it decides
root_decided : {t : List ℕ} {j : ℕ} (is_bytes : Bool) → (is_bytes ≡ false → IsUtf8 t) → IsWhole t j → HasVerdict t is_bytes
root_decided {t} {j} is_bytes text x = elim (cases_lt (after_space t j) (length t)) [
  | inl l ↦ inr (record { place = after_space t j; code = TrailingCharacters }, text_after (record { end = j; root = x; place = refl }) l refl)
  | inr l ↦ (let within = after_space_within t j (value_within x) in alone_decided is_bytes text (record { end = j; root = x; place = omega (arith, l, within) }))
]

-- each text is decided
decided : (t : List ℕ) (is_bytes : Bool) → (is_bytes ≡ false → IsUtf8 t) → HasVerdict t is_bytes
decided t is_bytes text = elim (value_some_outcome strict t (after_space t 0)) [
  | inl x ↦ root_decided is_bytes text x.1
  | inr f ↦ inr (f.0, no_root f.1)
]

-- one place comes after the root
after_one : {t : List ℕ} {p q : ℕ} → IsAfterRoot t p → IsAfterRoot t q → p ≡ q
after_one {t} x y = sym x.place ∙ (ap (after_space t) (value_end_one x.root y.root) ∙ y.place)

-- it is the end, or text is there
alone_or_after : {t : List ℕ} {p : ℕ} → IsAfterRoot t (length t) → IsAfterRoot t p → p < length t → ⊥
alone_or_after x y l = let e = after_one x y in omega (arith, e, l)

-- a text has one reason
pub reason_one : {t : List ℕ} {is_bytes : Bool} {s r : Stop} → IsInvalid t is_bytes s → IsInvalid t is_bytes r → s ≡ r
reason_one (no_root f) (no_root g) = value_fault_one f g
reason_one (no_root f) (text_after y l e) = absurd (value_never_both y.root f)
reason_one (no_root f) (broken_text y b n e) = absurd (value_never_both y.root f)
reason_one (text_after x l e) (no_root g) = absurd (value_never_both x.root g)
reason_one (text_after x l e) (text_after y m f) = rw (e, f, after_one x y) refl
reason_one (text_after x l e) (broken_text y b n f) = absurd (alone_or_after y x l)
reason_one (broken_text x b n e) (no_root g) = absurd (value_never_both x.root g)
reason_one (broken_text x b n e) (text_after y l f) = absurd (alone_or_after x y l)
reason_one (broken_text x b n e) (broken_text y c m f) = e ∙ sym f

-- and a valid document has none
never_invalid : {t : List ℕ} {is_bytes : Bool} {s : Stop} → IsValidDocument t → IsInvalid t is_bytes s → ⊥
never_invalid x (no_root f) = value_never_both x.alone.root f
never_invalid x (text_after y l e) = alone_or_after x.alone y l
never_invalid x (broken_text y b n e) = n x.utf8

-- so each text is valid or has one reason
pub document_one : (t : List ℕ) (is_bytes : Bool) → (is_bytes ≡ false → IsUtf8 t) → HoldsOrHasOneReason (IsValidDocument t) (IsInvalid t is_bytes)
document_one t is_bytes text = record {
  some_reason = decided t is_bytes text;
  one_reason = λ s r x y. reason_one x y;
  never_both = λ s x y. never_invalid x y;
}

-- a parser that skipped the root, and then white space, has passed both
pub root_passed : {t : List ℕ} {p q r s : ParserState} {x : ValueSpan} → p.text ≡ t → p.place ≡ 0 → p.lossy ≡ false → q ≡ moved p (value_start p)
    → IsPassed q r x → r ≡ moved q r.place → s ≡ moved r (value_start r) → IsRoot t (record { value = x; after = s.place })
root_passed {t} {p} {q} {r} {s} text start lossy first passed kept last =
    let same : q.text ≡ t = ap (λ (x : ParserState). x.text) first ∙ text in
    let later : r.text ≡ t = ap (λ (x : ParserState). x.text) kept ∙ same in
    let place : q.place ≡ after_space t 0 = ap (λ (x : ParserState). x.place) first ∙ rw (text, start) refl in
    let way : q.lossy ≡ false = ap (λ (x : ParserState). x.lossy) first ∙ lossy in
    record {
      start = sym (passed.start ∙ place);
      value = rw passed.end (rw (way, same, place) at passed.value);
      after = rw passed.end (sym (ap (λ (x : ParserState). x.place) last ∙ rw later refl));
      escaped = rw (passed.start, passed.end) (rw same at passed.escaped);
    }

-- the place after a root
pub after_root : {t : List ℕ} {root : Root} → IsRoot t root → IsAfterRoot t root.after
after_root {root = root} x = record { end = root.value.end; root = x.value; place = x.after }

-- a root that no text follows is alone
pub root_alone : {t : List ℕ} {root : Root} → IsRoot t root → length t ≤ root.after → root.after ≤ length t → IsAlone t root.value.start root.value.end
root_alone {t} {root} x l within = record { start = x.start; root = x.value; end = x.after ∙ omega (arith, l, within) }

-- and the end comes after it
pub after_alone : {t : List ℕ} {i j : ℕ} → IsAlone t i j → IsAfterRoot t (length t)
after_alone {j = j} x = record { end = j; root = x.root; place = x.end }

-- one value is alone
pub alone_one : {t : List ℕ} {i j p q : ℕ} → IsAlone t i j → IsAlone t p q → (i ≡ p) × (j ≡ q)
alone_one x y = (sym x.start ∙ y.start, value_end_one x.root y.root)

-- what is alone in UTF-8 is valid
pub alone_never_invalid : {t : List ℕ} {i j : ℕ} {s : Stop} → IsAlone t i j → IsInvalid t false s → ⊥
alone_never_invalid x (no_root f) = value_never_both x.root f
alone_never_invalid x (text_after y l e) = alone_or_after (after_alone x) y l
alone_never_invalid x (broken_text y b n e) = absurd cc

-- a reason that holds of a text however it came
pub reason_either : (t : List ℕ) (is_bytes : Bool) (fault : Fault) → IsStopFor (λ s. (is_bytes : Bool) → IsInvalid t is_bytes s) fault
    → IsStopFor (IsInvalid t is_bytes) fault
reason_either t is_bytes OutOfMemory h = h
reason_either t is_bytes (At s) h = h is_bytes

-- broken bytes are the reason
pub reason_broken : {t : List ℕ} {is_bytes : Bool} {s : Stop} → IsAfterRoot t (length t) → is_bytes ≡ true → ¬ IsUtf8 (take (length t) t)
    → s ≡ record { place = valid_up_to (take (length t) t); code = InvalidUTF8 } → IsInvalid t is_bytes s
reason_broken {t} x b n e = let whole = take-length t in broken_text x b (rw whole at n) (rw whole at e)

-- the error of a fault says why
pub invalid_error : {t : List ℕ} {is_bytes : Bool} {e : Error} (fault : Fault) → IsStopFor (IsInvalid t is_bytes) fault → IsErrorOf t fault e
    → IsInvalidError t is_bytes e
invalid_error OutOfMemory h e = out_of_memory e
invalid_error (At s) h e = invalid s h e

-- and of a valid document there is none but running out of memory
pub valid_but_memory : {t : List ℕ} {is_bytes : Bool} {e : Error} → IsValidDocument t → IsInvalidError t is_bytes e → IsPlainError e NoMemory
valid_but_memory x (out_of_memory e) = e
valid_but_memory x (invalid s h e) = absurd (never_invalid x h)

-- a valid document starts with its value
pub document_starts : {t : List ℕ} → IsValidDocument t → StartsWithUtf8Value t
document_starts {t} x =
    let within = value_within x.alone.root in
    record { end = x.alone.end; root = x.alone.root; utf8 = utf8_up_to (length t) (rw (take-length t) x.utf8) x.alone.root within }

-- the one value of a text in UTF-8 is a part of its own
pub alone_part : {t : List ℕ} {i j : ℕ} → IsUtf8 t → IsAlone t i j → IsPart t i j
alone_part {t} {i} {j} utf8 x =
    let value : IsValue strict t i j = rw x.start at x.root in
    let within = value_within value in
    record { value = value; inside = within; utf8 = utf8_of_span (length t) (rw (take-length t) utf8) value within (omega arith) }
