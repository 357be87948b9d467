-- What a document says of the number that it may be.
use Rattle.std.proofs.Common.{◌≡◌, ◌⊎◌, ◌≢◌, inl, inr, ℕ, ◌+◌, ◌-◌, ◌<◌, ◌≤◌, List, Bool, false, length, drop, slice_range, codes, arith, refl, sym, ◌∙◌}
use Rattle.std.proofs.Math.Seq.{take-length}
use Rattle.std.proofs.lemmas.Bool.{cases_eq}
use Rattle.std.proofs.lemmas.List.{get_or-drop, get_or-take}
use Rattle.std.proofs.lemmas.Slice.{between_from_start}
use Rattle.std.specs.declared.result.Result.TheVariants.{Ok, Err}
use Rattle.std.specs.Str.{IsUtf8}
use Rattle.sonic_error.specs.declared.error.Error.{Error}
use Rattle.sonic_error.specs.declared.code.ErrorCode.TheVariants.{InvalidNumber, Message, NoMemory}
use Rattle.sonic_error.specs.declared.json_type.Note.TheVariants.{Mismatch}
use Rattle.sonic_error.specs.declared.json_type.Wanted.TheVariants.{Number}
use Rattle.sonic_error.specs.Errors.{IsPlainError}
use Rattle.sonic_find.proofs.DocumentLemmas.{alone_one, alone_never_invalid, reason_one, document_one}
use Rattle.sonic_find.specs.Documents.{IsAlone, IsInvalid}
use Rattle.sonic_find.specs.Laws.{HoldsOrHasOneReason}
use Rattle.sonic_lazy.specs.RawNumbers.{IsNumberText, IsNumberDocument, a_number, a_quoted_number, IsNoNumber, no_document, other_type, other_string, IsNumberError, out_of_memory, no_number}
use Rattle.sonic_parser.specs.Faults.{IsStopFor, IsErrorOf}
use Rattle.sonic_parser.specs.declared.fault.Fault.{Fault}
use Rattle.sonic_parser.specs.declared.fault.Fault.TheVariants.{OutOfMemory, At}
use Rattle.sonic_text.proofs.Ascii.{number_utf8}
use Rattle.sonic_text.proofs.Numbers.{number_begins, number_one, number_outcome_one, number_some}
use Rattle.sonic_text.proofs.Strings.{chars_later}
use Rattle.sonic_text.proofs.Values.{first_letter, items_open, value-longer}
use Rattle.sonic_text.proofs.Within.{value_within}
use Rattle.sonic_text.specs.Numbers.{IsNumber, IsNumberFault}
use Rattle.sonic_text.specs.Places.{byte, after_space}
use Rattle.sonic_text.specs.Strings.{contents, strict}
use Rattle.sonic_text.specs.Values.{type_at, IsValue, null_literal, true_literal, false_literal, number, string, empty, filled, opening}
use Rattle.sonic_text.specs.declared.kind.Kind.{Kind}
use Rattle.sonic_text.specs.declared.kind.Kind.TheVariants.{Array, Object}
use Rattle.sonic_text.specs.declared.stop.Stop.{Stop}

-- a number up to the text's end is text, as its bytes are ASCII
pub whole_utf8 : {t : List ℕ} {j : ℕ} → IsNumber t 0 j → j ≡ length t → IsUtf8 t
whole_utf8 {t} {j} n e =
    let ascii : IsUtf8 (slice_range t 0 j) = number_utf8 n in
    rw (e, between_from_start t (length t), take-length t) at ascii

-- a number that ends before that is all that begins there
pub longer_no_number : {t : List ℕ} {j : ℕ} → IsNumber t 0 j → j ≢ length t → ¬ IsNumberText t
longer_no_number n e whole = e (number_one n whole)

-- and where none begins, the text is none
pub fault_no_number : {t : List ℕ} {s : Stop} → IsNumberFault t 0 s → ¬ IsNumberText t
fault_no_number {t} {s} f whole = let e = number_outcome_one t 0 (Ok (length t)) (Err s) whole f in cc

-- no number begins with a quote
number_unquoted : {t : List ℕ} {i j : ℕ} → IsNumber t i j → byte t i ≡ 34 → ⊥
number_unquoted h q = elim (number_begins h) [ inl e ↦ omega (arith, e, q) | inr d ↦ omega (arith, d, q) ]

-- no bracket is a quote
bracket_no_quote : (kind : Kind) → opening kind ≡ 34 → ⊥
bracket_no_quote Array e = omega arith
bracket_no_quote Object e = omega arith

-- a value that begins with a quote has another one at its end
pub quoted_longer : {t : List ℕ} {i j : ℕ} → IsValue strict t i j → byte t i ≡ 34 → i + 2 ≤ j
quoted_longer {t} {i} (null_literal h) q = absurd (let e = first_letter (codes "null") t i (omega arith) h in omega (arith, e, q))
quoted_longer {t} {i} (true_literal h) q = absurd (let e = first_letter (codes "true") t i (omega arith) h in omega (arith, e, q))
quoted_longer {t} {i} (false_literal h) q = absurd (let e = first_letter (codes "false") t i (omega arith) h in omega (arith, e, q))
quoted_longer (number h) q = absurd (number_unquoted h q)
quoted_longer (string h) q = let l = chars_later h.chars in let e = h.end in omega arith
quoted_longer (empty kind b c e) q = absurd (bracket_no_quote kind (sym b ∙ q))
quoted_longer (filled {kind} is y x c e) q = absurd (bracket_no_quote kind (sym (items_open is) ∙ q))

-- the first byte of a part
part_begins : (t : List ℕ) (i j : ℕ) → i < j → byte (slice_range t i j) 0 ≡ byte t i
part_begins t i j l =
    let first : i + 0 ≡ i = omega arith in
    get_or-take (j - i) (drop i t) 0 0 (omega arith) ∙ get_or-drop i t 0 0 ∙ rw first refl

-- a part that is a number begins with no quote
part_unquoted : (t : List ℕ) (i j : ℕ) → i < j → byte t i ≡ 34 → ¬ IsNumberText (slice_range t i j)
part_unquoted t i j l q n = number_unquoted n (part_begins t i j l ∙ q)

-- the value that a text is alone is a part of it that is not empty
pub alone_span : {t : List ℕ} {i j : ℕ} → IsAlone t i j → (i < j) × (j ≤ length t)
alone_span {t} {j = j} x =
    let later : after_space t 0 < j = value-longer x.root in
    (rw x.start at later, value_within x.root)

-- and where a quote begins it, it has contents
pub alone_quoted : {t : List ℕ} {i j : ℕ} → IsAlone t i j → byte t i ≡ 34 → i + 2 ≤ j
alone_quoted x q = quoted_longer (rw x.start at x.root) q

-- a document that is a number has no reason against it
pub never_no_number : {t n : List ℕ} {s : Stop} → IsNumberDocument t n → IsNoNumber t s → ⊥
never_no_number (a_number x e n) (no_document f) = alone_never_invalid x f
never_no_number {t} (a_number x e n) (other_type y q none f) = let (i, j) = alone_one x y in none (rw (e, i, j) at n)
never_no_number {t} (a_number x e n) (other_string y q none f) = let (i, j) = alone_one x y in part_unquoted _ _ _ (alone_span x).0 (rw i q) (rw e at n)
never_no_number (a_quoted_number x q e n) (no_document f) = alone_never_invalid x f
never_no_number (a_quoted_number x q e n) (other_type y other none f) = let (i, j) = alone_one x y in other (rw i at q)
never_no_number (a_quoted_number x q e n) (other_string y o none f) = let (i, j) = alone_one x y in none (rw (e, i, j) at n)

-- a document is one number
pub number_document_one : {t n m : List ℕ} → IsNumberDocument t n → IsNumberDocument t m → n ≡ m
number_document_one (a_number x e n) (a_number y f m) = let (i, j) = alone_one x y in e ∙ rw (i, j) (sym f)
number_document_one (a_number x e n) (a_quoted_number y q f m) = let (i, j) = alone_one x y in absurd (part_unquoted _ _ _ (alone_span x).0 (rw i q) (rw e at n))
number_document_one (a_quoted_number x q e n) (a_number y f m) = let (i, j) = alone_one x y in absurd (part_unquoted _ _ _ (alone_span y).0 (rw (← i) q) (rw f at m))
number_document_one (a_quoted_number x q e n) (a_quoted_number y r f m) = let (i, j) = alone_one x y in e ∙ rw (i, j) (sym f)

-- and what is none has one reason
no_number_one : {t : List ℕ} {s r : Stop} → IsNoNumber t s → IsNoNumber t r → s ≡ r
no_number_one (no_document f) (no_document g) = reason_one f g
no_number_one (no_document f) (other_type y q none g) = absurd (alone_never_invalid y f)
no_number_one (no_document f) (other_string y q none g) = absurd (alone_never_invalid y f)
no_number_one (other_type x q none f) (no_document g) = absurd (alone_never_invalid x g)
no_number_one (other_type x q none f) (other_type y r nothing g) = let (i, j) = alone_one x y in f ∙ rw (i, j) (sym g)
no_number_one (other_type x q none f) (other_string y r nothing g) = let (i, j) = alone_one x y in absurd (q (rw i r))
no_number_one (other_string x q none f) (no_document g) = absurd (alone_never_invalid x g)
no_number_one (other_string x q none f) (other_type y r nothing g) = let (i, j) = alone_one x y in absurd (r (rw (← i) q))
no_number_one (other_string x q none f) (other_string y r nothing g) = let (i, j) = alone_one x y in f ∙ rw i (sym g)

-- each text is a number, or none
number_text_or_not : (n : List ℕ) → IsNumberText n ⊎ (¬ IsNumberText n)
number_text_or_not n = elim (number_some n 0) [
  | inr f ↦ inr (fault_no_number f.1)
  | inl x ↦ elim (cases_eq x.0 (length n)) [ inl e ↦ inl (rw e at x.1) | inr other ↦ inr (longer_no_number x.1 other) ]
]

-- a number, or the reason why the document is none
abbrev HasNumber : List ℕ → Type 0
HasNumber t = ((n : List ℕ) × IsNumberDocument t n) ⊎ ((s : Stop) × IsNoNumber t s)

-- each valid document is decided
alone_decided : (t : List ℕ) (i j : ℕ) → IsAlone t i j → HasNumber t
alone_decided t i j x = elim (cases_eq (byte t i) 34) [
  | inl q ↦ elim (number_text_or_not (contents t i j)) [
    | inl n ↦ inl (contents t i j, a_quoted_number x q refl n)
    | inr none ↦ inr (record { place = i; code = InvalidNumber }, other_string x q none refl)
  ]
  | inr other ↦ elim (number_text_or_not (slice_range t i j)) [
    | inl n ↦ inl (slice_range t i j, a_number x refl n)
    | inr none ↦ inr (record { place = j - 1; code = Message (Mismatch (type_at t i) Number) }, other_type x other none refl)
  ]
]

-- and so is each text
pub number_or_reason : (t : List ℕ) → IsUtf8 t → HoldsOrHasOneReason ((n : List ℕ) × IsNumberDocument t n) (IsNoNumber t)
number_or_reason t utf8 = record {
  some_reason = elim (document_one t false (λ way. utf8)).some_reason [
    | inl valid ↦ alone_decided t (after_space t 0) valid.alone.end (record { start = refl; root = valid.alone.root; end = valid.alone.place })
    | inr f ↦ inr (f.0, no_document f.1)
  ];
  one_reason = λ s r f g. no_number_one f g;
  never_both = λ s x f. never_no_number x.1 f;
}

-- what is no document is no number
pub invalid_no_number : (t : List ℕ) (fault : Fault) → IsStopFor (λ s. (is_bytes : Bool) → IsInvalid t is_bytes s) fault → IsStopFor (IsNoNumber t) fault
invalid_no_number t OutOfMemory h = h
invalid_no_number t (At s) h = no_document (h false)

-- the error of a fault says why
pub number_error : {t : List ℕ} {e : Error} (fault : Fault) → IsStopFor (IsNoNumber t) fault → IsErrorOf t fault e → IsNumberError t e
number_error OutOfMemory h e = out_of_memory e
number_error (At s) h e = no_number s h e

-- and of a number there is none but running out of memory
pub number_but_memory : {t n : List ℕ} {e : Error} → IsNumberDocument t n → IsNumberError t e → IsPlainError e NoMemory
number_but_memory x (out_of_memory e) = e
number_but_memory x (no_number s h e) = absurd (never_no_number x h)
