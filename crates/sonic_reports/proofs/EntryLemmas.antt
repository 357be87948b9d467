-- An input has one report by `index`, and the lines of values by the parts that are written of them.
use Rattle.std.proofs.Common.{◌≡◌, ◌∙◌, sym, ap, inl, inr, refl, ℕ, ◌+◌, List, [], ◌∷◌, ◌++◌, true, zero, suc, take, drop, append_assoc, append-nil, add-zero, Some, arith}
use Rattle.std.specs.Prelude.{codes, decimal, slice_get}
use Rattle.sonic_error.specs.declared.error.Error.{Error}
use Rattle.sonic_find.proofs.DocumentLemmas.{reason_one}
use Rattle.sonic_find.specs.Documents.{IsInvalidError}
use Rattle.sonic_index.proofs.ListingLemmas.{index_one}
use Rattle.sonic_index.specs.Entries.{IsLabelled, IsEntry, of_root, of_part}
use Rattle.sonic_index.specs.declared.entry.Entry.{Entry}
use Rattle.sonic_index.specs.declared.entry.Label.{Label}
use Rattle.sonic_index.specs.declared.entry.Label.TheVariants.{Root, Key, At}
use Rattle.sonic_text.proofs.Places.{byte_within}
use Rattle.sonic_text.proofs.Strings.{string_longer}
use Rattle.sonic_text.specs.declared.kind.Kind.{Kind}
use Rattle.sonic_text.specs.declared.kind.Kind.TheVariants.{Array, Object}
use Rattle.sonic_reports.proofs.EditLemmas.{one_verdict}
use Rattle.sonic_reports.proofs.GetLemmas.{Same, SomeText}
use Rattle.sonic_reports.proofs.ReplyLemmas.{invalid_reply}
use Rattle.sonic_reports.specs.Commands.Entries.{text_of_label, words_of_value, line_of_value_at, lines_from, IsIndexReport, invalid, indexed}
use Rattle.sonic_reports.specs.Internal.EntryLines.{HasKeyWithin, word_of_label, key_of_label}
use Rattle.sonic_reports.specs.Internal.Replies.{text_of, IsErrorReply}
use Rattle.sonic_reports.specs.declared.reply.Reply.{Reply}
use Rattle.sonic_reports.specs.declared.status.Status.{Status}

-- an input has one report by `index`
pub index_report_one : {input text other : List ℕ} {status ending : Status} → IsIndexReport input text status → IsIndexReport input other ending
    → Same text status other ending
index_report_one (invalid s i q z) (invalid r j p y) = (p ∙ rw (reason_one j i) (sym q), y ∙ sym z)
index_report_one {input} (invalid s i q z) (indexed es v a p y) = absurd ((one_verdict input).never_both s v i)
index_report_one {input} (indexed es v a q z) (invalid s i p y) = absurd ((one_verdict input).never_both s v i)
index_report_one {input} (indexed es v a q z) (indexed fs w b p y) = (p ∙ ap (lines_from input 0) ((index_one input v).one fs es b a) ∙ sym q, y ∙ sym z)

-- and some
pub index_report_some : (input : List ℕ) → SomeText (IsIndexReport input)
index_report_some input = elim (one_verdict input).some_reason [
  | inl v ↦ (let some = (index_one input v).some in (_, _, indexed some.0 v some.1 refl refl))
  | inr (s, i) ↦ (_, _, invalid s i refl refl)
]

-- the line of the error that says why a document is none is the report
pub report_no_document : {input : List ℕ} {error : Error} {reply : Reply} → IsInvalidError input true error → IsErrorReply error reply
    → IsIndexReport input (text_of reply) reply.status
report_no_document i r = let (s, is, text, status) = invalid_reply i r in invalid s is text status

-- the lines of one more value
pub lines_more : (t : List ℕ) (n k : ℕ) (es : List Entry) (x : Entry) → slice_get es k ≡ Some x
    → lines_from t n (take (k + 1) es) ≡ lines_from t n (take k es) ++ line_of_value_at t (n + k) x
lines_more t n k [] x e = absurd cc
lines_more t n zero (y ∷ es) x e = let same : y ≡ x = cc in rw (same, add-zero n) (append-nil (line_of_value_at t n x))
lines_more t n (suc k) (y ∷ es) x e =
    let next : suc k + 1 ≡ suc (k + 1) = omega arith in
    let on : n + suc k ≡ n + 1 + k = omega arith in
    rw (next, on, lines_more t (n + 1) k es x e) (sym (append_assoc (line_of_value_at t n y) (lines_from t (n + 1) (take k es)) (line_of_value_at t (n + 1 + k) x)))

-- the lines of values, split where one stands
pub lines_split : (t : List ℕ) (n k : ℕ) (es : List Entry) (x : Entry) → slice_get es k ≡ Some x
    → lines_from t n es ≡ (lines_from t n (take k es) ++ line_of_value_at t (n + k) x) ++ lines_from t (n + k + 1) (drop (k + 1) es)
lines_split t n k [] x e = absurd cc
lines_split t n zero (y ∷ es) x e = let same : y ≡ x = cc in rw (same, add-zero n) refl
lines_split t n (suc k) (y ∷ es) x e =
    let next : suc k + 1 ≡ suc (k + 1) = omega arith in
    let on : n + suc k ≡ n + 1 + k = omega arith in
    let here = line_of_value_at t n y in
    let before = lines_from t (n + 1) (take k es) in
    let at = line_of_value_at t (n + 1 + k) x in
    let after = lines_from t (n + 1 + k + 1) (drop (k + 1) es) in
    rw (next, on, lines_split t (n + 1) k es x e) (sym (ap (λ l. l ++ after) (append_assoc here before at) ∙ append_assoc here (before ++ at) after))

-- a label by its word and its key
label_parts : (t : List ℕ) (label : Label) → text_of_label t label ≡ word_of_label label ++ key_of_label t label
label_parts t Root = sym (append-nil (codes "root"))
label_parts t (Key start end) = refl
label_parts t (At n) = sym (append-nil (codes "at " ++ decimal n))

-- the line of a value by the parts that are written of it
pub line_parts : (t : List ℕ) (n : ℕ) (x : Entry)
    → line_of_value_at t n x ≡ ((words_of_value n x ++ word_of_label x.label) ++ key_of_label t x.label) ++ codes "\n"
line_parts t n x = rw (label_parts t x.label) (simp append_assoc)

-- and with the key put together with the line feed
pub short_line : (t : List ℕ) (n : ℕ) (x : Entry)
    → line_of_value_at t n x ≡ (words_of_value n x ++ word_of_label x.label) ++ (key_of_label t x.label ++ codes "\n")
short_line t n x = rw (label_parts t x.label) (simp append_assoc)

-- a key that is the label of an item lies within the text
key_of_label_within : (t : List ℕ) (n h : ℕ) (label : Label) (kind : Kind) → IsLabelled t kind n h label → HasKeyWithin t label
key_of_label_within t n h label Array is = λ start end e. absurd cc
key_of_label_within t n h label Object (close, b, s, is) = λ start end e.
    let from : h ≡ start = cc in
    let to : close ≡ end = cc in
    let within = byte_within t s.close (λ n. cc (n, s.closes)) in
    (omega (arith, string_longer s, from, to), omega (arith, within, s.end, to))

-- so does that of an entry
pub key_of_entry_within : {t : List ℕ} {es : List Entry} {x : Entry} → IsEntry t es x → HasKeyWithin t x.label
key_of_entry_within (of_root alone parent label kind) = λ start end e. absurd cc
key_of_entry_within {t} {x = x} (of_part {n} {part} p f w is) = key_of_label_within t n part.item x.label part.kind is.label
