-- A number of objects has one report by `gen`, and what its parts make is that.
use Rattle.std.proofs.Common.{◌≡◌, ◌∙◌, sym, ap, refl, inl, inr, ℕ, ◌+◌, ◌-◌, arith, List, [], ◌∷◌, ◌++◌, append_assoc, add-one, length, true, cond, codes}
use Rattle.std.specs.Prelude.{sum_by, count_by, Some, None}
use Rattle.std.specs.Fmt.{decimal}
use Rattle.std.proofs.lemmas.List.Sums.{sum_by-cons}
use Rattle.std.specs.declared.option.Option.{Option}
use Rattle.sonic_error.specs.declared.error.Error.{Error}
use Rattle.sonic_find.proofs.AnswerLemmas.One.{answer_one}
use Rattle.sonic_find.proofs.DocumentLemmas.{reason_one}
use Rattle.sonic_find.specs.Answers.{Span, Answer, IsAnswer, spans, error}
use Rattle.sonic_find.specs.Causes.{IsRefusal, out_of_memory}
use Rattle.sonic_find.specs.Causes.IsRefusalBy.{answered as refused}
use Rattle.sonic_find.specs.Documents.{IsValidDocument, IsInvalidError, out_of_memory as no_memory, invalid as invalid_by}
use Rattle.sonic_lazy.specs.Shown.{Shows, shows_none, shows_span, ShowAll, no_more_values, one_more_value, AreValues}
use Rattle.sonic_lazy.specs.declared.lazyvalue.LazyValue.{LazyValue}
use Rattle.sonic_reports.proofs.EditLemmas.{one_verdict}
use Rattle.sonic_reports.proofs.GetLemmas.{Same, SomeText}
use Rattle.sonic_reports.proofs.ReplyLemmas.{line_at}
use Rattle.sonic_reports.specs.Commands.Generated.{records, separator, record_text, generated, asked_paths, is_found, is_absent, found_length, counts_text, IsGenReport, invalid, stopped, counted}
use Rattle.sonic_reports.specs.Internal.Counted.{value_length, counts_of_values}
use Rattle.sonic_reports.specs.Internal.Replies.{text_of, IsErrorReply}
use Rattle.sonic_reports.specs.declared.reply.Reply.{Reply}
use Rattle.sonic_reports.specs.declared.status.Status.{Status}
use Rattle.sonic_reports.specs.declared.status.Status.TheVariants.{Done}

-- no object comes first
pub no_records : records 0 ≡ []
unfolding records
no_records = refl

-- one object more
pub records_more : (i : ℕ) (start text : List ℕ) → text ≡ start ++ records i → text ++ separator i ++ record_text i ≡ start ++ records (i + 1)
unfolding records
records_more i start text e = rw (e, add-one i) (append_assoc (start ++ records i) (separator i) (record_text i) ∙ append_assoc start (records i) (separator i ++ record_text i)
    ∙ ap (λ all. start ++ all) (sym (append_assoc (records i) (separator i) (record_text i))))

-- an answer of the paths makes some report of a valid document
by_answer : (n : ℕ) (answer : Answer) → IsValidDocument (generated n) → IsAnswer (generated n) true (asked_paths n) answer → SomeText (IsGenReport n)
by_answer n (spans entries) v a = (_, _, counted v a refl refl)
by_answer n (error s) v a = (_, _, stopped s v a refl refl)

-- a number of objects has some report
pub gen_report_some : (n : ℕ) → SomeText (IsGenReport n)
gen_report_some n = elim (one_verdict (generated n)).some_reason [
  | inl v ↦ (let some = (answer_one (generated n) true (asked_paths n)).some in by_answer n some.0 v some.1)
  | inr (s, i) ↦ (_, _, invalid s i refl refl)
]

-- the paths have one answer
same_answer : (n : ℕ) {a b : Answer} → IsAnswer (generated n) true (asked_paths n) a → IsAnswer (generated n) true (asked_paths n) b → b ≡ a
same_answer n {a} {b} x y = (answer_one (generated n) true (asked_paths n)).one b a y x

-- so it has one
pub gen_report_one : {n : ℕ} {text other : List ℕ} {status ending : Status} → IsGenReport n text status → IsGenReport n other ending → Same text status other ending
gen_report_one (invalid s i q z) (invalid r j p y) = (p ∙ rw (reason_one j i) (sym q), y ∙ sym z)
gen_report_one {n} (invalid s i q z) (stopped r v a p y) = absurd ((one_verdict (generated n)).never_both s v i)
gen_report_one {n} (invalid s i q z) (counted v a p y) = absurd ((one_verdict (generated n)).never_both s v i)
gen_report_one {n} (stopped r v a q z) (invalid s i p y) = absurd ((one_verdict (generated n)).never_both s v i)
gen_report_one {n} (counted v a q z) (invalid s i p y) = absurd ((one_verdict (generated n)).never_both s v i)
gen_report_one {n} (stopped s v a q z) (stopped r w b p y) = let e = same_answer n a b in let same : r ≡ s = cc in (p ∙ rw same (sym q), y ∙ sym z)
gen_report_one {n} (stopped s v a q z) (counted w b p y) = let e = same_answer n a b in absurd cc
gen_report_one {n} (counted v a q z) (stopped s w b p y) = let e = same_answer n a b in absurd cc
gen_report_one {n} (counted {entries} v a q z) (counted {entries = others} w b p y) =
    let e = same_answer n a b in let same : others ≡ entries = cc in (p ∙ rw same (sym q), y ∙ sym z)

-- what is the same of each value and entry is so of their sums
same_sum : {t : List ℕ} (f : Option LazyValue → ℕ) (g : Option Span → ℕ) → ((entry : Option Span) (value : Option LazyValue) → Shows t entry value → f value ≡ g entry)
    → {entries : List (Option Span)} {values : List (Option LazyValue)} → ShowAll t entries values → sum_by f values ≡ sum_by g entries
same_sum f g each no_more_values = refl
same_sum f g each (one_more_value {entry} {entries} {value} {values} s r) =
    sum_by-cons f value values ∙ ap (λ a. a + sum_by f values) (each entry value s) ∙ ap (λ b. g entry + b) (same_sum f g each r) ∙ sym (sum_by-cons g entry entries)

-- an entry that is found, and one that is absent, count once
abbrev found_once : {A : Type 0} → Option A → ℕ
found_once entry = cond (is_found entry) 1 0

abbrev absent_once : {A : Type 0} → Option A → ℕ
absent_once entry = cond (is_absent entry) 1 0

-- each entry is found or absent
count_both : {A : Type 0} (entries : List (Option A)) → count_by is_found entries + count_by is_absent entries ≡ length entries
count_both [] = refl
count_both (None ∷ entries) = rw (sum_by-cons found_once None entries, sum_by-cons absent_once None entries) (omega (arith, count_both entries))
count_both (Some a ∷ entries) = rw (sum_by-cons found_once (Some a) entries, sum_by-cons absent_once (Some a) entries) (omega (arith, count_both entries))

-- so what isn't found is absent
pub rest_absent : (values : List (Option LazyValue)) (found absent together : ℕ) → found ≡ count_by is_found values → absent ≡ length values - found
    → together ≡ sum_by value_length values → decimal found ++ (codes " " ++ (decimal absent ++ (codes " " ++ decimal together))) ≡ counts_of_values values
rest_absent values found absent together f a l =
    let e : absent ≡ count_by is_absent values = omega (arith, count_both values) in
    rw (f, e, l) (simp append_assoc refl)

module _ {t : List ℕ} where
  same_found : (entry : Option Span) (value : Option LazyValue) → Shows t entry value → found_once value ≡ found_once entry
  same_found entry value shows_none = refl
  same_found entry value (shows_span e) = refl

  same_absent : (entry : Option Span) (value : Option LazyValue) → Shows t entry value → absent_once value ≡ absent_once entry
  same_absent entry value shows_none = refl
  same_absent entry value (shows_span e) = refl

  same_length : (entry : Option Span) (value : Option LazyValue) → Shows t entry value → value_length value ≡ found_length t entry
  same_length entry value shows_none = refl
  same_length entry value (shows_span e) = ap length e

  -- the counts of values are those of the entries that they show
  same_counts : {entries : List (Option Span)} {values : List (Option LazyValue)} → ShowAll t entries values → counts_of_values values ≡ counts_text t entries
  same_counts s = rw (same_sum found_once found_once same_found s, same_sum absent_once absent_once same_absent s, same_sum value_length (found_length t) same_length s) refl

-- the four lines over n objects, where these are the values of both walks
abbrev pub lines_of_values : ℕ → List (Option LazyValue) → List (Option LazyValue) → List ℕ
lines_of_values n first second =
    codes "objects " ++ decimal n
    ++ codes "\nbytes " ++ decimal (length (generated n))
    ++ codes "\nchecked " ++ counts_of_values first
    ++ codes "\nunchecked " ++ counts_of_values second
    ++ codes "\n"

-- nine pieces in one order
nine_pieces : (a b c d e f g h i : List ℕ) → a ++ (b ++ (c ++ (d ++ (e ++ (f ++ (g ++ (h ++ i))))))) ≡ a ++ b ++ c ++ d ++ e ++ f ++ g ++ h ++ i
nine_pieces a b c d e f g h i = simp append_assoc refl

-- the pieces that are written are these lines
pub lines_written : (n : ℕ) (first second : List (Option LazyValue)) {document checked unchecked : List ℕ} → document ≡ generated n → checked ≡ counts_of_values first
    → unchecked ≡ counts_of_values second
    → codes "objects " ++ (decimal n ++ (codes "\nbytes " ++ (decimal (length document) ++ (codes "\nchecked " ++ (checked ++ (codes "\nunchecked " ++ (unchecked ++ codes "\n")))))))
    ≡ lines_of_values n first second
lines_written n first second d a b =
    rw (d, a, b)
    (nine_pieces (codes "objects ") (decimal n) (codes "\nbytes ") (decimal (length (generated n))) (codes "\nchecked ") (counts_of_values first) (codes "\nunchecked ") (counts_of_values second) (codes "\n"))

-- they are the report
pub report_counted : {n : ℕ} {text : List ℕ} {status : Status} {first second : List (Option LazyValue)} → IsValidDocument (generated n)
    → AreValues (generated n) true (asked_paths n) first → AreValues (generated n) true (asked_paths n) second → text ≡ lines_of_values n first second → status ≡ Done
    → IsGenReport n text status
report_counted {n} valid a b t e =
    let spans_same = same_answer n a.answer b.answer in
    let same : b.entries ≡ a.entries = cc in
    counted valid a.answer (rw (same_counts a.shown, same_counts b.shown, same) at t) e

module _ {n : ℕ} {refusal : Error} {reply : Reply} where
  -- so is the line of the error that says why the text is no document
  pub report_no_document : IsInvalidError (generated n) true refusal → IsErrorReply refusal reply → IsGenReport n (text_of reply) reply.status
  report_no_document (no_memory plain) r = absurd (r.line.memory plain.code)
  report_no_document (invalid_by s i at) r = invalid s i (line_at at r.line) r.status

  -- and of the error that answers the paths
  pub report_stopped : IsValidDocument (generated n) → IsRefusal (generated n) true (asked_paths n) refusal → IsErrorReply refusal reply
      → IsGenReport n (text_of reply) reply.status
  report_stopped valid (out_of_memory plain) r = absurd (r.line.memory plain.code)
  report_stopped valid (refused s a at) r = stopped s valid a (line_at at r.line) r.status
