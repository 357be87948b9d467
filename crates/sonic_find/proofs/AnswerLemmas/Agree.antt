-- Over a text that starts with a value in UTF-8 the answer of the paths is that of each path alone.
use Rattle.std.proofs.Common.{◌≡◌, ◌≢◌, ◌↔◌, ◌∙◌, arith, inl, inr, ap, ℕ, ◌+◌, ◌-◌, ◌==◌, ◌&&◌, List, [], ◌∷◌, Bool, true, take, refl, sym}
use Rattle.std.specs.Prelude.{Contains, Option, Some, map}
use Rattle.std.specs.Str.{IsUtf8}
use Rattle.sonic_error.specs.declared.code.ErrorCode.{ErrorCode}
use Rattle.sonic_error.specs.declared.code.ErrorCode.TheVariants.{GetUnknownKeyInObject, InvalidUTF8}
use Rattle.sonic_find.proofs.AnswerLemmas.Cause.{found_before}
use Rattle.sonic_find.proofs.AnswerLemmas.One.{none_in_empty, first_in, later_in, first_or_later, nearest_in, come_to_some, cut_by_root}
use Rattle.sonic_find.proofs.AnswerLemmas.Walk.{IsEnd, IsGathered, both_same, found_value, lead_from}
use Rattle.sonic_find.proofs.PathLemmas.Outcome.{either, cut_is_fault}
use Rattle.sonic_find.proofs.Utf8Lemmas.{utf8_up_to}
use Rattle.sonic_find.specs.Answers.{AllLeadBy, no_more, one_more, NoneFails, NoneCut, IsReach, to_the_root, to_the_furthest, Span, span_of, Answer, spans, error, ComeTo, no_path, failing, cutting, lacking, breaking, finding, IsAnswerBy, IsAnswer, ComesToAlone, value_found, value_broken, key_lacked, path_failed, path_cut}
use Rattle.sonic_find.specs.Internal.FirstAnswers.{AllLead}
use Rattle.sonic_find.specs.Laws.{IsGetEntry, value_got, key_missed, AreGetAnswers, no_more_entries, one_more_entry}
use Rattle.sonic_find.specs.Outcomes.{AreTold, all_told, need, IsEachReach, to_the_whole_root, to_the_last_need, EachAnswer, ComeToEach, no_path_asks, some_path_cut, some_path_lacks, need_broken, each_told}
use Rattle.sonic_find.specs.Paths.{Outcome, found, lacks, fails, cut, fails_at, past_end, empty_code, nowhere, kind_of, Evaluates, LeadsUnder, Leads}
use Rattle.sonic_find.specs.Paths.EvaluatesBy.{found_here, goes_on, leads_nowhere, cut_here, cut_before}
use Rattle.sonic_text.proofs.Values.{value_end_one, value_never_both, value-longer}
use Rattle.sonic_find.specs.declared.outcome.PathOutcome.{PathOutcome}
use Rattle.sonic_find.specs.declared.span.Span as slot
use Rattle.sonic_text.specs.Documents.{StartsWithUtf8Value}
use Rattle.sonic_text.specs.Paths.{Path}
use Rattle.sonic_text.specs.Places.{byte, after_space}
use Rattle.sonic_text.specs.Values.{opening, closing}
use Rattle.sonic_text.specs.declared.kind.Kind.{Kind}
use Rattle.sonic_text.specs.declared.kind.Kind.TheVariants.{Array, Object}
use Rattle.sonic_text.specs.declared.stop.Stop.{Stop}
use Rattle.sonic_pointer.specs.declared.rule.KeyRule.{KeyRule}
use Rattle.sonic_pointer.specs.declared.rule.KeyRule.TheVariants.{First}

-- the place of an outcome that is a fail
abbrev stop_place : Outcome → ℕ
stop_place (found i j) = 0
stop_place (lacks q) = 0
stop_place (fails s) = s.place
stop_place (cut s) = 0

-- where a node leads nowhere, it fails at the last byte
past_place : (kind : Kind) (q : ℕ) (s : Stop) → fails s ≡ past_end kind q → s.place ≡ q
past_place Array q s e = ap stop_place e
past_place Object q s e = absurd cc

nowhere_place : (t : List ℕ) (i q : ℕ) (kind : Kind) (s : Stop) → fails s ≡ nowhere t i q kind → s.place ≡ q
nowhere_place t i q kind s =
    either (λ o. fails s ≡ o → s.place ≡ q) (byte t i == opening kind && byte t (after_space t (i + 1)) == closing kind) _ _ (λ e. ap stop_place e)
    (either (λ o. fails s ≡ o → s.place ≡ q) (byte t i == opening kind) _ _ (past_place kind q s) (λ e. ap stop_place e))

-- where an outcome is a fail, its code isn't that of a key that is lacked
abbrev HasOtherCode : Outcome → Type 0
HasOtherCode o = (s : Stop) → o ≡ fails s → s.code ≢ GetUnknownKeyInObject

-- as its code is another one
fails_otherwise : (q : ℕ) (code : ErrorCode) → code ≢ GetUnknownKeyInObject → HasOtherCode (fails_at q code)
fails_otherwise q code other s e d =
    let stop : ◌≡◌ {A = Stop} (record { place = q; code = code }) s = cc in
    other (ap (λ (x : Stop). x.code) stop ∙ d)

-- past the end of a container
past_otherwise : (kind : Kind) (q : ℕ) → HasOtherCode (past_end kind q)
past_otherwise Array q = fails_otherwise q _ (λ e. cc)
past_otherwise Object q = λ s e. absurd cc

-- in an empty one
empty_otherwise : (kind : Kind) → empty_code kind ≢ GetUnknownKeyInObject
empty_otherwise Array e = cc
empty_otherwise Object e = cc

-- and wherever a node leads nowhere
nowhere_otherwise : (t : List ℕ) (i q : ℕ) (kind : Kind) → HasOtherCode (nowhere t i q kind)
nowhere_otherwise t i q kind =
    either HasOtherCode (byte t i == opening kind && byte t (after_space t (i + 1)) == closing kind) _ _ (fails_otherwise q _ (empty_otherwise kind))
    (either HasOtherCode (byte t i == opening kind) _ _ (past_otherwise kind q) (fails_otherwise q _ (λ e. cc)))

-- so it is of each path
path_otherwise : {t : List ℕ} (path : Path) {i : ℕ} {o : Outcome} → Evaluates t i path o → HasOtherCode o
path_otherwise [] (found_here x) = λ s e. absurd cc
path_otherwise [] (cut_here f) = λ s e. absurd cc
path_otherwise (node ∷ rest) (goes_on l x) = path_otherwise rest x
path_otherwise {t} (node ∷ rest) {i} (leads_nowhere {j = j} x none e) = rw e (nowhere_otherwise t i (j - 1) (kind_of node))
path_otherwise (node ∷ rest) (cut_before f none) = λ s e. absurd cc

-- a value that a path finds in the first value is UTF-8 up to its end
pub utf8_found : {t : List ℕ} {rule : KeyRule} (path : Path) {i j : ℕ} → StartsWithUtf8Value t → LeadsUnder rule t path (found i j) → IsUtf8 (take j t)
utf8_found path x l = utf8_up_to x.end x.utf8 (found_value path l) (found_before path l x.root)

-- and the text is UTF-8 as far as it is needed
utf8_reach : {t : List ℕ} {paths : List Path} {os : List Outcome} {r : ℕ} {rule : KeyRule} → StartsWithUtf8Value t → AllLeadBy rule t paths os → IsReach t os r → IsUtf8 (take r t)
utf8_reach x lead (to_the_root l y) = rw (value_end_one x.root y) at x.utf8
utf8_reach {r = r} x lead (to_the_furthest {i} none c all) = let y = lead_from (found i r) lead c in utf8_found y.path x y.leads

-- a path that fails has come to a whole value, whose last byte is the place
pub record FailValue (t : List ℕ) (i : ℕ) (s : Stop) : Type 0 where
  pub front : Path
  pub start : ℕ
  pub leads : Evaluates t i front (found start (s.place + 1))

pub fail_value : {t : List ℕ} {i : ℕ} {s : Stop} (path : Path) → Evaluates t i path (fails s) → FailValue t i s
fail_value [] e = elim e [ ]
fail_value (node ∷ rest) (goes_on l e) = (let v = fail_value rest e in record { front = node ∷ v.front; start = v.start; leads = goes_on l v.leads })
fail_value {t} {i} {s} (node ∷ rest) (leads_nowhere {j = j} x none e) =
    let place : j ≡ s.place + 1 = (let at = nowhere_place t i (j - 1) (kind_of node) s e in let more = value-longer x in omega (arith, at, more)) in
    let here : Evaluates t i [] (found i j) = found_here x in
    record { front = []; start = i; leads = rw place at here }

-- so up to what an outcome needs the text is UTF-8
utf8_need : {t : List ℕ} (o : Outcome) (path : Path) → StartsWithUtf8Value t → Leads t path o → ((q : ℕ) → o ≢ lacks q) → ((s : Stop) → o ≢ cut s) → IsUtf8 (take (need o) t)
utf8_need (found i j) path x l lack cuts = utf8_found path x l
utf8_need (lacks q) path x l lack cuts = absurd (lack q refl)
utf8_need (cut s) path x l lack cuts = absurd (cuts s refl)
utf8_need (fails s) path x l lack cuts = (let v = fail_value path l in utf8_found v.front x v.leads)

-- and as far as the paths need it, each by itself
utf8_each_reach : {t : List ℕ} {paths : List Path} {os : List Outcome} {r : ℕ} → StartsWithUtf8Value t → AllLeadBy First t paths os → NoneCut os → IsEachReach t os r → IsUtf8 (take r t)
utf8_each_reach x lead cuts (to_the_whole_root l y) = rw (value_end_one x.root y) at x.utf8
utf8_each_reach {t} {os = os} x lead cuts (to_the_last_need {o} none c is all) =
    let y = lead_from o lead c in
    rw is (utf8_need o y.path x y.leads (λ q e. none (q, rw e at c)) (λ s e. cuts s (rw e at c)))

-- so each path is told where it leads
pub each_alone : {t : List ℕ} {paths : List Path} {os : List Outcome} {a : EachAnswer} (is_bytes : Bool) → StartsWithUtf8Value t → AllLeadBy First t paths os → NoneCut os
    → ComeToEach t is_bytes os a → (xs : List (PathOutcome slot.Span)) × AreTold os xs × (a ≡ EachAnswer.outcomes xs)
each_alone is_bytes x lead cuts no_path_asks = ([], all_told, refl)
each_alone is_bytes x lead cuts (some_path_cut {s = s} c f) = absurd (cuts s c)
each_alone is_bytes x lead cuts (some_path_lacks none l f) = absurd (value_never_both x.root f)
each_alone is_bytes x lead cuts (need_broken none reach b n e) = absurd (n (utf8_each_reach x lead none reach))
each_alone is_bytes x lead cuts (each_told {xs = xs} none reach u y) = (xs, y, refl)

-- so where no path fails and none is cut, the answer is the spans
spans_alone : {t : List ℕ} {is_bytes : Bool} {paths : List Path} {os : List Outcome} {a : Answer} {rule : KeyRule} → StartsWithUtf8Value t → AllLeadBy rule t paths os → NoneFails os
    → NoneCut os → ComeTo t is_bytes os a → a ≡ spans (map span_of os)
spans_alone x lead fail cuts no_path = refl
spans_alone x lead fail cuts (failing {s = s} n) = absurd (fail s (nearest_in n))
spans_alone x lead fail cuts (cutting {s = s} none c f) = absurd (cuts s c)
spans_alone x lead fail cuts (lacking none more l f) = absurd (value_never_both x.root f)
spans_alone x lead fail cuts (breaking none more reach b n e) = absurd (n (utf8_reach x lead reach))
spans_alone x lead fail cuts (finding none more reach u e) = ap spans e

-- what spans are the answer of
pub spans_of_all : {t : List ℕ} {is_bytes : Bool} {os : List Outcome} {entries : List (Option Span)} → ComeTo t is_bytes os (spans entries)
    → NoneFails os × NoneCut os × (entries ≡ map span_of os)
spans_of_all no_path = (λ s c. none_in_empty (fails s) c, λ s c. none_in_empty (cut s) c, refl)
spans_of_all (finding fail cuts reach u e) = (fail, cuts, e)

-- the entry of an outcome is that of its path alone
entry_alone : {t : List ℕ} {is_bytes : Bool} {path : Path} (o : Outcome) → StartsWithUtf8Value t → Leads t path o → ((s : Stop) → o ≢ fails s)
    → ((s : Stop) → o ≢ cut s) → IsGetEntry t is_bytes path (span_of o)
entry_alone {path = path} (found i j) x l fail cuts = value_got (record { outcome = found i j; leads = l; come_to = value_found (λ b. utf8_found path x l) })
entry_alone (lacks q) x l fail cuts = key_missed (record { outcome = lacks q; leads = l; come_to = key_lacked refl })
entry_alone (fails s) x l fail cuts = absurd (fail s refl)
entry_alone (cut s) x l fail cuts = absurd (cuts s refl)

-- and so it is for all
entries_alone : {t : List ℕ} {is_bytes : Bool} {paths : List Path} {os : List Outcome} → StartsWithUtf8Value t → AllLead t paths os → NoneFails os → NoneCut os
    → AreGetAnswers t is_bytes paths (map span_of os)
entries_alone x no_more fail cuts = no_more_entries
entries_alone x (one_more {o = o} {os} l lead) fail cuts =
    let first : (p : Outcome) → o ≡ p → Contains (o ∷ os) p = λ p e. rw (← e) (first_in o os) in
    one_more_entry (entry_alone o x l (λ s e. fail s (first (fails s) e)) (λ s e. cuts s (first (cut s) e)))
    (entries_alone x lead (λ s c. fail s (later_in o (fails s) os c)) (λ s c. cuts s (later_in o (cut s) os c)))

-- a path that is answered with a span finds it
found_of : {t : List ℕ} {is_bytes : Bool} {o : Outcome} {s : Span} → ComesToAlone t is_bytes o (spans (Some s ∷ [])) → o ≡ found s.0 s.1
found_of (value_found u) = refl

-- and one that is answered with the code of a lacked key lacks it, unless it is cut
lacks_of : {t : List ℕ} {is_bytes : Bool} {o : Outcome} {q : ℕ} → HasOtherCode o → ((s : Stop) → o ≢ cut s)
    → ComesToAlone t is_bytes o (error (record { place = q; code = GetUnknownKeyInObject })) → (p : ℕ) × (o ≡ lacks p)
lacks_of other cuts (value_broken b n e) = (let clash : GetUnknownKeyInObject ≡ InvalidUTF8 = ap (λ (x : Stop). x.code) e in absurd cc)
lacks_of other cuts (key_lacked {q = p} e) = (p, refl)
lacks_of other cuts path_failed = absurd (other _ refl refl)
lacks_of other cuts path_cut = absurd (cuts _ refl)

-- where a path leads whose answer is an entry
record Entered (t : List ℕ) (path : Path) (entry : Option Span) : Type 0 where
  outcome : Outcome
  leads : Leads t path outcome
  end : IsEnd true outcome
  is : entry ≡ span_of outcome

-- which it says
entered : {t : List ℕ} {is_bytes : Bool} {path : Path} {entry : Option Span} → StartsWithUtf8Value t → IsGetEntry t is_bytes path entry → Entered t path entry
entered {t} {path = path} x (value_got {s} g) =
    let leads : Leads t path (found s.0 s.1) = rw (found_of g.come_to) at g.leads in
    record { outcome = found s.0 s.1; leads = leads; end = tt; is = refl }
entered {t} {path = path} x (key_missed g) =
    let uncut : (s : Stop) → g.outcome ≢ cut s = λ s e. value_never_both x.root (cut_is_fault path (rw e at g.leads)) in
    let missed = lacks_of (path_otherwise path g.leads) uncut g.come_to in
    let leads : Leads t path (lacks missed.0) = rw missed.1 at g.leads in
    record { outcome = lacks missed.0; leads = leads; end = refl; is = refl }

-- so all paths are gathered
all_entered : {t : List ℕ} {is_bytes : Bool} {paths : List Path} {entries : List (Option Span)} → StartsWithUtf8Value t
    → AreGetAnswers t is_bytes paths entries → IsGathered First t true entries paths
all_entered x no_more_entries = record { outcomes = []; lead = no_more; entries = refl; ends = λ o c. absurd (none_in_empty o c) }
all_entered x (one_more_entry a all) =
    let e = entered x a in
    let rest = all_entered x all in
    record {
      outcomes = e.outcome ∷ rest.outcomes;
      lead = one_more e.leads rest.lead;
      entries = both_same e.is rest.entries;
      ends = λ o c. elim (first_or_later e.outcome o rest.outcomes c) [
        | inl same ↦ rw same at e.end
        | inr later ↦ rest.ends o later
      ];
    }

-- and where they are gathered the spans are their answer
pub answer_of_gathered : {t : List ℕ} {is_bytes : Bool} {paths : List Path} {entries : List (Option Span)} {rule : KeyRule} → StartsWithUtf8Value t
    → IsGathered rule t true entries paths → IsAnswerBy rule t is_bytes paths (spans entries)
answer_of_gathered {t} {is_bytes} {entries = entries} x g =
    let a = come_to_some t is_bytes g.outcomes (λ s c. cut_by_root s g.lead c) in
    let only = spans_alone x g.lead (λ s c. g.ends (fails s) c) (λ s c. g.ends (cut s) c) a.1 in
    let same : a.0 ≡ spans entries = only ∙ ap spans (sym g.entries) in
    record { outcomes = g.outcomes; lead = g.lead; come_to = rw same at a.1 }

-- the answer of the paths is spans exactly where they are those of each path
pub answers_agree : (t : List ℕ) (is_bytes : Bool) (paths : List Path) (entries : List (Option Span)) → StartsWithUtf8Value t
    → (IsAnswer t is_bytes paths (spans entries) ↔ AreGetAnswers t is_bytes paths entries)
answers_agree t is_bytes paths entries x =
    (λ a. let all = spans_of_all a.come_to in rw all.2 (entries_alone x a.lead all.0 all.1), λ all. answer_of_gathered x (all_entered x all))
