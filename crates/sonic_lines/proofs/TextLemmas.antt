-- Streams in UTF-8: their lines are UTF-8, and what is answered there doesn't depend on whether it was known.
use Rattle.std.proofs.Common.{◌≡◌, ◌≢◌, refl, ℕ, take, ◌+◌, ◌-◌, ◌<◌, true, false, List, [], length, drop, get_or, arith}
use Rattle.std.proofs.lemmas.Bool.{eqb-true}
use Rattle.std.proofs.lemmas.List.{length-drop, drop-drop}
use Rattle.std.proofs.lemmas.Str.{IsUtf8-nil, IsUtf8-take, IsUtf8-drop, IsCharBoundary-after_ascii}
use Rattle.std.proofs.Math.Seq.{take-length}
use Rattle.std.proofs.Math.ListN.{drop_of_length-le}
use Rattle.std.specs.Prelude.{slice_range, Some}
use Rattle.std.specs.Str.{IsUtf8}
use Rattle.memchr.specs.Find.{is_byte, IsFirstByte}
use Rattle.sonic_text.proofs.Within.{value_within}
use Rattle.sonic_text.specs.Paths.{Path}
use Rattle.sonic_text.specs.Strings.{strict}
use Rattle.sonic_text.specs.Values.{IsValue}
use Rattle.sonic_find.proofs.AnswerLemmas.Walk.{found_value, lead_from}
use Rattle.sonic_find.proofs.AnswerLemmas.Agree.{fail_value}
use Rattle.sonic_find.proofs.Utf8Lemmas.{utf8_up_to}
use Rattle.sonic_find.specs.Answers.{AllLeadBy, NoneCut, IsReach, to_the_root, to_the_furthest, Answer, ComeTo, no_path, failing, cutting, lacking, breaking, finding, IsAnswer}
use Rattle.sonic_find.specs.Paths.{Outcome, found, lacks, fails, cut, Leads}
use Rattle.sonic_find.specs.Outcomes.{need, IsEachReach, to_the_whole_root, to_the_last_need, EachAnswer, ComeToEach, no_path_asks, some_path_cut, some_path_lacks, need_broken, each_told}
use Rattle.sonic_lines.specs.LineRows.{Columns, AreColumns, all_answered, each_answered, IsLineStop, all_refused, each_refused}
use Rattle.sonic_text.specs.declared.stop.Stop.{Stop}
use Rattle.sonic_pointer.specs.declared.rule.KeyRule.TheVariants.{First}

-- what is before and after a line feed
cut_at : (t : List ℕ) (n : ℕ) → IsUtf8 t → n < length t → get_or t n 0 ≡ 10 → IsUtf8 (take n t) × IsUtf8 (drop (n + 1) t)
cut_at t n u l b = (IsUtf8-take t n u (omega arith, λ x y. omega (arith, b)), IsUtf8-drop t (n + 1) u (IsCharBoundary-after_ascii t n u l (omega (arith, b))))

-- the line that begins at a place, and what follows it
pub text_found : (t : List ℕ) (p n : ℕ) → IsFirstByte (is_byte 10) (slice_range t p (length t)) (Some n) → IsUtf8 (drop p t)
    → IsUtf8 (slice_range t p (p + n)) × IsUtf8 (drop (p + n + 1) t)
text_found t p n h u =
    let whole : take (length t - p) (drop p t) ≡ drop p t = rw (← length-drop p t) (take-length (drop p t)) in
    let first : IsFirstByte (is_byte 10) (drop p t) (Some n) = rw whole at h in
    let back : p + n - p ≡ n = omega arith in
    let far : p + (n + 1) ≡ p + n + 1 = omega arith in
    let on : drop (n + 1) (drop p t) ≡ drop (p + n + 1) t = rw far at (drop-drop (n + 1) p t) in
    let parts = cut_at (drop p t) n u first.0.high (eqb-true (get_or (drop p t) n 0) 10 first.1) in
    (rw back parts.0, rw on at parts.1)

-- and the last one
pub text_last : (t : List ℕ) (p : ℕ) → IsUtf8 (drop p t) → IsUtf8 (slice_range t p (length t)) × IsUtf8 (drop (length t + 1) t)
text_last t p u =
    let whole : take (length t - p) (drop p t) ≡ drop p t = rw (← length-drop p t) (take-length (drop p t)) in
    let over : drop (length t + 1) t ≡ [] = drop_of_length-le t (omega arith) in
    (rw whole u, rw over IsUtf8-nil)

-- up to the end of a value
up_to : {t : List ℕ} {i j : ℕ} → IsUtf8 t → IsValue strict t i j → IsUtf8 (take j t)
up_to {t} u x = utf8_up_to (length t) (rw (take-length t) u) x (value_within x)

-- and so as far as the paths need the text
up_to_reach : {t : List ℕ} {paths : List Path} {os : List Outcome} {r : ℕ} → IsUtf8 t → AllLeadBy First t paths os → IsReach t os r → IsUtf8 (take r t)
up_to_reach u lead (to_the_root l root) = up_to u root
up_to_reach {r = r} u lead (to_the_furthest {i} none c all) = let there = lead_from (found i r) lead c in up_to u (found_value there.path there.leads)

checked : {t : List ℕ} {paths : List Path} {os : List Outcome} {a : Answer} → IsUtf8 t → AllLeadBy First t paths os → ComeTo t false os a → ComeTo t true os a
checked u lead no_path = no_path
checked u lead (failing n) = failing n
checked u lead (cutting none some f) = cutting none some f
checked u lead (lacking none uncut some f) = lacking none uncut some f
checked u lead (breaking none uncut reach is n e) = absurd cc
checked u lead (finding none uncut reach v e) = finding none uncut reach (λ _. up_to_reach u lead reach) e

-- the answer over a text is that over its bytes
text_answer : {t : List ℕ} {paths : List Path} {a : Answer} → IsUtf8 t → IsAnswer t false paths a → IsAnswer t true paths a
text_answer u x = record { outcomes = x.outcomes; lead = x.lead; come_to = checked u x.lead x.come_to }

-- and so for each path by itself
up_to_need : {t : List ℕ} (o : Outcome) (path : Path) → IsUtf8 t → Leads t path o → ((q : ℕ) → o ≢ lacks q) → ((s : Stop) → o ≢ cut s) → IsUtf8 (take (need o) t)
up_to_need (found i j) path u l lack cuts = up_to u (found_value path l)
up_to_need (lacks q) path u l lack cuts = absurd (lack q refl)
up_to_need (cut s) path u l lack cuts = absurd (cuts s refl)
up_to_need (fails s) path u l lack cuts = (let v = fail_value path l in up_to u (found_value v.front v.leads))

up_to_each_reach : {t : List ℕ} {paths : List Path} {os : List Outcome} {r : ℕ} → IsUtf8 t → AllLeadBy First t paths os → NoneCut os → IsEachReach t os r → IsUtf8 (take r t)
up_to_each_reach u lead cuts (to_the_whole_root l root) = up_to u root
up_to_each_reach u lead cuts (to_the_last_need {o} none c is all) =
    let y = lead_from o lead c in
    rw is (up_to_need o y.path u y.leads (λ q e. none (q, rw e at c)) (λ s e. cuts s (rw e at c)))

each_checked : {t : List ℕ} {paths : List Path} {os : List Outcome} {a : EachAnswer} → IsUtf8 t → AllLeadBy First t paths os → ComeToEach t false os a → ComeToEach t true os a
each_checked u lead no_path_asks = no_path_asks
each_checked u lead (some_path_cut c f) = some_path_cut c f
each_checked u lead (some_path_lacks cuts l f) = some_path_lacks cuts l f
each_checked u lead (need_broken cuts reach b n e) = absurd cc
each_checked u lead (each_told cuts reach v x) = each_told cuts reach (λ _. up_to_each_reach u lead cuts reach) x

-- the columns of a text are those of its bytes
pub text_columns : {c : Columns} {line text : List ℕ} → IsUtf8 line → AreColumns false c line text → AreColumns true c line text
text_columns u (all_answered e x f) = all_answered e (text_answer u x) f
text_columns u (each_answered e x f) = each_answered e (record { outcomes = x.outcomes; lead = x.lead; come_to = each_checked u x.lead x.come_to }) f

pub text_stop : {c : Columns} {line : List ℕ} {s : Stop} → IsUtf8 line → IsLineStop false c line s → IsLineStop true c line s
text_stop u (all_refused e x) = all_refused e (text_answer u x)
text_stop u (each_refused e x) = each_refused e (record { outcomes = x.outcomes; lead = x.lead; come_to = each_checked u x.lead x.come_to })
