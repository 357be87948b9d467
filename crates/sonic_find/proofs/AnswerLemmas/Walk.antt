-- What a walk that ended says of the answer of the paths.
use Rattle.std.proofs.Common.{◌≡◌, ◌≢◌, ◌∙◌, ◌⊎◌, inl, inr, ap, sym, ℕ, zero, suc, ◌<◌, ◌≤◌, List, [], ◌∷◌, ◌++◌, Bool, true, false, length, take, subst, ◌-◌, arith, refl}
use Rattle.std.proofs.lemmas.List.{length-replicate, length-map, map-append}
use Rattle.std.proofs.lemmas.Option.{slice_get_within, slice_get-map, same_Some, some_pair_parts}
use Rattle.std.specs.List.{Contains}
use Rattle.std.specs.Prelude.{Option, Some, None, slice_get, map, option_map, replicate}
use Rattle.std.specs.Str.{IsUtf8}
use Rattle.sonic_error.specs.Texts.{valid_up_to}
use Rattle.sonic_error.specs.declared.code.ErrorCode.TheVariants.{InvalidUTF8}
use Rattle.sonic_find.proofs.AnswerLemmas.One.{none_in_empty, first_in, later_in, first_or_later, nearest_in, nearest_least, nearest_or_none, cut_or_none, all_found, all_some, cut_by_root}
use Rattle.sonic_find.proofs.PathLemmas.Outcome.{nowhere_ends, ends_before_end, ends_before_fault, cut_is_fault, by_one, EndsAt}
use Rattle.sonic_find.proofs.WalkLemmas.List.{first_of}
use Rattle.sonic_find.proofs.WalkLemmas.Path.{contained, held}
use Rattle.sonic_find.specs.Answers.{AllLeadFrom, AllLeadBy, no_more, one_more, IsNearest, NoneFails, NoneCut, SomeLacks, IsReach, to_the_root, to_the_furthest, Span, span_of, Answer, ComeTo, no_path, failing, cutting, lacking, breaking, finding, IsAnswerBy}
use Rattle.sonic_find.specs.Found.{FlagEscapes, told_at, span_in, slots_of, spans_of}
use Rattle.sonic_find.specs.Internal.Walk.{Question, Findings, root_point, LeadsFrom, AllSettled, IsKnown, was_found, was_lacked, has_failed, AreFindings, SomeLack, NoneNearer, path_stops, value_stops, IsCause, IsStop, IsFurthest, AllReached, IsAllReached, IsError, IsEachError, IsRefused, has_stopped, is_broken, slot_of, slot_need, whole_question}
use Rattle.sonic_find.specs.DeadEnds.{IsPathStop, fails_so, cut_so}
use Rattle.sonic_find.specs.Outcomes.{NoneTold, IsEachReach, to_the_whole_root, to_the_last_need, need, EachAnswer, ComeToEach, no_path_asks, some_path_cut, some_path_lacks, need_broken, IsEachAnswerBy, told_span}
use Rattle.sonic_find.specs.Paths.{Outcome, found, lacks, fails, cut, kind_of, EvaluatesBy, LeadsUnder}
use Rattle.sonic_find.specs.Paths.EvaluatesBy.{found_here, goes_on, leads_nowhere}
use Rattle.sonic_find.specs.declared.outcome.PathOutcome.{PathOutcome}
use Rattle.sonic_find.specs.declared.outcome.PathOutcome.TheVariants.{Found, Missing, Fails}
use Rattle.sonic_find.specs.declared.span.Span as slot
use Rattle.sonic_parser.specs.declared.value_span.ValueSpan.{ValueSpan}
use Rattle.sonic_pointer.specs.Paths.{HasPrefix}
use Rattle.sonic_text.proofs.Outcomes.{value_some_outcome}
use Rattle.sonic_text.proofs.Stops.{fault_within}
use Rattle.sonic_text.proofs.Values.{value-longer, value_fault_one}
use Rattle.sonic_text.proofs.Within.{value_within}
use Rattle.sonic_text.specs.Documents.{IsWhole, IsRootFault}
use Rattle.sonic_text.specs.Paths.{Path}
use Rattle.sonic_text.specs.Places.{after_space}
use Rattle.sonic_text.specs.Strings.{strict}
use Rattle.sonic_text.specs.Values.{IsValue}
use Rattle.sonic_text.specs.declared.stop.Stop.{Stop}
use Rattle.sonic_pointer.specs.declared.rule.KeyRule.{KeyRule}

-- a path ends so where the walk does: it found a value, or it lacks its key and that is noted
abbrev pub IsEnd : Bool → Outcome → Type 0
IsEnd noted (found i j) = Unit {0}
IsEnd noted (lacks q) = noted ≡ true
IsEnd noted (fails s) = ⊥
IsEnd noted (cut s) = ⊥

-- where a path leads, and that its slot tells it
pub record Ends (q : Question) (noted : Bool) (kept : Option (PathOutcome slot.Span)) (path : Path) : Type 0 where
  pub outcome : Outcome
  pub leads : LeadsFrom q path outcome
  pub uncut : (s : Stop) → outcome ≢ cut s
  pub goes : q.each ≡ false → (s : Stop) → outcome ≢ fails s
  pub lack : (p : ℕ) → outcome ≡ lacks p → noted ≡ true
  pub is : kept ≡ Some (slot_of q.tells outcome)

-- where all paths lead from a place of a text, and that their slots tell it
pub record AreKeptFrom (rule : KeyRule) (t : List ℕ) (root : ℕ) (each tells noted : Bool) (slots : List (PathOutcome slot.Span)) (paths : List Path) : Type 0 where
  pub outcomes : List Outcome
  pub lead : AllLeadFrom rule t root paths outcomes
  pub none_cut : NoneCut outcomes
  pub none_fails : each ≡ false → NoneFails outcomes
  pub lack : (p : ℕ) → Contains outcomes (lacks p) → noted ≡ true
  pub told : slots ≡ map (slot_of tells) outcomes

-- and from its first value
abbrev pub AreKept : KeyRule → List ℕ → Bool → Bool → Bool → List (PathOutcome slot.Span) → List Path → Type 0
AreKept rule t each tells noted slots paths = AreKeptFrom rule t (after_space t 0) each tells noted slots paths

-- where all paths lead
pub record IsGathered (rule : KeyRule) (t : List ℕ) (noted : Bool) (spans : List (Option Span)) (paths : List Path) : Type 0 where
  pub outcomes : List Outcome
  pub lead : AllLeadBy rule t paths outcomes
  pub entries : spans ≡ map span_of outcomes
  pub ends : (o : Outcome) → Contains outcomes o → IsEnd noted o

-- equal prefixes and equal rests
pub both_same : {X : Type 0} {x y : X} {xs ys : List X} → x ≡ y → xs ≡ ys → x ∷ xs ≡ y ∷ ys
both_same e f = cc

-- one by one
gather : (rule : KeyRule) (t : List ℕ) (root : ℕ) (each tells noted : Bool) (slots : List (PathOutcome slot.Span)) (whole paths : List Path) → length slots ≡ length paths
    → ((k : ℕ) (path : Path) → slice_get paths k ≡ Some path
    → Ends (record { rule = rule; text = t; root = root; paths = whole; each = each; tells = tells }) noted (slice_get slots k) path)
    → AreKeptFrom rule t root each tells noted slots paths
gather rule t root each tells noted [] whole [] long ends = record {
  outcomes = [];
  lead = no_more;
  none_cut = λ s c. none_in_empty (cut s) c;
  none_fails = λ e s c. none_in_empty (fails s) c;
  lack = λ p c. absurd (none_in_empty (lacks p) c);
  told = refl;
}
gather rule t root each tells noted [] whole (p ∷ paths) long ends = absurd (omega arith)
gather rule t root each tells noted (x ∷ slots) whole [] long ends = absurd (omega arith)
gather rule t root each tells noted (x ∷ slots) whole (p ∷ paths) long ends =
    let e = ends 0 p refl in
    let rest = gather rule t root each tells noted slots whole paths (omega arith) (λ k path h. ends (suc k) path h) in
    let kept : x ≡ slot_of tells e.outcome = same_Some x (slot_of tells e.outcome) e.is in
    record {
      outcomes = e.outcome ∷ rest.outcomes;
      lead = one_more e.leads rest.lead;
      none_cut = λ s c. elim (first_or_later e.outcome (cut s) rest.outcomes c) [ inl same ↦ e.uncut s same | inr later ↦ rest.none_cut s later ];
      none_fails = λ stops s c. elim (first_or_later e.outcome (fails s) rest.outcomes c) [ inl same ↦ e.goes stops s same | inr later ↦ rest.none_fails stops s later ];
      lack = λ q c. elim (first_or_later e.outcome (lacks q) rest.outcomes c) [ inl same ↦ e.lack q same | inr later ↦ rest.lack q later ];
      told = both_same kept rest.told;
    }

-- what is known of a path is where it leads
known_ends : {q : Question} {f : Findings} {k : ℕ} {path : Path} → IsKnown q f k path → (q.each ≡ false → (s : Stop) → ¬ LeadsFrom q path (fails s))
    → Ends q f.lacking (slice_get f.slots k) path
known_ends (was_found {i} {j} l h) goes =
    record { outcome = found i j; leads = l; uncut = λ s e. absurd cc; goes = λ stops s e. absurd cc; lack = λ p e. absurd cc; is = h }
known_ends (was_lacked {p} l h noted) goes =
    record { outcome = lacks p; leads = l; uncut = λ s e. absurd cc; goes = λ stops s e. absurd cc; lack = λ r e. noted; is = h }
known_ends (has_failed {s} l h) goes =
    record { outcome = fails s; leads = l; uncut = λ r e. absurd cc; goes = λ stops r e. goes stops s l; lack = λ p e. absurd cc; is = h }

-- where the walk ends, all are kept
pub all_kept_from : (rule : KeyRule) (t : List ℕ) (root : ℕ) (paths : List Path) (each tells : Bool) {f : Findings} → length f.slots ≡ length paths
    → AllSettled (root_point (record { rule = rule; text = t; root = root; paths = paths; each = each; tells = tells })) f
    → AreKeptFrom rule t root each tells f.lacking f.slots paths
all_kept_from rule t root paths each tells {f} long settled =
    gather rule t root each tells f.lacking f.slots paths paths long (λ k path is. (let x = settled k path is in known_ends x.known x.goes))

pub all_kept : (rule : KeyRule) (t : List ℕ) (paths : List Path) (each tells : Bool) {f : Findings} → length f.slots ≡ length paths
    → AllSettled (root_point (record { rule = rule; text = t; root = after_space t 0; paths = paths; each = each; tells = tells })) f
    → AreKept rule t each tells f.lacking f.slots paths
all_kept rule t paths each tells long settled = all_kept_from rule t (after_space t 0) paths each tells long settled

-- a path's outcome is among all
lead_at : {t : List ℕ} {rule : KeyRule} {paths : List Path} {os : List Outcome} {o : Outcome} (k : ℕ) (path : Path) → AllLeadBy rule t paths os → slice_get paths k ≡ Some path
    → LeadsUnder rule t path o → Contains os o
lead_at k path no_more is l = absurd (let w = slice_get_within [] k path is in omega arith)
lead_at {t} {rule} {o = o} zero path (one_more {path = p} {o = u} {os} a b) is l =
    let same : p ≡ path = same_Some p path is in
    let leads : LeadsUnder rule t path u = rw same at a in
    let one : u ≡ o = by_one path leads l in
    let P : Outcome → Type 0 = λ z. Contains (u ∷ os) z in
    subst P one (first_in u os)
lead_at {o = o} (suc k) path (one_more {o = u} {os} a b) is l = later_in u o os (lead_at k path b is l)

-- each of them is that of a path
pub record LeadsThere (rule : KeyRule) (t : List ℕ) (paths : List Path) (o : Outcome) : Type 0 where
  pub number : ℕ
  pub path : Path
  pub is : slice_get paths number ≡ Some path
  pub leads : LeadsUnder rule t path o

-- so it is for each
pub lead_from : {t : List ℕ} {rule : KeyRule} {paths : List Path} {os : List Outcome} (o : Outcome) → AllLeadBy rule t paths os → Contains os o → LeadsThere rule t paths o
lead_from o no_more c = absurd (none_in_empty o c)
lead_from o (one_more {path} {o = u} {os} a b) c = elim (first_or_later u o os c) [
  | inl same ↦ record { number = 0; path = path; is = refl; leads = rw same at a }
  | inr later ↦ (let x = lead_from o b later in record { number = suc x.number; path = x.path; is = x.is; leads = x.leads })
]

-- a span that is kept was found
pub kept_found : {i j : ℕ} (os : List Outcome) (k : ℕ) → slice_get (map span_of os) k ≡ Some (Some (i, j)) → Contains os (found i j)
kept_found [] k h = absurd (let w = slice_get_within [] k _ h in omega arith)
kept_found {i} {j} (found a b ∷ os) zero h =
    let both = some_pair_parts a i b j (same_Some (Some (a, b)) (Some (i, j)) h) in
    rw (← both.0, ← both.1) (first_in (found a b) os)
kept_found (lacks q ∷ os) zero h = absurd cc
kept_found (fails s ∷ os) zero h = absurd cc
kept_found (cut s ∷ os) zero h = absurd cc
kept_found {i} {j} (o ∷ os) (suc k) h = later_in o (found i j) os (kept_found os k h)

-- a value that a path found is one
pub found_value : {t : List ℕ} {a b : ℕ} {rule : KeyRule} (path : Path) {i : ℕ} → EvaluatesBy rule t i path (found a b) → IsValue strict t a b
found_value [] (found_here x) = x
found_value (node ∷ rest) (goes_on l e) = found_value rest e
found_value {t} (node ∷ rest) {i} (leads_nowhere {j = j} x none e) = absurd (rw (← e) at (nowhere_ends t i (j - 1) (kind_of node)))

-- some path leads somewhere
some_outcome : {t : List ℕ} {paths : List Path} {os : List Outcome} {rule : KeyRule} → AllLeadBy rule t paths os → paths ≢ [] → (o : Outcome) × Contains os o
some_outcome no_more some = absurd (some refl)
some_outcome (one_more {o = o} {os} a b) some = (o, first_in o os)

-- where a path ends lies within the text
placed : {t : List ℕ} {rule : KeyRule} (path : Path) (o : Outcome) {q : ℕ} → LeadsUnder rule t path o → EndsAt o q → q < length t
placed {t} path o l ends = elim (value_some_outcome strict t (after_space t 0)) [
  | inl x ↦ (omega (arith, ends_before_end path l x.1 ends, value_within x.1))
  | inr f ↦ (omega (arith, ends_before_fault path l f.1 ends, fault_within f.1))
]

-- a slot needs what its outcome does
need_of_slot : (o : Outcome) → ((s : Stop) → o ≢ cut s) → slot_need (slot_of true o) ≡ need o
need_of_slot (found i j) uncut = refl
need_of_slot (lacks p) uncut = refl
need_of_slot (fails s) uncut = refl
need_of_slot (cut s) uncut = absurd (uncut s refl)

-- what a slot tells is an outcome
pub told_there : (os : List Outcome) (k : ℕ) {x : PathOutcome slot.Span} → slice_get (map (slot_of true) os) k ≡ Some x → (o : Outcome) × Contains os o × (slot_of true o ≡ x)
told_there [] k h = absurd (let w = slice_get_within [] k _ h in omega arith)
told_there (o ∷ os) zero {x} h = (o, first_in o os, same_Some (slot_of true o) x h)
told_there (o ∷ os) (suc k) h = let y = told_there os k h in (y.0, later_in o y.0 os y.1, y.2)

-- and each outcome is told
there_told : (os : List Outcome) {o : Outcome} → Contains os o → (k : ℕ) × (slice_get (map (slot_of true) os) k ≡ Some (slot_of true o))
there_told os c = let k = held os c in (k.0, slice_get-map (slot_of true) os k.0 ∙ ap (option_map (slot_of true)) k.1)

-- an outcome needs some of the text, and no more than there is
pub need_within : {t : List ℕ} {rule : KeyRule} (path : Path) (o : Outcome) → LeadsUnder rule t path o → ((s : Stop) → o ≢ cut s) → (0 < need o) × (need o ≤ length t)
need_within path (cut s) l uncut = absurd (uncut s refl)
need_within path (found i j) l uncut = let x = found_value path l in (omega (arith, value-longer x), value_within x)
need_within path (lacks p) l uncut = let before = placed path (lacks p) l refl in (omega arith, omega (arith, before))
need_within path (fails s) l uncut = let before = placed path (fails s) l refl in (omega arith, omega (arith, before))

-- each outcome of what is kept needs no more than there is
kept_within : {rule : KeyRule} {t : List ℕ} {each noted : Bool} {slots : List (PathOutcome slot.Span)} {paths : List Path} (o : Outcome) (g : AreKept rule t each true noted slots paths)
    → Contains g.outcomes o → (0 < need o) × (need o ≤ length t)
kept_within o g c =
    let x = lead_from o g.lead c in
    need_within x.path o x.leads (λ s e. g.none_cut s (rw e at c))

-- and so does each slot
pub slots_within : {rule : KeyRule} {t : List ℕ} {each noted : Bool} {slots : List (PathOutcome slot.Span)} {paths : List Path} → AreKept rule t each true noted slots paths
    → (k : ℕ) (x : PathOutcome slot.Span) → slice_get slots k ≡ Some x → slot_need x ≤ length t
slots_within g k x h =
    let o = told_there g.outcomes k (rw g.told at h) in
    let within = (kept_within o.0 g o.1).1 in
    let same = need_of_slot o.0 (λ s e. g.none_cut s (rw e at o.1)) in
    rw o.2 at (rw (← same) at within)

-- where nothing is lacking, the text is needed to the furthest need
reach_furthest : {rule : KeyRule} {t : List ℕ} {each noted : Bool} {slots : List (PathOutcome slot.Span)} {paths : List Path} {r : ℕ} (g : AreKept rule t each true noted slots paths) → paths ≢ []
    → noted ≡ false → IsFurthest slots r → IsEachReach t g.outcomes r
reach_furthest {r = r} g some e f =
    let none : ¬ SomeLacks g.outcomes = (λ l. (let clash : true ≡ false = sym (g.lack l.0 l.1) ∙ e in absurd cc)) in
    let all : (p : Outcome) → Contains g.outcomes p → need p ≤ r =
    (λ p c.
    let k = there_told g.outcomes c in
    let before = f.all k.0 (slot_of true p) (rw g.told k.1) in
    rw (need_of_slot p (λ s x. g.none_cut s (rw x at c))) at before) in
    elim f.some [
      | inl none_needs ↦ (let o = some_outcome g.lead some in absurd (omega (arith, all o.0 o.1, (kept_within o.0 g o.1).0, none_needs)))
      | inr x ↦
          let o = told_there g.outcomes x.0 (rw g.told at x.2) in
          let same : need o.0 ≡ r = sym (need_of_slot o.0 (λ s e. g.none_cut s (rw e at o.1))) ∙ (ap slot_need o.2 ∙ x.3) in
          to_the_last_need {o = o.0} none o.1 (sym same) all
    ]

-- how far the text is needed
reached : {rule : KeyRule} {t : List ℕ} {each noted : Bool} {slots : List (PathOutcome slot.Span)} {paths : List Path} {r e : ℕ} (g : AreKept rule t each true noted slots paths) → paths ≢ []
    → (noted ≡ true → SomeLack (whole_question rule t paths each)) → (noted ≡ true → IsWhole t e) → (noted ≡ true → r ≡ e) → (noted ≡ false → IsFurthest slots r)
    → IsEachReach t g.outcomes r
reached {noted = false} g some lack whole at_end furthest = reach_furthest g some refl (furthest refl)
reached {t = t} {noted = true} {r = r} g some lack whole at_end furthest =
    let x : IsWhole t r = rw (at_end refl) (whole refl) in
    let l = lack refl in
    to_the_whole_root (l.place, lead_at l.number l.path g.lead l.is l.leads) x

-- which lies within it
reach_within : {rule : KeyRule} {t : List ℕ} {each noted : Bool} {slots : List (PathOutcome slot.Span)} {paths : List Path} {r : ℕ} (g : AreKept rule t each true noted slots paths)
    → IsEachReach t g.outcomes r → r ≤ length t
reach_within g (to_the_whole_root l x) = value_within x
reach_within {r = r} g (to_the_last_need {o} none c is all) = omega (arith, is, (kept_within o g c).1)

-- so it is reached
pub is_reached : {rule : KeyRule} {t : List ℕ} {paths : List Path} {each : Bool} {f : Findings} {r e : ℕ} → AreFindings (whole_question rule t paths each) f
    → AllSettled (root_point (whole_question rule t paths each)) f → paths ≢ []
    → (f.lacking ≡ true → IsWhole t e) → (f.lacking ≡ true → r ≡ e) → (f.lacking ≡ false → IsFurthest f.slots r) → AllReached rule t paths each f.slots r
is_reached {rule} {t} {paths} {each} are settled some whole at_end furthest =
    let g = all_kept rule t paths each true are.long settled in
    let reach = reached g some are.lack whole at_end furthest in
    record {
      outcomes = g.outcomes;
      lead = g.lead;
      none_fails = g.none_fails;
      none_cut = g.none_cut;
      told = g.told;
      reach = reach;
      within = reach_within g reach;
    }

-- a slot has the span that its outcome has
pair_of_slot : (tells : Bool) (o : Outcome) → told_span (slot_of tells o) ≡ span_of o
pair_of_slot tells (found i j) = refl
pair_of_slot true (lacks p) = refl
pair_of_slot true (fails s) = refl
pair_of_slot true (cut s) = refl
pair_of_slot false (lacks p) = refl
pair_of_slot false (fails s) = refl
pair_of_slot false (cut s) = refl

-- the spans of slots are those of the outcomes that they tell
pub spans_told : {X : Type 0} (f : X → PathOutcome slot.Span) (g : X → Option Span) (tells : Bool) → ((x : X) → told_span (f x) ≡ g x) → (xs : List X) (os : List Outcome)
    → map f xs ≡ map (slot_of tells) os → map g xs ≡ map span_of os
spans_told f g tells same [] [] e = refl
spans_told f g tells same [] (o ∷ os) e = absurd cc
spans_told f g tells same (x ∷ xs) [] e = absurd cc
spans_told f g tells same (x ∷ xs) (o ∷ os) e =
    let first : f x ≡ slot_of tells o = cc in
    let rest : map f xs ≡ map (slot_of tells) os = cc in
    both_same (sym (same x) ∙ (ap told_span first ∙ pair_of_slot tells o)) (spans_told f g tells same xs os rest)

-- so they are of values that were found
pub pair_of_value : (x : PathOutcome ValueSpan) → told_span (told_at x) ≡ span_in x
pair_of_value (Found v) = refl
pair_of_value (Missing p) = refl
pair_of_value (Fails s) = refl

-- where no path fails, all that each needs is what they need together
reach_of_all : {t : List ℕ} {os : List Outcome} {r : ℕ} → NoneFails os → NoneCut os → IsEachReach t os r → IsReach t os r
reach_of_all fail cuts (to_the_whole_root l x) = to_the_root l x
reach_of_all {t} {os} {r} fail cuts (to_the_last_need {o} none c is all) =
    let x = all_found os o fail cuts none c in
    let there : Contains os (found x.0 x.1) = rw x.2 at c in
    let end : r ≡ x.1 = rw x.2 at is in
    rw end (to_the_furthest {i = x.0} none there (λ a b d. rw end at (all (found a b) d)))

-- the spans are the answer
pub answers_spans : {t : List ℕ} {is_bytes : Bool} {paths : List Path} {rule : KeyRule} (xs : List (PathOutcome ValueSpan))
    → IsAllReached rule t is_bytes paths false (slots_of xs) → IsAnswerBy rule t is_bytes paths (Answer.spans (spans_of xs))
answers_spans xs x =
    let r = x.reached in
    let fail = r.none_fails refl in
    record {
      outcomes = r.outcomes;
      lead = r.lead;
      come_to = finding fail r.none_cut (reach_of_all fail r.none_cut r.reach) x.utf8 (spans_told told_at span_in true pair_of_value xs r.outcomes r.told);
    }

-- or the first broken place
answers_broken : {t : List ℕ} {is_bytes : Bool} {slots : List (PathOutcome slot.Span)} {paths : List Path} {r : ℕ} {s : Stop} {rule : KeyRule} → AllReached rule t paths false slots r
    → is_bytes ≡ true → ¬ IsUtf8 (take r t) → s ≡ record { place = valid_up_to (take r t); code = InvalidUTF8 }
    → s.place ≤ length t → IsError rule t is_bytes paths s
answers_broken x e broken is within =
    let fail = x.none_fails refl in
    record {
      answer = record { outcomes = x.outcomes; lead = x.lead; come_to = breaking fail x.none_cut (reach_of_all fail x.none_cut x.reach) e broken is };
      within = within;
    }

-- of each path by itself, too
each_broken : {t : List ℕ} {is_bytes : Bool} {slots : List (PathOutcome slot.Span)} {paths : List Path} {r : ℕ} {s : Stop} {rule : KeyRule} → AllReached rule t paths true slots r
    → is_bytes ≡ true → ¬ IsUtf8 (take r t) → s ≡ record { place = valid_up_to (take r t); code = InvalidUTF8 }
    → s.place ≤ length t → IsEachError rule t is_bytes paths s
each_broken x e broken is within =
    record { answer = record { outcomes = x.outcomes; lead = x.lead; come_to = need_broken x.none_cut x.reach e broken is }; within = within }

-- a fail is the nearest where all others lie after it, or are the same
is_nearest : (s : Stop) (os : List Outcome) → Contains os (fails s) → ((r : Stop) → Contains os (fails r) → (r ≡ s) ⊎ (s.place < r.place)) → IsNearest os s
is_nearest s os c all = elim (nearest_or_none os) [
  | inr none ↦ absurd (none s c)
  | inl n ↦ elim (all n.0 (nearest_in n.1)) [
    | inl same ↦ rw same at n.1
    | inr later ↦ absurd (omega (arith, later, nearest_least s n.1 c))
  ]
]

-- a fail lies within the text
fail_within : {t : List ℕ} {s : Stop} {rule : KeyRule} (path : Path) → LeadsUnder rule t path (fails s) → s.place ≤ length t
fail_within {t} {s} path l = elim (value_some_outcome strict t (after_space t 0)) [
  | inl x ↦ (omega (arith, ends_before_end path l x.1 refl, value_within x.1))
  | inr f ↦ (omega (arith, ends_before_fault path l f.1 refl, fault_within f.1))
]

-- no path fails before the fault of the root, where none is nearer than that
none_fails : {t : List ℕ} {paths : List Path} {os : List Outcome} {s : Stop} {rule : KeyRule} → AllLeadBy rule t paths os → NoneNearer (root_point (whole_question rule t paths false)) s → IsRootFault t s
    → NoneFails os
none_fails all near f = λ r c.
    let y = lead_from (fails r) all c in
    let before = ends_before_fault y.path y.leads f refl in
    elim (near y.number y.path r y.is y.leads) [
      | inl same ↦ absurd (omega (arith, before, ap (λ (x : Stop). x.place) same))
      | inr later ↦ absurd (omega (arith, before, later))
    ]

-- a slot that tells of a fail is that of a path that fails
fail_told : {s : Stop} (os : List Outcome) (k : ℕ) → slice_get (map (slot_of true) os) k ≡ Some (Fails s) → Contains os (fails s)
fail_told [] k h = absurd (let w = slice_get_within [] k _ h in omega arith)
fail_told {s} (fails r ∷ os) zero h = (let same : r ≡ s = cc in rw (← same) (first_in (fails r) os))
fail_told (found i j ∷ os) zero h = absurd cc
fail_told (lacks q ∷ os) zero h = absurd cc
fail_told (cut r ∷ os) zero h = absurd cc
fail_told {s} (o ∷ os) (suc k) h = later_in o (fails s) os (fail_told os k h)

-- so none is told that it fails where the walk stops at a fail
pub none_told : {t : List ℕ} {is_bytes : Bool} {paths : List Path} {slots : List (PathOutcome slot.Span)} {rule : KeyRule} → IsAllReached rule t is_bytes paths false slots → NoneTold slots
none_told x k s h = x.reached.none_fails refl s (fail_told x.reached.outcomes k (rw x.reached.told at h))

pub nothing_told : NoneTold []
nothing_told k s h = absurd (let w = slice_get_within [] k _ h in omega arith)

-- a fault of the root is the answer where it cuts a path, or some path lacks its key
fault_answers : {t : List ℕ} {paths : List Path} {os : List Outcome} {s : Stop} {rule : KeyRule} (is_bytes : Bool) → AllLeadBy rule t paths os → NoneNearer (root_point (whole_question rule t paths false)) s
    → IsRootFault t s → Contains os (cut s) ⊎ SomeLacks os → ComeTo t is_bytes os (Answer.error s)
fault_answers is_bytes all near f (inl c) = cutting (none_fails all near f) c f
fault_answers {os = os} is_bytes all near f (inr l) = elim (cut_or_none os) [
  | inl c ↦ (let one = value_fault_one (cut_by_root c.0 all c.1) f in cutting (none_fails all near f) (rw one at c.1) f)
  | inr cuts ↦ lacking (none_fails all near f) cuts l f
]

-- what stops a path at the root is the answer
path_answers : {t : List ℕ} {paths : List Path} {os : List Outcome} {s : Stop} {rule : KeyRule} (is_bytes : Bool) (k : ℕ) (path : Path) → AllLeadBy rule t paths os
    → NoneNearer (root_point (whole_question rule t paths false)) s → slice_get paths k ≡ Some path → IsPathStop rule t (after_space t 0) path s
    → ComeTo t is_bytes os (Answer.error s) × (s.place ≤ length t)
path_answers {os = os} {s} is_bytes k path all near is (fails_so e) =
    let nearest = is_nearest s os (lead_at k path all is e) (λ r c. (let y = lead_from (fails r) all c in near y.number y.path r y.is y.leads)) in
    (failing nearest, fail_within path e)
path_answers is_bytes k path all near is (cut_so e) =
    let fault = cut_is_fault path e in
    (fault_answers is_bytes all near fault (inl (lead_at k path all is e)), fault_within fault)

-- why the walk stops at the root is the answer
pub stop_answers : {t : List ℕ} {paths : List Path} {s : Stop} {rule : KeyRule} (is_bytes : Bool) → IsStop (root_point (whole_question rule t paths false)) false s → IsError rule t is_bytes paths s
stop_answers {t} {paths} {s} {rule = rule} is_bytes x =
    let all = all_some rule t paths in
    elim x.cause [
      | path_stops k rest is y ↦
          let come = path_answers is_bytes k rest all.1 (x.nearest refl) is y in
          record { answer = record { outcomes = all.0; lead = all.1; come_to = come.0 }; within = come.1 }
      | value_stops f (inl e) ↦ absurd cc
      | value_stops f (inr l) ↦
          let there : SomeLacks all.0 = (l.place, lead_at l.number l.path all.1 l.is l.leads) in
          record {
            answer = record { outcomes = all.0; lead = all.1; come_to = fault_answers is_bytes all.1 (x.nearest refl) f (inr there) };
            within = fault_within f;
          }
    ]

-- where a walk stops that goes on after a fail, the root's fault is the answer of each path by itself
each_stopped : {t : List ℕ} {paths : List Path} {s : Stop} {rule : KeyRule} (is_bytes : Bool) → IsStop (root_point (whole_question rule t paths true)) false s
    → IsEachError rule t is_bytes paths s
each_stopped {t} {paths} {s} {rule = rule} is_bytes x =
    let all = all_some rule t paths in
    let fault : IsRootFault t s = x.fault refl in
    record { answer = record { outcomes = all.0; lead = all.1; come_to = come is_bytes all.1 fault x.cause }; within = fault_within fault }
  where
    come : {t : List ℕ} {paths : List Path} {os : List Outcome} {s : Stop} {rule : KeyRule} (is_bytes : Bool) → AllLeadBy rule t paths os → IsRootFault t s
        → IsCause (root_point (whole_question rule t paths true)) false s → ComeToEach t is_bytes os (EachAnswer.error s)
    come is_bytes lead f (path_stops k rest is (fails_so e)) = absurd (omega (arith, ends_before_fault rest e f refl))
    come is_bytes lead f (path_stops k rest is (cut_so e)) = some_path_cut (lead_at k rest lead is e) f
    come is_bytes lead f (value_stops g (inl e)) = absurd cc
    come {os = os} is_bytes lead f (value_stops g (inr l)) =
        let there : SomeLacks os = (l.place, lead_at l.number l.path lead l.is l.leads) in
        elim (cut_or_none os) [
          | inl c ↦ (let one = value_fault_one (cut_by_root c.0 lead c.1) f in some_path_cut (rw one at c.1) f)
          | inr cuts ↦ some_path_lacks cuts there f
        ]

-- why no outcome is told is the answer
pub refused_answers : {t : List ℕ} {paths : List Path} {s : Stop} {rule : KeyRule} (is_bytes : Bool) → IsRefused rule t is_bytes paths false s → IsError rule t is_bytes paths s
refused_answers is_bytes (has_stopped x) = stop_answers is_bytes x
refused_answers is_bytes (is_broken x e broken is within) = answers_broken x e broken is within

pub each_refused_answers : {t : List ℕ} {paths : List Path} {s : Stop} {rule : KeyRule} (is_bytes : Bool) → IsRefused rule t is_bytes paths true s
    → IsEachError rule t is_bytes paths s
each_refused_answers is_bytes (has_stopped x) = each_stopped is_bytes x
each_refused_answers is_bytes (is_broken x e broken is within) = each_broken x e broken is within

-- and each path has the empty prefix
pub root_prefix : (paths : List Path) → paths ≢ [] → HasPrefix paths []
root_prefix paths some = let path = first_of paths some in record { rest = path.0; path = contained paths 0 path.1 }

-- a slot of which nothing is known yet
abbrev pub no_value : PathOutcome ValueSpan
no_value = Missing 0

-- what stands in a list where there may be nothing
abbrev pub first_value : PathOutcome ValueSpan
first_value = Found (record { start = 0; end = 0; escaped = false })

-- holds no value
none_there : (n k : ℕ) (x : ValueSpan) → slice_get (replicate n no_value) k ≢ Some (Found x)
none_there zero k x h = absurd cc
none_there (suc n) zero x h = absurd cc
none_there (suc n) (suc k) x h = none_there n k x h

-- and nothing is said of one
pub no_escapes : (t : List ℕ) (n : ℕ) → FlagEscapes t (replicate n no_value)
no_escapes t n = λ k x h. absurd (none_there n k x h)

-- there is one for each path
pub no_findings : (q : Question) (xs : List (PathOutcome ValueSpan)) → xs ≡ replicate (length q.paths) no_value → AreFindings q (record { slots = slots_of xs; lacking = false })
no_findings q xs e = record {
  long = length-map xs told_at ∙ (ap length e ∙ length-replicate (length q.paths) no_value);
  lack = λ f. absurd cc;
}

-- no path is answered with nothing
pub no_paths : (rule : KeyRule) (t : List ℕ) (is_bytes : Bool) (paths : List Path) → paths ≡ [] → IsAnswerBy rule t is_bytes paths (Answer.spans [])
no_paths rule t is_bytes [] e = record { outcomes = []; lead = no_more; come_to = no_path }
no_paths rule t is_bytes (p ∷ paths) e = absurd cc

pub no_paths_each : (rule : KeyRule) (t : List ℕ) (is_bytes : Bool) (paths : List Path) → paths ≡ [] → IsEachAnswerBy rule t is_bytes paths (EachAnswer.outcomes [])
no_paths_each rule t is_bytes [] e = record { outcomes = []; lead = no_more; come_to = no_path_asks }
no_paths_each rule t is_bytes (p ∷ paths) e = absurd cc

-- what a longer list holds is what the shorter one held, or the last
held_or_last : {X : Type 0} {y : X} (xs : List X) (x : X) (k : ℕ) → slice_get (xs ++ x ∷ []) k ≡ Some y → (slice_get xs k ≡ Some y) ⊎ (x ≡ y)
held_or_last {y = y} [] x zero h = inr (same_Some x y h)
held_or_last [] x (suc k) h = absurd (let w = slice_get_within [] k _ h in omega arith)
held_or_last (z ∷ xs) x zero h = inl h
held_or_last (z ∷ xs) x (suc k) h = held_or_last xs x k h

-- the last of a list is held
last_held : {X : Type 0} (xs : List X) (x : X) → slice_get (xs ++ x ∷ []) (length xs) ≡ Some x
last_held [] x = refl
last_held (z ∷ xs) x = last_held xs x

-- and what was held is
still_held : {X : Type 0} {y : X} (xs : List X) (x : X) (k : ℕ) → slice_get xs k ≡ Some y → slice_get (xs ++ x ∷ []) k ≡ Some y
still_held [] x k h = absurd (let w = slice_get_within [] k _ h in omega arith)
still_held (z ∷ xs) x zero h = h
still_held (z ∷ xs) x (suc k) h = still_held xs x k h

-- one more slot
pub furthest_more : {xs : List (PathOutcome slot.Span)} {r q : ℕ} (x : PathOutcome slot.Span) → IsFurthest xs r → r ≤ q → slot_need x ≤ q
    → (q ≡ r) ⊎ (q ≡ slot_need x) → IsFurthest (xs ++ x ∷ []) q
furthest_more {xs} {r} {q} x f l most one = record {
  all = λ k y h. elim (held_or_last xs x k h) [
    | inl before ↦ (let m = f.all k y before in omega arith)
    | inr last ↦ rw last at most
  ];
  some = elim one [
    | inr there ↦ inr (length xs, x, last_held xs x, sym there)
    | inl same ↦ elim f.some [
      | inl none ↦ inl (omega arith)
      | inr y ↦ inr (y.0, y.1, still_held xs x y.0 y.2, y.3 ∙ sym same)
    ]
  ];
}

-- one more value
pub furthest_value : (xs : List (PathOutcome ValueSpan)) {r q : ℕ} (x : PathOutcome ValueSpan) → IsFurthest (slots_of xs) r → r ≤ q
    → slot_need (told_at x) ≤ q → (q ≡ r) ⊎ (q ≡ slot_need (told_at x)) → IsFurthest (slots_of (xs ++ x ∷ [])) q
furthest_value xs x f l most one = rw map-append (furthest_more (told_at x) f l most one)

-- what is read off no value is none
pub replicate_none : {X Y : Type 0} (f : X → Y) (n : ℕ) → map (option_map f) (replicate n None) ≡ replicate n None
replicate_none f zero = refl
replicate_none f (suc n) = both_same refl (replicate_none f n)
