-- The container to which a path leads, and why there is none.
use Rattle.std.proofs.Common.{◌≡◌, ap, inl, inr, ℕ, suc, ◌≤◌, List, [], ◌∷◌, Bool, true, length, take, get_or, arith, refl}
use Rattle.std.specs.Str.{IsUtf8}
use Rattle.sonic_error.specs.Errors.{IsErrorAt}
use Rattle.sonic_error.specs.Texts.{valid_up_to}
use Rattle.sonic_error.specs.declared.code.ErrorCode.TheVariants.{InvalidUTF8}
use Rattle.sonic_error.specs.declared.error.Error.{Error}
use Rattle.sonic_find.proofs.AnswerLemmas.Each.{each_answer_one}
use Rattle.sonic_find.proofs.AnswerLemmas.One.{none_in_empty, first_in, first_or_later}
use Rattle.sonic_find.proofs.AnswerLemmas.Walk.{found_value, need_within}
use Rattle.sonic_find.proofs.PathLemmas.Outcome.{cut_is_fault}
use Rattle.sonic_find.proofs.HonestLemmas.{honest_of_each, mismatch_other, unknown_other, other_stop, of_other, fails_other}
use Rattle.sonic_find.specs.Answers.{AllLeadFrom, AllLeadBy, NoneCut, no_more, one_more}
use Rattle.sonic_find.specs.Internal.Table.{IsTableStop, IsUnread}
use Rattle.sonic_find.specs.Internal.Walk.{IsEachError}
use Rattle.sonic_find.specs.Outcomes.{IsTold, told_found, told_missing, told_empty, told_fails, AreTold, all_told, one_told, IsEachReach, to_the_last_need, outcomes, ComeToEach, some_path_cut, need_broken, each_told, IsEachAnswerBy, each_refused}
use Rattle.sonic_find.specs.Paths.EvaluatesBy.{found_here, cut_here}
use Rattle.sonic_find.specs.Paths.{Outcome, found, lacks, fails, cut, LeadsUnder}
use Rattle.sonic_find.specs.Tables.{HasTable, IsNoTable, has_error, is_missing, has_failed, is_scalar, IsTableRefusal, table_out_of_memory, table_refused}
use Rattle.sonic_find.specs.declared.outcome.PathOutcome.{PathOutcome}
use Rattle.sonic_find.specs.declared.outcome.PathOutcome.TheVariants.{Found, Missing, Fails}
use Rattle.sonic_find.specs.declared.span.Span.{Span}
use Rattle.sonic_find.specs.declared.table.Container.{Container}
use Rattle.sonic_parser.specs.Faults.{IsStopFor, IsErrorOf}
use Rattle.sonic_parser.specs.Honest.{IsHonest}
use Rattle.sonic_parser.proofs.HonestLemmas.{honest_of_memory}
use Rattle.sonic_parser.specs.declared.fault.Fault.{Fault}
use Rattle.sonic_parser.specs.declared.fault.Fault.TheVariants.{OutOfMemory, At}
use Rattle.sonic_pointer.specs.declared.rule.KeyRule.{KeyRule}
use Rattle.sonic_pointer.specs.declared.rule.KeyRule.TheVariants.{First}
use Rattle.sonic_text.proofs.Stops.{fault_within}
use Rattle.sonic_text.specs.Faults.{IsFault}
use Rattle.sonic_text.specs.Paths.{Path}
use Rattle.sonic_text.specs.Strings.{strict}
use Rattle.sonic_text.specs.Values.{IsValue}
use Rattle.sonic_text.specs.declared.stop.Stop.{Stop}

-- as many paths are told as there are outcomes
told_long : {os : List Outcome} {xs : List (PathOutcome Span)} → AreTold os xs → length xs ≡ length os
told_long all_told = refl
told_long (one_told x all) = ap suc (told_long all)

-- one path is told one thing
pub one_slot : {r : KeyRule} {t : List ℕ} {is_bytes : Bool} {path : Path} {xs : List (PathOutcome Span)} → IsEachAnswerBy r t is_bytes (path ∷ []) (outcomes xs) → length xs ≡ 1
one_slot x = go x.lead x.come_to
  where
    go : {r : KeyRule} {t : List ℕ} {i : ℕ} {is_bytes : Bool} {path : Path} {os : List Outcome} {xs : List (PathOutcome Span)} → AllLeadFrom r t i (path ∷ []) os
        → ComeToEach t is_bytes os (outcomes xs) → length xs ≡ 1
    go (one_more l no_more) (each_told cuts reach utf8 told) = told_long told

-- a list of one holds its first
pub only_one : {X : Type 0} (xs : List X) (d : X) → length xs ≡ 1 → xs ≡ get_or xs 0 d ∷ []
only_one [] d e = absurd (omega (arith, e))
only_one (x ∷ []) d e = refl
only_one (x ∷ y ∷ xs) d e = absurd (omega (arith, e))

-- what one path is told is of where it leads
record ToldOne (r : KeyRule) (t : List ℕ) (path : Path) (x : PathOutcome Span) : Type 0 where
  pub outcome : Outcome
  pub leads : LeadsUnder r t path outcome
  pub told : IsTold outcome x

told_one : {r : KeyRule} {t : List ℕ} {is_bytes : Bool} {path : Path} {x : PathOutcome Span} → IsEachAnswerBy r t is_bytes (path ∷ []) (outcomes (x ∷ [])) → ToldOne r t path x
told_one y = go y.lead y.come_to
  where
    go : {r : KeyRule} {t : List ℕ} {is_bytes : Bool} {path : Path} {os : List Outcome} {x : PathOutcome Span} → AllLeadBy r t (path ∷ []) os
        → ComeToEach t is_bytes os (outcomes (x ∷ [])) → ToldOne r t path x
    go (one_more l no_more) (each_told cuts reach utf8 (one_told told all_told)) = record { outcome = _; leads = l; told = told }

-- a value that is found is there
pub found_there : {r : KeyRule} {t : List ℕ} {is_bytes : Bool} {path : Path} {x : Span} → IsEachAnswerBy r t is_bytes (path ∷ []) (outcomes (Found x ∷ [])) → IsValue strict t x.start x.end
found_there {path = path} y = let one = told_one y in go path one.leads one.told
  where
    go : {r : KeyRule} {t : List ℕ} (path : Path) {o : Outcome} {x : Span} → LeadsUnder r t path o → IsTold o (Found x) → IsValue strict t x.start x.end
    go path l told_found = found_value path l

-- and what isn't has a place in the text
pub missing_within : {r : KeyRule} {t : List ℕ} {is_bytes : Bool} {path : Path} {q : ℕ} → IsEachAnswerBy r t is_bytes (path ∷ []) (outcomes (Missing q ∷ [])) → q ≤ length t
missing_within {path = path} y = let one = told_one y in go path one.leads one.told
  where
    go : {r : KeyRule} {t : List ℕ} (path : Path) {o : Outcome} {q : ℕ} → LeadsUnder r t path o → IsTold o (Missing q) → q ≤ length t
    go path l (told_missing {q}) = (let w = need_within path (lacks q) l (λ s e. absurd cc) in omega (arith, w.1))
    go path l (told_empty {q}) = (let w = need_within path _ l (λ s e. absurd cc) in omega (arith, w.1))

pub fails_within : {r : KeyRule} {t : List ℕ} {is_bytes : Bool} {path : Path} {s : Stop} → IsEachAnswerBy r t is_bytes (path ∷ []) (outcomes (Fails s ∷ [])) → s.place ≤ length t
fails_within {path = path} y = let one = told_one y in go path one.leads one.told
  where
    go : {r : KeyRule} {t : List ℕ} (path : Path) {o : Outcome} {s : Stop} → LeadsUnder r t path o → IsTold o (Fails s) → s.place ≤ length t
    go path l (told_fails {s} other) = (let w = need_within path (fails s) l (λ s e. absurd cc) in omega (arith, w.1))

-- the fault of a container that wasn't read before is the path's
pub unread_cut : {t : List ℕ} {path : Path} {x : Container} {s : Stop} (is_bytes : Bool) → IsUnread t path x → IsFault strict t x.start s → IsTableStop First t is_bytes path s
unread_cut {path = path} {s = s} is_bytes at f =
    let leads = at.leads (cut s) (cut_here f) in
    record {
      none = has_error (record { outcomes = cut s ∷ []; lead = one_more leads no_more; come_to = some_path_cut (first_in (cut s) []) (cut_is_fault path leads) });
      within = fault_within f;
    }

-- one path needs the text up to the end of its value
one_reach : {t : List ℕ} (i e : ℕ) → NoneCut (found i e ∷ []) × IsEachReach t (found i e ∷ []) e
one_reach i e = (
  (λ s c. elim (first_or_later (found i e) (cut s) [] c) [ inl same ↦ absurd cc | inr later ↦ none_in_empty (cut s) later ]),
  to_the_last_need {o = found i e} (λ l. elim (first_or_later (found i e) (lacks l.0) [] l.1) [ inl same ↦ absurd cc | inr later ↦ none_in_empty (lacks l.0) later ])
      (first_in (found i e) []) refl
      (λ p c. elim (first_or_later (found i e) p [] c) [ inl same ↦ rw (← same) (let l : e ≤ e = omega arith in l) | inr later ↦ absurd (none_in_empty p later) ]),
)

-- and is told where it is, where the text is UTF-8 so far
pub unread_found : {t : List ℕ} {path : Path} {x : Container} {e : ℕ} (is_bytes : Bool) → IsUnread t path x → IsValue strict t x.start e → (is_bytes ≡ true → IsUtf8 (take e t))
    → IsEachAnswerBy First t is_bytes (path ∷ []) (outcomes (Found (record { start = x.start; end = e }) ∷ []))
unread_found {x = x} {e} is_bytes at value utf8 =
    let reach = one_reach x.start e in
    record {
      outcomes = found x.start e ∷ [];
      lead = one_more (at.leads _ (found_here value)) no_more;
      come_to = each_told reach.0 reach.1 utf8 (one_told told_found all_told);
    }

-- or the first place where it isn't
pub unread_broken : {t : List ℕ} {path : Path} {x : Container} {e : ℕ} {is_bytes : Bool} {s : Stop} → IsUnread t path x → IsValue strict t x.start e → is_bytes ≡ true
    → ¬ IsUtf8 (take e t) → s ≡ record { place = valid_up_to (take e t); code = InvalidUTF8 } → s.place ≤ length t → IsTableStop First t is_bytes path s
unread_broken {x = x} {e} at value b broken is within =
    let reach = one_reach x.start e in
    record {
      none = has_error (record {
        outcomes = found x.start e ∷ [];
        lead = one_more (at.leads _ (found_here value)) no_more;
        come_to = need_broken reach.0 reach.1 b broken is;
      });
      within = within;
    }

-- the path's own error is why there is no table
pub error_stops : {r : KeyRule} {t : List ℕ} {is_bytes : Bool} {path : Path} {s : Stop} → IsEachError r t is_bytes (path ∷ []) s → IsTableStop r t is_bytes path s
error_stops x = record { none = has_error x.answer; within = x.within }

-- a path that leads to a container has no such reason
none_refused : {r : KeyRule} {t : List ℕ} {is_bytes : Bool} {path : Path} {s : Stop} → HasTable r t is_bytes path → IsNoTable r t is_bytes path s → ⊥
none_refused {r} {t} {is_bytes} {path} has (has_error x) =
    let clash = (each_answer_one r t is_bytes (path ∷ [])).one _ _ has.leads x in absurd cc
none_refused {r} {t} {is_bytes} {path} has (is_missing x e) =
    let clash = (each_answer_one r t is_bytes (path ∷ [])).one _ _ has.leads x in absurd cc
none_refused {r} {t} {is_bytes} {path} has (has_failed x) =
    let clash = (each_answer_one r t is_bytes (path ∷ [])).one _ _ has.leads x in absurd cc
none_refused {r} {t} {is_bytes} {path} has (is_scalar {x = y} x other e) =
    let same : outcomes (Found has.container ∷ []) ≡ outcomes (Found y ∷ []) = (each_answer_one r t is_bytes (path ∷ [])).one _ _ has.leads x in
    let one : has.container ≡ y = cc in
    other has.kind (rw one at has.opens)

pub table_only_out : {r : KeyRule} {t : List ℕ} {is_bytes : Bool} {path : Path} (fault : Fault) → HasTable r t is_bytes path → IsStopFor (IsTableStop r t is_bytes path) fault
    → fault ≡ OutOfMemory
table_only_out OutOfMemory has x = refl
table_only_out (At s) has x = absurd (none_refused has x.none)

-- a stop is reported as a refusal
pub table_refusal_of : {r : KeyRule} {t : List ℕ} {is_bytes : Bool} {path : Path} {e : Error} (fault : Fault) → IsStopFor (IsTableStop r t is_bytes path) fault
    → IsErrorOf t fault e → IsTableRefusal r t is_bytes path e
table_refusal_of OutOfMemory x e = table_out_of_memory e
table_refusal_of (At s) x e = table_refused s x.none e

-- which is honest
of_no_table : {r : KeyRule} {t : List ℕ} {is_bytes : Bool} {path : Path} {s : Stop} {e : Error} → IsNoTable r t is_bytes path s → IsErrorAt e s.code t s.place → IsHonest strict t 0 e
of_no_table (has_error x) e = honest_of_each (each_refused _ x e)
of_no_table (is_missing x is) e = of_other (other_stop is unknown_other) e
of_no_table {path = path} (has_failed x) e = let one = told_one x in go path one.leads one.told e
  where
    go : {r : KeyRule} {t : List ℕ} (path : Path) {o : Outcome} {s : Stop} {e : Error} → LeadsUnder r t path o → IsTold o (Fails s) → IsErrorAt e s.code t s.place
        → IsHonest strict t 0 e
    go path l (told_fails other) e = of_other (fails_other path l) e
of_no_table (is_scalar x other is) e = of_other (other_stop is (mismatch_other _)) e

pub honest_of_table : {r : KeyRule} {t : List ℕ} {is_bytes : Bool} {path : Path} {e : Error} → IsTableRefusal r t is_bytes path e → IsHonest strict t 0 e
honest_of_table (table_out_of_memory x) = honest_of_memory x
honest_of_table (table_refused s none x) = of_no_table none x
