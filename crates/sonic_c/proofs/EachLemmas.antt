-- What is told of each path is what a call comes to.
use Rattle.std.proofs.Common.{◌≡◌, ◌∙◌, refl, ap, ℕ, suc, ◌≤◌, true, List, [], ◌++◌, length, take, drop, take_all, arith}
use Rattle.std.proofs.Math.ListN.{drop_of_length-le}
use Rattle.std.proofs.lemmas.List.{append-nil, nil_from_length}
use Rattle.std.specs.Prelude.{map}
use Rattle.sonic_error.specs.declared.error.Error.{Error}
use Rattle.sonic_find.specs.Answers.{no_more}
use Rattle.sonic_find.specs.Outcomes.{AreTold, all_told, one_told, EachAnswer, ComeToEach, no_path_asks, each_told, IsEachAnswerBy, IsEachRefusalBy, each_out_of_memory, each_refused}
use Rattle.sonic_find.specs.Paths.{Outcome as PathEnd}
use Rattle.sonic_find.specs.declared.outcome.PathOutcome.{PathOutcome}
use Rattle.sonic_find.specs.declared.span.Span.{Span as Slot}
use Rattle.sonic_pointer.specs.declared.rule.KeyRule.{KeyRule}
use Rattle.sonic_pointer.specs.declared.rule.KeyRule.TheVariants.{First}
use Rattle.sonic_text.specs.Paths.{Path}
use Rattle.sonic_c.specs.Each.{told_outcome, EachCells, IsEachListCall, all_paths_told, text_refused, no_memory_left, IsEachCall, lines_say, lines_are_bad, no_memory_for_lines, paths_miscounted}
use Rattle.sonic_c.specs.Internal.Each.{TellsEach}
use Rattle.sonic_c.specs.Internal.Told.{RefusesLines, no_room, bad_lines, wrong_count, TellsError, no_memory, told}
use Rattle.sonic_c.specs.Kept.{PathList}
use Rattle.sonic_c.specs.Statuses.{status_ok}
use Rattle.sonic_c.specs.declared.outcome.Outcome.{Outcome}
use Rattle.sonic_c.proofs.ListLemmas.{lead_long}
use Rattle.sonic_c.proofs.ToldLemmas.{numbers_at}

-- each path is told something
told_long : {os : List PathEnd} {xs : List (PathOutcome Slot)} → AreTold os xs → length xs ≡ length os
told_long all_told = refl
told_long (one_told x xs) = ap suc (told_long xs)

come_long : {t : List ℕ} {os : List PathEnd} {xs : List (PathOutcome Slot)} → ComeToEach t true os (EachAnswer.outcomes xs) → length xs ≡ length os
come_long no_path_asks = refl
come_long (each_told cuts reach utf8 x) = told_long x

pub each_long : {rule : KeyRule} {t : List ℕ} {paths : List Path} {xs : List (PathOutcome Slot)} → IsEachAnswerBy rule t true paths (EachAnswer.outcomes xs) → length xs ≡ length paths
each_long a = come_long a.come_to ∙ lead_long a.lead

-- what is told of each path is what a call comes to
pub outcomes_told : {t : List ℕ} {list : PathList} {before after : EachCells} {status : ℕ} → length list.paths ≡ length before.outcomes → TellsEach t list after.outcomes
    → status ≡ status_ok → after.error ≡ before.error → IsEachListCall t list before after status
outcomes_told long x is same = all_paths_told long x.answer is x.shown same

-- and so is an error
pub error_told : {t : List ℕ} {list : PathList} {e : Error} {before after : EachCells} {status : ℕ} → length list.paths ≡ length before.outcomes
    → IsEachRefusalBy list.rule t true list.paths e → TellsError e before.error after.error status → after.outcomes ≡ before.outcomes
    → IsEachListCall t list before after status
error_told long r (no_memory m is same) kept = no_memory_left is same kept
error_told long (each_out_of_memory plain) (told other is numbers) kept = absurd (other plain.code)
error_told long (each_refused s a at) (told other is numbers) kept = text_refused long a is (numbers_at at numbers) kept

-- and lines that are refused
pub each_lines_refused : {t lines : List ℕ} {before after : EachCells} {status : ℕ} → RefusesLines lines (length before.outcomes) before.error after.error status
    → after.outcomes ≡ before.outcomes → IsEachCall t lines before after status
each_lines_refused (no_room is same) kept = no_memory_for_lines is same kept
each_lines_refused (bad_lines {n} is bad line) kept = lines_are_bad bad is line kept
each_lines_refused (wrong_count {paths} is says other line) kept = lines_say says (paths_miscounted other is line kept)

-- as many as there are outcomes are all that are told
pub all_outcomes_filled : (xs : List (PathOutcome Slot)) (before : List Outcome) (n : ℕ) → length xs ≡ length before → length xs ≤ n
    → map told_outcome (take n xs) ++ drop n before ≡ map told_outcome xs
all_outcomes_filled xs before n same past =
    let all : take n xs ≡ xs = take_all n xs past in
    let none : drop n before ≡ [] = drop_of_length-le before {i = n} (omega (arith, same, past)) in
    rw (all, none) (append-nil (map told_outcome xs))

-- no path is told anything
pub none_told : (t : List ℕ) {list : PathList} {before after : EachCells} {status : ℕ} → length list.paths ≡ length before.outcomes → length before.outcomes ≡ 0 → status ≡ status_ok
    → after.outcomes ≡ before.outcomes → after.error ≡ before.error → IsEachListCall t list before after status
none_told t {list} {before} long none is kept same =
    let no_paths : list.paths ≡ [] = nil_from_length list.paths (long ∙ none) in
    all_paths_told long (record { outcomes = []; lead = rw no_paths no_more; come_to = no_path_asks }) is (kept ∙ nil_from_length before.outcomes none) same
