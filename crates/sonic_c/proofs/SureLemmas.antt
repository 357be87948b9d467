-- A look-up of paths in a text that is known to begin with a value never wants memory.
use Rattle.std.proofs.Common.{◌≢◌, ℕ, ◌+◌, ◌-◌, ◌==◌, ◌&&◌, sym, ◌∙◌, Bool, true, List, [], ◌∷◌, Ok, Err, Result, IfErr}
use Rattle.std.specs.Prelude.{Option}
use Rattle.sonic_error.specs.declared.code.ErrorCode.TheVariants.{NoMemory}
use Rattle.sonic_error.specs.declared.error.Error.{Error}
use Rattle.sonic_find.proofs.AnswerLemmas.One.{nearest_in}
use Rattle.sonic_find.proofs.AnswerLemmas.Walk.{lead_from}
use Rattle.sonic_find.proofs.PathLemmas.Outcome.{either}
use Rattle.sonic_find.specs.Answers.{Answer, AllLeadBy, ComeTo}
use Rattle.sonic_find.specs.Answers.ComeTo.{failing, cutting, lacking, breaking}
use Rattle.sonic_find.specs.Causes.{IsAnswerError}
use Rattle.sonic_find.specs.Paths.{Outcome, found, lacks, fails, cut, kind_of, empty_code, past_end, nowhere, EvaluatesBy}
use Rattle.sonic_find.specs.Paths.EvaluatesBy.{goes_on, repeats, leads_nowhere}
use Rattle.sonic_find.specs.declared.span.Span.{Span as Slot}
use Rattle.sonic_pointer.specs.declared.rule.KeyRule.{KeyRule}
use Rattle.sonic_text.proofs.Stops.{fault_not}
use Rattle.sonic_text.specs.Paths.{Path, key}
use Rattle.sonic_text.specs.Places.{byte, after_space}
use Rattle.sonic_text.specs.Values.{opening, closing}
use Rattle.sonic_text.specs.declared.kind.Kind.{Kind}
use Rattle.sonic_text.specs.declared.kind.Kind.TheVariants.{Array, Object}
use Rattle.sonic_text.specs.declared.stop.Stop.{Stop}
use Rattle.sonic_c.specs.Internal.Told.{TellsAll, TellsError, no_memory, told}
use Rattle.sonic_c.specs.Statuses.{status_no_memory}
use Rattle.sonic_c.specs.Told.{ManyCells}
use Rattle.sonic_c.specs.declared.fault.Fault.{Fault}

-- a path fails for another reason
abbrev FailsOtherwise : Outcome → Type 0
FailsOtherwise (found i j) = Unit {0}
FailsOtherwise (lacks q) = Unit {0}
FailsOtherwise (fails s) = s.code ≢ NoMemory
FailsOtherwise (cut s) = Unit {0}

-- in an empty container
empty_otherwise : (kind : Kind) → empty_code kind ≢ NoMemory
empty_otherwise Array = λ e. cc
empty_otherwise Object = λ e. cc

-- past the end of one
past_otherwise : (q : ℕ) (kind : Kind) → FailsOtherwise (past_end kind q)
past_otherwise q Array = λ e. cc
past_otherwise q Object = tt

-- and where a node leads nowhere
nowhere_otherwise : (t : List ℕ) (i q : ℕ) (kind : Kind) → FailsOtherwise (nowhere t i q kind)
nowhere_otherwise t i q kind =
    either FailsOtherwise (byte t i == opening kind && byte t (after_space t (i + 1)) == closing kind) _ _ (empty_otherwise kind)
    (either FailsOtherwise (byte t i == opening kind) _ _ (past_otherwise q kind) (λ e. cc))

fails_otherwise : {rule : KeyRule} {t : List ℕ} (path : Path) {i : ℕ} {s : Stop} → EvaluatesBy rule t i path (fails s) → s.code ≢ NoMemory
fails_otherwise [] e = elim e [ ]
fails_otherwise (node ∷ rest) (goes_on l a) = fails_otherwise rest a
fails_otherwise (key k ∷ rest) (repeats y) = λ e. cc
fails_otherwise {t = t} (node ∷ rest) {i} (leads_nowhere {j = j} x none e) = rw (← e) at (nowhere_otherwise t i (j - 1) (kind_of node))

-- so the answer of paths is another error
answer_otherwise : {rule : KeyRule} {t : List ℕ} {is_bytes : Bool} {paths : List Path} {os : List Outcome} {s : Stop} → AllLeadBy rule t paths os
    → ComeTo t is_bytes os (Answer.error s) → s.code ≢ NoMemory
answer_otherwise {s = s} lead (failing n) = (let y = lead_from (fails s) lead (nearest_in n) in fails_otherwise y.path y.leads)
answer_otherwise lead (cutting f c r) = fault_not r
answer_otherwise lead (lacking f c l r) = fault_not r
answer_otherwise lead (breaking f c r b n is) = λ e. absurd cc

-- and that is told
error_otherwise : {t : List ℕ} {paths : List Path} {e : Error} {before after : Fault} {status : ℕ} → IsAnswerError t true paths e → TellsError e before after status
    → status ≢ status_no_memory
error_otherwise x (no_memory m is same) = absurd (answer_otherwise x.answer.lead x.answer.come_to (sym x.error.code ∙ m))
error_otherwise x (told other is numbers) = λ e. absurd cc

pub sure_told : (t : List ℕ) (paths : List Path) (slots : List (Option Slot)) (found : Result (Unit {0}) Error) (before after : ManyCells) (status : ℕ)
    → IfErr found (IsAnswerError t true paths) → TellsAll found slots before after status → status ≢ status_no_memory
sure_told t paths slots (Ok done) before after status x (is, shown, same) = λ e. absurd cc
sure_told t paths slots (Err e) before after status x (tells, kept) = error_otherwise x tells
