-- The errors that answer a document, a path and a list of paths are honest.
use Rattle.std.proofs.Common.{◌≡◌, ◌≢◌, ◌∙◌, ℕ, ◌+◌, ◌-◌, ◌==◌, ◌&&◌, Bool, List, [], ◌∷◌, arith, refl, sym}
use Rattle.sonic_error.specs.Errors.{IsErrorAt}
use Rattle.sonic_error.specs.declared.code.ErrorCode.TheVariants.{Message, EofWhileParsing, InvalidUTF8, TrailingCharacters, DuplicateKey, GetUnknownKeyInObject}
use Rattle.sonic_error.specs.declared.code.ErrorCode.{ErrorCode}
use Rattle.sonic_error.specs.declared.error.Error.{Error}
use Rattle.sonic_error.specs.declared.json_type.Note.{Note}
use Rattle.sonic_text.specs.Documents.{IsRootFault}
use Rattle.sonic_text.specs.Paths.{Path, key}
use Rattle.sonic_text.specs.Places.{byte, after_space}
use Rattle.sonic_text.specs.Strings.{strict}
use Rattle.sonic_text.specs.Values.{opening, closing}
use Rattle.sonic_text.specs.declared.kind.Kind.TheVariants.{Array, Object}
use Rattle.sonic_text.specs.declared.kind.Kind.{Kind}
use Rattle.sonic_text.specs.declared.stop.Stop.{Stop}
use Rattle.sonic_parser.specs.Honest.{IsOfValue, IsHonest}
use Rattle.sonic_parser.proofs.HonestLemmas.{honest_of_fault, honest_of_other, honest_of_memory}
use Rattle.sonic_find.specs.Answers.ComeTo.{failing, cutting, lacking, breaking}
use Rattle.sonic_find.specs.Answers.ComesToAlone.{value_broken, key_lacked, path_failed, path_cut}
use Rattle.sonic_find.specs.Answers.{Answer, ComesToAlone, ComeTo, AllLeadBy}
use Rattle.sonic_find.specs.Causes.IsGetRefusal.{no_memory, refused}
use Rattle.sonic_find.specs.Causes.IsRefusalBy.{out_of_memory as no_room, answered}
use Rattle.sonic_find.specs.Causes.{IsRefusalBy, IsGetRefusal}
use Rattle.sonic_find.specs.Documents.IsInvalid.{no_root, text_after, broken_text}
use Rattle.sonic_find.specs.Documents.IsInvalidError.{out_of_memory, invalid}
use Rattle.sonic_find.specs.Documents.{IsInvalid, IsInvalidError}
use Rattle.sonic_find.specs.Outcomes.{EachAnswer, ComeToEach, some_path_cut, some_path_lacks, need_broken, IsEachRefusalBy, each_out_of_memory, each_refused}
use Rattle.sonic_find.specs.Paths.EvaluatesBy.{goes_on, repeats, leads_nowhere}
use Rattle.sonic_find.specs.Paths.{Outcome, found, lacks, fails, cut, kind_of, empty_code, past_end, nowhere, EvaluatesBy, Leads}
use Rattle.sonic_pointer.specs.declared.rule.KeyRule.{KeyRule}
use Rattle.sonic_find.proofs.AnswerLemmas.One.{nearest_in}
use Rattle.sonic_find.proofs.AnswerLemmas.Walk.{lead_from}
use Rattle.sonic_find.proofs.PathLemmas.Outcome.{either, cut_is_fault}

-- the code says nothing of the value of the text
pub record IsOther (code : ErrorCode) : Type 0 where
  pub not_end : code ≢ EofWhileParsing
  pub not_of_value : ¬ IsOfValue code

-- text after the value, bytes that aren't UTF-8, a key that comes twice, and an unknown one
trailing_other : IsOther TrailingCharacters
trailing_other = record { not_end = λ e. cc; not_of_value = λ of. of.1 refl }

pub broken_other : IsOther InvalidUTF8
broken_other = record { not_end = λ e. cc; not_of_value = λ of. of.2 refl }

duplicate_other : IsOther DuplicateKey
duplicate_other = record { not_end = λ e. cc; not_of_value = λ of. of.3 refl }

pub unknown_other : IsOther GetUnknownKeyInObject
unknown_other = record { not_end = λ e. cc; not_of_value = λ of. let y = of.0 in cc }

-- so does a stop with such a code
pub other_stop : {s : Stop} {p : ℕ} {code : ErrorCode} → s ≡ record { place = p; code = code } → IsOther code → IsOther s.code
other_stop e o = rw e o

-- and each with which a path fails
abbrev FailsOther : Outcome → Type 0
FailsOther (found i j) = Unit {0}
FailsOther (lacks q) = Unit {0}
FailsOther (fails s) = IsOther s.code
FailsOther (cut s) = Unit {0}

-- in an empty container
empty_other : (kind : Kind) → IsOther (empty_code kind)
empty_other Array = record { not_end = λ e. cc; not_of_value = λ of. let y = of.0 in cc }
empty_other Object = record { not_end = λ e. cc; not_of_value = λ of. let y = of.0 in cc }

-- past the end of one
past_other : (q : ℕ) (kind : Kind) → FailsOther (past_end kind q)
past_other q Array = record { not_end = λ e. cc; not_of_value = λ of. let y = of.0 in cc }
past_other q Object = tt

-- at a value of another kind
pub mismatch_other : (note : Note) → IsOther (Message note)
mismatch_other note = record { not_end = λ e. cc; not_of_value = λ of. let y = of.0 in cc }

-- where a node leads nowhere
nowhere_other : (t : List ℕ) (i q : ℕ) (kind : Kind) → FailsOther (nowhere t i q kind)
nowhere_other t i q kind =
    either FailsOther (byte t i == opening kind && byte t (after_space t (i + 1)) == closing kind) _ _ (empty_other kind)
    (either FailsOther (byte t i == opening kind) _ _ (past_other q kind) (mismatch_other _))

-- where a path fails
pub fails_other : {rule : KeyRule} {t : List ℕ} (path : Path) {i : ℕ} {s : Stop} → EvaluatesBy rule t i path (fails s) → IsOther s.code
fails_other [] e = elim e [ ]
fails_other (node ∷ rest) (goes_on l a) = fails_other rest a
fails_other (key k ∷ rest) (repeats y) = duplicate_other
fails_other {t = t} (node ∷ rest) {i} (leads_nowhere {j = j} x none e) = rw (← e) at (nowhere_other t i (j - 1) (kind_of node))

-- an error of such a code is honest
pub of_other : {t : List ℕ} {s : Stop} {e : Error} → IsOther s.code → IsErrorAt e s.code t s.place → IsHonest strict t 0 e
of_other o x = honest_of_other (λ z. o.not_end (sym x.code ∙ z)) (λ of. o.not_of_value (rw x.code at of))

-- and one of the root's fault
pub of_root : {t : List ℕ} {s : Stop} {e : Error} → IsRootFault t s → IsErrorAt e s.code t s.place → IsHonest strict t 0 e
of_root f x = honest_of_fault (omega arith) f x

-- why a text is no document
of_invalid : {t : List ℕ} {is_bytes : Bool} {s : Stop} {e : Error} → IsInvalid t is_bytes s → IsErrorAt e s.code t s.place → IsHonest strict t 0 e
of_invalid (no_root f) x = of_root f x
of_invalid (text_after y l is) x = of_other (other_stop is trailing_other) x
of_invalid (broken_text y b n is) x = of_other (other_stop is broken_other) x

pub honest_of_invalid : {t : List ℕ} {is_bytes : Bool} {e : Error} → IsInvalidError t is_bytes e → IsHonest strict t 0 e
honest_of_invalid (out_of_memory x) = honest_of_memory x
honest_of_invalid (invalid s h x) = of_invalid h x

-- the answer of one path
of_alone : {t : List ℕ} {is_bytes : Bool} {o : Outcome} {s : Stop} {e : Error} (path : Path) → Leads t path o → ComesToAlone t is_bytes o (Answer.error s)
    → IsErrorAt e s.code t s.place → IsHonest strict t 0 e
of_alone path l (value_broken b n is) x = of_other (other_stop is broken_other) x
of_alone path l (key_lacked is) x = of_other (other_stop is unknown_other) x
of_alone path l path_failed x = of_other (fails_other path l) x
of_alone path l path_cut x = of_root (cut_is_fault path l) x

pub honest_of_get : {t : List ℕ} {is_bytes : Bool} {path : Path} {e : Error} → IsGetRefusal t is_bytes path e → IsHonest strict t 0 e
honest_of_get (no_memory x) = honest_of_memory x
honest_of_get {path = path} (refused h) = of_alone path h.answer.leads h.answer.come_to h.error

-- the answer of a list of paths
of_paths : {t : List ℕ} {is_bytes : Bool} {paths : List Path} {os : List Outcome} {s : Stop} {e : Error} {rule : KeyRule} → AllLeadBy rule t paths os
    → ComeTo t is_bytes os (Answer.error s) → IsErrorAt e s.code t s.place → IsHonest strict t 0 e
of_paths {s = s} lead (failing n) x = (let y = lead_from (fails s) lead (nearest_in n) in of_other (fails_other y.path y.leads) x)
of_paths lead (cutting f c r) x = of_root r x
of_paths lead (lacking f c l r) x = of_root r x
of_paths lead (breaking f c r b n is) x = of_other (other_stop is broken_other) x

pub honest_of_refusal : {t : List ℕ} {is_bytes : Bool} {paths : List Path} {e : Error} {rule : KeyRule} → IsRefusalBy rule t is_bytes paths e → IsHonest strict t 0 e
honest_of_refusal (no_room x) = honest_of_memory x
honest_of_refusal (answered s h x) = of_paths h.lead h.come_to x

-- the answer of each of them
of_each : {t : List ℕ} {is_bytes : Bool} {paths : List Path} {os : List Outcome} {s : Stop} {e : Error} {rule : KeyRule} → AllLeadBy rule t paths os
    → ComeToEach t is_bytes os (EachAnswer.error s) → IsErrorAt e s.code t s.place → IsHonest strict t 0 e
of_each lead (some_path_cut c r) x = of_root r x
of_each lead (some_path_lacks c l r) x = of_root r x
of_each lead (need_broken c r b n is) x = of_other (other_stop is broken_other) x

pub honest_of_each : {t : List ℕ} {is_bytes : Bool} {paths : List Path} {e : Error} {rule : KeyRule} → IsEachRefusalBy rule t is_bytes paths e → IsHonest strict t 0 e
honest_of_each (each_out_of_memory x) = honest_of_memory x
honest_of_each (each_refused s h x) = of_each h.lead h.come_to x
