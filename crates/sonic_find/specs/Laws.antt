-- What the laws say of paths, of their answers, and of documents.
use Rattle.std.specs.Prelude.{◌≡◌, ◌⊎◌, ℕ, ◌+◌, Bool, List, [], ◌∷◌, Option, Some, None}
use Rattle.sonic_error.specs.declared.code.ErrorCode.TheVariants.{GetUnknownKeyInObject}
use Rattle.sonic_text.specs.declared.stop.Stop.{Stop}
use Rattle.sonic_text.specs.Paths.{Path}
use Rattle.sonic_find.specs.Answers.{Span, spans, error, IsGetAnswer, span_text}
use Rattle.sonic_find.specs.Paths.{Outcome, found, lacks, fails, cut, Leads}

-- this holds of something, and of nothing else
pub record ExactlyOne {A : Type 0} (Holds : A → Type 0) : Type 0 where
  pub some : (a : A) × Holds a
  pub one : (a b : A) → Holds a → Holds b → a ≡ b

-- this holds, or it doesn't for exactly one reason, and never both
pub record HoldsOrHasOneReason (Holds : Type 0) (Fails : Stop → Type 0) : Type 0 where
  pub some_reason : Holds ⊎ ((s : Stop) × Fails s)
  pub one_reason : (s r : Stop) → Fails s → Fails r → s ≡ r
  pub never_both : (s : Stop) → Holds → Fails s → ⊥

-- the entry says what get answers of the path: the span of its value, or none where an object lacks its key
pub data IsGetEntry (t : List ℕ) (is_bytes : Bool) (path : Path) : Option Span → Type 0 where
  value_got : {s : Span} → IsGetAnswer t is_bytes path (spans (Some s ∷ [])) → IsGetEntry t is_bytes path (Some s)
  key_missed : {q : ℕ} → IsGetAnswer t is_bytes path (error (record { place = q; code = GetUnknownKeyInObject })) → IsGetEntry t is_bytes path None

-- the entries say so of the paths, one by one
pub data AreGetAnswers (t : List ℕ) (is_bytes : Bool) : List Path → List (Option Span) → Type 0 where
  no_more_entries : AreGetAnswers t is_bytes [] []
  one_more_entry : {path : Path} {paths : List Path} {entry : Option Span} {entries : List (Option Span)} → IsGetEntry t is_bytes path entry
      → AreGetAnswers t is_bytes paths entries → AreGetAnswers t is_bytes (path ∷ paths) (entry ∷ entries)

-- the path finds the value of this span
abbrev pub Finds : List ℕ → Path → Span → Type 0
Finds t path s = Leads t path (found s.0 s.1)

-- a finds the value of this span, and in that value's own text b leads to the outcome
pub record LeadsInPart (t : List ℕ) (a b : Path) (part : Span) (o : Outcome) : Type 0 where
  pub first : Finds t a part
  pub next : Leads (span_text t part) b o

-- the stop in the whole text that is this one in the part from d on
abbrev pub stop_in_whole : ℕ → Stop → Stop
stop_in_whole d s = record { place = d + s.place; code = s.code }

-- and the outcome
abbrev pub outcome_in_whole : ℕ → Outcome → Outcome
outcome_in_whole d (found i j) = found (d + i) (d + j)
outcome_in_whole d (lacks q) = lacks (d + q)
outcome_in_whole d (fails s) = fails (stop_in_whole d s)
outcome_in_whole d (cut s) = cut (stop_in_whole d s)
