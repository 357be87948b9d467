-- The one text that the rows of lines are, and the rows of two lists of lines.
use Rattle.std.proofs.Common.{◌≡◌, ◌≢◌, ◌∙◌, ◌⊎◌, inl, inr, ℕ, zero, suc, take, ◌+◌, ◌-◌, ◌<◌, ◌≤◌, ◌↔◌, Bool, true, false, List, [], ◌∷◌, ◌++◌, length, drop, append_assoc, refl, sym, ap, arith}
use Rattle.std.proofs.lemmas.Bool.{cases_Bool, cases_lt}
use Rattle.std.proofs.lemmas.List.{append-nil, drop_more, length-drop, take_more, length-take-le}
use Rattle.std.proofs.Math.ListN.{drop_of_length-le}
use Rattle.sonic_find.proofs.AnswerLemmas.Each.{each_answer_one}
use Rattle.sonic_find.proofs.AnswerLemmas.One.{answer_one}
use Rattle.sonic_find.specs.Answers.{Answer, IsAnswer}
use Rattle.sonic_find.specs.Laws.{ExactlyOne}
use Rattle.sonic_lines.specs.LineRows.{Columns, AreColumns, all_answered, each_answered, IsLineStop, all_refused, each_refused, IsBlankLine, entries_text, outcomes_text, IsErrorLine, HasErrorRow, error_here, error_later, IsRow, blank_row, entries_row, refused_row, AreRowsOf, no_row, one_more_row, AreRows}
use Rattle.sonic_lines.specs.LineTexts.{entry_text, outcome_text, error_text}
use Rattle.sonic_lines.specs.Streams.{lines_of, EndsLines}
use Rattle.sonic_lines.proofs.StreamLemmas.{lines_append}
use Rattle.std.proofs.lemmas.Option.{get_or_from_slice_get, slice_get_within}
use Rattle.std.specs.Prelude.{Some, map, slice_get}
use Rattle.sonic_find.specs.Outcomes.{EachAnswer, IsEachAnswerBy, NoneTold, told_span}
use Rattle.sonic_find.specs.Parts.{AreFoundParts}
use Rattle.sonic_find.specs.declared.outcome.PathOutcome.{PathOutcome}
use Rattle.sonic_find.specs.declared.outcome.PathOutcome.TheVariants.{Found, Missing, Fails}
use Rattle.sonic_pointer.specs.declared.rule.KeyRule.TheVariants.{First}
use Rattle.sonic_text.specs.declared.stop.Stop.{Stop}
use Rattle.sonic_find.specs.declared.span.Span as slot
use Rattle.sonic_lines.specs.Internal.Rows.{AreWithin, tab_before}
use Rattle.std.specs.Prelude.{codes}
use Rattle.std.specs.Fmt.{decimal}
use Rattle.sonic_error.specs.Errors.{error_code, error_offset}
use Rattle.sonic_error.specs.declared.code.ErrorCode.TheVariants.{NoMemory}
use Rattle.sonic_error.specs.declared.error.Error.{Error}
use Rattle.sonic_parser.specs.Faults.{IsErrorOf, IsStopFor}
use Rattle.sonic_parser.specs.declared.fault.Fault.{Fault}
use Rattle.sonic_parser.specs.declared.fault.Fault.TheVariants.{OutOfMemory, At}
use Rattle.sonic_text.proofs.Values.{value-longer}
use Rattle.sonic_text.specs.Places.{after_space}

-- columns have a text or an error
pub columns_some : (columns : Columns) (line : List ℕ) → ((text : List ℕ) × AreColumns true columns line text) ⊎ ((s : Stop) × IsLineStop true columns line s)
columns_some columns line = elim (cases_Bool columns.each) [
  | inl e ↦ (let a = (each_answer_one First line true columns.paths).some in of_each e a.0 a.1)
  | inr e ↦ (let a = (answer_one line true columns.paths).some in of_all e a.0 a.1)
] where
  of_all : {columns : Columns} {line : List ℕ} → columns.each ≡ false → (a : Answer) → IsAnswer line true columns.paths a
      → ((text : List ℕ) × AreColumns true columns line text) ⊎ ((s : Stop) × IsLineStop true columns line s)
  of_all e (Answer.spans entries) is = inl (_, all_answered e is refl)
  of_all e (Answer.error s) is = inr (s, all_refused e is)

  of_each : {columns : Columns} {line : List ℕ} → columns.each ≡ true → (a : EachAnswer) → IsEachAnswerBy First line true columns.paths a
      → ((text : List ℕ) × AreColumns true columns line text) ⊎ ((s : Stop) × IsLineStop true columns line s)
  of_each e (EachAnswer.outcomes told) is = inl (_, each_answered e is refl)
  of_each e (EachAnswer.error s) is = inr (s, each_refused e is)

-- they aren't answered in both ways
both_ways : {b : Bool} → b ≡ false → b ≡ true → ⊥
both_ways e f = (let clash = sym e ∙ f in absurd cc)

-- and so only one
text_one : {columns : Columns} {line text other : List ℕ} → AreColumns true columns line text → AreColumns true columns line other → text ≡ other
text_one {columns} {line} (all_answered {entries = x} e is f) (all_answered {entries = y} g ys h) =
    let same : Answer.spans x ≡ Answer.spans y = (answer_one line true columns.paths).one (Answer.spans x) (Answer.spans y) is ys in
    let z : x ≡ y = cc in
    rw (f, h, z) refl
text_one (all_answered e is f) (each_answered g ys h) = absurd (both_ways e g)
text_one (each_answered e is f) (all_answered g ys h) = absurd (both_ways g e)
text_one {columns} {line} (each_answered {told = x} e is f) (each_answered {told = y} g ys h) =
    let same : EachAnswer.outcomes x ≡ EachAnswer.outcomes y = (each_answer_one First line true columns.paths).one (EachAnswer.outcomes x) (EachAnswer.outcomes y) is ys in
    let z : x ≡ y = cc in
    rw (f, h, z) refl

stop_one : {columns : Columns} {line : List ℕ} {s r : Stop} → IsLineStop true columns line s → IsLineStop true columns line r → s ≡ r
stop_one {columns} {line} {s} {r} (all_refused e is) (all_refused g ys) =
    let same : Answer.error s ≡ Answer.error r = (answer_one line true columns.paths).one (Answer.error s) (Answer.error r) is ys in cc
stop_one (all_refused e is) (each_refused g ys) = absurd (both_ways e g)
stop_one (each_refused e is) (all_refused g ys) = absurd (both_ways g e)
stop_one {columns} {line} {s} {r} (each_refused e is) (each_refused g ys) =
    let same : EachAnswer.error s ≡ EachAnswer.error r = (each_answer_one First line true columns.paths).one (EachAnswer.error s) (EachAnswer.error r) is ys in cc

text_or_stop : {columns : Columns} {line text : List ℕ} {s : Stop} → AreColumns true columns line text → IsLineStop true columns line s → ⊥
text_or_stop {columns} {line} {s = s} (all_answered {entries = x} e is f) (all_refused g ys) =
    let clash : Answer.spans x ≡ Answer.error s = (answer_one line true columns.paths).one (Answer.spans x) (Answer.error s) is ys in cc
text_or_stop (all_answered e is f) (each_refused g ys) = both_ways e g
text_or_stop (each_answered e is f) (all_refused g ys) = both_ways g e
text_or_stop {columns} {line} {s = s} (each_answered {told = x} e is f) (each_refused g ys) =
    let clash : EachAnswer.outcomes x ≡ EachAnswer.error s = (each_answer_one First line true columns.paths).one (EachAnswer.outcomes x) (EachAnswer.error s) is ys in cc

-- a line has a row
row_some : (columns : Columns) (n : ℕ) (line : List ℕ) → (row : List ℕ) × IsRow columns n line row
row_some columns n line = elim (cases_lt (after_space line 0) (length line)) [
  | inr blank ↦ ([], blank_row blank refl)
  | inl filled ↦
      let not_blank : ¬ IsBlankLine line = λ blank. absurd (omega arith) in
      elim (columns_some columns line) [
        | inl text ↦ (_, entries_row not_blank text.1 refl)
        | inr stop ↦ (_, refused_row not_blank stop.1 refl)
      ]
]

-- and no other
row_one : {columns : Columns} {n : ℕ} {line row other : List ℕ} → IsRow columns n line row → IsRow columns n line other → row ≡ other
row_one (blank_row b e) (blank_row c f) = e ∙ sym f
row_one (blank_row b e) (entries_row g is f) = absurd (g b)
row_one (blank_row b e) (refused_row g is f) = absurd (g b)
row_one (entries_row g is e) (blank_row b f) = absurd (g b)
row_one (entries_row g is e) (entries_row h ys f) = rw (e, f, text_one is ys) refl
row_one (entries_row g is e) (refused_row h ys f) = absurd (text_or_stop is ys)
row_one (refused_row g is e) (blank_row b f) = absurd (g b)
row_one (refused_row g is e) (entries_row h ys f) = absurd (text_or_stop ys is)
row_one (refused_row g is e) (refused_row h ys f) = rw (e, f, stop_one is ys) refl

-- lines have rows
rows_some : (columns : Columns) (n : ℕ) (lines : List (List ℕ)) → (rows : List ℕ) × AreRowsOf columns n lines rows
rows_some columns n [] = ([], no_row)
rows_some columns n (line ∷ lines) =
    let first = row_some columns (n + 1) line in
    let rest = rows_some columns (n + 1) lines in
    (first.0 ++ rest.0, one_more_row first.1 rest.1 refl)

-- and no others
rows_one : {columns : Columns} {n : ℕ} {lines : List (List ℕ)} {xs ys : List ℕ} → AreRowsOf columns n lines xs → AreRowsOf columns n lines ys → xs ≡ ys
rows_one no_row no_row = refl
rows_one (one_more_row r rs e) (one_more_row q qs f) = rw (e, f, row_one r q, rows_one rs qs) refl

-- a stream has its rows
pub stream_rows : (columns : Columns) (n : ℕ) (stream : List ℕ) → ExactlyOne (AreRows columns n stream)
stream_rows columns n stream = record { some = rows_some columns n (lines_of stream); one = λ a b x y. rows_one x y }

-- the rows of two lists of lines
rows_append : {columns : Columns} {n m : ℕ} {some more : List (List ℕ)} {xs ys : List ℕ} → AreRowsOf columns n some xs → m ≡ n + length some
    → AreRowsOf columns m more ys → AreRowsOf columns n (some ++ more) (xs ++ ys)
rows_append {m = m} (no_row {n}) e is = let k : m ≡ n = omega arith in rw (← k) is
rows_append {ys = ys} (one_more_row {row = row} {rest} r rs f) e is = one_more_row r (rows_append rs (omega arith) is) (rw f (append_assoc row rest ys))

-- and back
rows_split : {columns : Columns} {n m : ℕ} (some : List (List ℕ)) {more : List (List ℕ)} {zs : List ℕ} → m ≡ n + length some → AreRowsOf columns n (some ++ more) zs
    → (xs : List ℕ) × (ys : List ℕ) × AreRowsOf columns n some xs × AreRowsOf columns m more ys × (zs ≡ xs ++ ys)
rows_split {columns} {n} {m} [] {more} {zs} e is = let k : m ≡ n = omega arith in ([], zs, no_row, rw k is, refl)
rows_split {n = n} (line ∷ lines) e (one_more_row {row = row} r rs f) =
    let (xs, ys, a, b, g) = rows_split {n = n + 1} lines (omega arith) rs in
    (row ++ xs, ys, one_more_row r a refl, b, f ∙ ap (λ t. row ++ t) g ∙ sym (append_assoc row xs ys))

-- the rows of two streams, of which the first ends lines
pub join_rows : {columns : Columns} {n m : ℕ} (a b : List ℕ) {xs ys : List ℕ} → EndsLines a → m ≡ n + length (lines_of a) → AreRows columns n a xs → AreRows columns m b ys
    → AreRows columns n (a ++ b) (xs ++ ys)
join_rows a b ends e is more = rw (lines_append a b ends) (rows_append is e more)

pub split_rows : {columns : Columns} {n : ℕ} (a b : List ℕ) {zs : List ℕ} → EndsLines a → AreRows columns n (a ++ b) zs
    → (xs : List ℕ) × (ys : List ℕ) × AreRows columns n a xs × AreRows columns (n + length (lines_of a)) b ys × (zs ≡ xs ++ ys)
split_rows a b ends is = rows_split (lines_of a) refl (rw (lines_append a b ends) at is)

-- the rows of the lines before a place of the stream were appended, and what is left of the stream has a row with an error unless one of them had
pub record ArePassed (columns : Columns) (before : ℕ) (stream : List ℕ) (number start : ℕ) (has_error : Bool) (old now : List ℕ) : Type 0 where
  pub text : List ℕ
  pub now_is : now ≡ old ++ text
  pub rows : (rest : List ℕ) → AreRowsOf columns number (lines_of (drop start stream)) rest → AreRowsOf columns before (lines_of stream) (text ++ rest)
  pub some : has_error ≡ true → HasErrorRow columns (lines_of stream)
  pub on : HasErrorRow columns (lines_of (drop start stream)) → HasErrorRow columns (lines_of stream)
  pub left : HasErrorRow columns (lines_of stream) → (has_error ≡ true) ⊎ HasErrorRow columns (lines_of (drop start stream))

-- at first none
pub none_passed : (columns : Columns) (before : ℕ) (stream : List ℕ) (old : List ℕ) → ArePassed columns before stream before 0 false old old
none_passed columns before stream old =
    record { text = []; now_is = sym (append-nil old); rows = λ rest is. is; some = λ e. absurd cc; on = λ h. h; left = inr }

-- no line has no error
no_error : {columns : Columns} → HasErrorRow columns [] → ⊥
no_error h = elim h [ ]

-- an error is in the first line, or later
first_error : {columns : Columns} {line : List ℕ} {lines : List (List ℕ)} → HasErrorRow columns (line ∷ lines) → IsErrorLine columns line ⊎ HasErrorRow columns lines
first_error (error_here x) = inl x
first_error (error_later h) = inr h

-- and then one more
pub one_passed : {columns : Columns} {before number start : ℕ} {stream old now : List ℕ} {has_error : Bool} (end : ℕ) (line row : List ℕ) (is_error has : Bool)
    → ArePassed columns before stream number start has_error old now → lines_of (drop start stream) ≡ line ∷ lines_of (drop (end + 1) stream)
    → IsRow columns (number + 1) line row → (is_error ≡ true) ↔ IsErrorLine columns line
    → ((is_error ≡ true) × (has ≡ true)) ⊎ ((is_error ≡ false) × (has ≡ has_error)) → (later : List ℕ) → later ≡ now ++ row
    → ArePassed columns before stream (number + 1) (end + 1) has old later
one_passed {old = old} end line row is_error has p e is error both later f =
    record {
      text = p.text ++ row;
      now_is = f ∙ ap (λ t. t ++ row) p.now_is ∙ append_assoc old p.text row;
      rows = λ rest more. rw (append_assoc p.text row rest) (p.rows (row ++ rest) (rw e (one_more_row is more refl)));
      some = λ t. elim both [ inl x ↦ p.on (rw e (error_here (error.0 x.0))) | inr x ↦ p.some (sym x.1 ∙ t) ];
      on = λ h. p.on (rw e (error_later h));
      left = λ h. elim (p.left h) [
        | inl t ↦ elim both [ inl x ↦ inl x.1 | inr x ↦ inl (x.1 ∙ t) ]
        | inr k ↦ elim (first_error (rw e at k)) [
          | inr later ↦ inr later
          | inl here ↦ elim both [ inl x ↦ inl x.1 | inr x ↦ absurd (let t = error.1 here in let u = x.0 in cc) ]
        ]
      ];
    }

-- and at the end all
pub all_passed : {columns : Columns} {before number start : ℕ} {stream old now : List ℕ} {has_error : Bool}
    → ArePassed columns before stream number start has_error old now → length stream ≤ start
    → ((rows : List ℕ) × AreRows columns before stream rows × (now ≡ old ++ rows)) × ((has_error ≡ true) ↔ HasErrorRow columns (lines_of stream))
all_passed {start = start} {stream} {old} p end =
    let over : drop start stream ≡ [] = drop_of_length-le stream end in (
      (p.text, rw (append-nil p.text) at (p.rows [] (rw over no_row)), p.now_is),
      (p.some, λ h. elim (p.left h) [ inl t ↦ t | inr k ↦ absurd (no_error (rw over at k)) ]),
    )

-- the columns of one path more
columns_more : (line : List ℕ) (xs : List (PathOutcome slot.Span)) (x : PathOutcome slot.Span) → 0 < length xs
    → outcomes_text line (xs ++ x ∷ []) ≡ outcomes_text line xs ++ 9 ∷ outcome_text line x
columns_more line [] x l = absurd (omega arith)
columns_more line (y ∷ []) x l = refl
columns_more line (y ∷ z ∷ xs) x l =
    let ih = columns_more line (z ∷ xs) x (omega arith) in
    rw ih (sym (append_assoc (outcome_text line y) (9 ∷ outcomes_text line (z ∷ xs)) (9 ∷ outcome_text line x)))

columns_next : (line : List ℕ) (told : List (PathOutcome slot.Span)) (i : ℕ) (x : PathOutcome slot.Span) → slice_get told i ≡ Some x
    → outcomes_text line (take (i + 1) told) ≡ outcomes_text line (take i told) ++ (tab_before i ++ outcome_text line x)
columns_next line told i x at =
    let within = slice_get_within told i x at in
    let more = take_more told i x within ∙ ap (λ y. take i told ++ y ∷ []) (get_or_from_slice_get told i x x at) in
    last i more (length-take-le i told (omega arith)) where
      last : (k : ℕ) → take (k + 1) told ≡ take k told ++ x ∷ [] → length (take k told) ≡ k
          → outcomes_text line (take (k + 1) told) ≡ outcomes_text line (take k told) ++ (tab_before k ++ outcome_text line x)
      last zero more taken = rw more refl
      last (suc k) more taken = rw more (columns_more line (take (suc k) told) x (omega arith))

pub columns_step : (line : List ℕ) (told : List (PathOutcome slot.Span)) (i : ℕ) (x : PathOutcome slot.Span) (old before mid now : List ℕ) → slice_get told i ≡ Some x
    → before ≡ old ++ outcomes_text line (take i told) → mid ≡ before ++ tab_before i → now ≡ mid ++ outcome_text line x
    → now ≡ old ++ outcomes_text line (take (i + 1) told)
columns_step line told i x old before mid now at e f g =
    let entries = outcomes_text line (take i told) in
    let entry = outcome_text line x in
    let first : mid ≡ old ++ (entries ++ tab_before i) = f ∙ ap (λ t. t ++ tab_before i) e ∙ append_assoc old entries (tab_before i) in
    let all : now ≡ old ++ ((entries ++ tab_before i) ++ entry) = g ∙ ap (λ t. t ++ entry) first ∙ append_assoc old (entries ++ tab_before i) entry in
    all ∙ ap (λ t. old ++ t) (append_assoc entries (tab_before i) entry ∙ sym (columns_next line told i x at))

-- the columns from a path on: the path's, and after a tab those of the paths behind it
columns_lead : (line : List ℕ) (x : PathOutcome slot.Span) (rest : List (PathOutcome slot.Span)) (k : ℕ) → length rest ≡ k
    → outcomes_text line (x ∷ rest) ≡ outcome_text line x ++ (tab_before k ++ outcomes_text line rest)
columns_lead line x [] zero e = sym (append-nil (outcome_text line x))
columns_lead line x [] (suc k) e = absurd (omega arith)
columns_lead line x (y ∷ rest) zero e = absurd (omega arith)
columns_lead line x (y ∷ rest) (suc k) e = refl

pub columns_down : (line : List ℕ) (told : List (PathOutcome slot.Span)) (i m : ℕ) (x : PathOutcome slot.Span) (before tabbed now : List ℕ) → i + 1 ≡ m → slice_get told i ≡ Some x
    → before ≡ outcomes_text line (drop m told) ++ codes "\n" → tabbed ≡ tab_before (length told - m) ++ before
    → now ≡ outcome_text line x ++ tabbed → now ≡ outcomes_text line (drop i told) ++ codes "\n"
columns_down line told i m x before tabbed now next at e f g =
    let within = slice_get_within told i x at in
    let lead : drop i told ≡ x ∷ drop m told =
    drop_more told i x within ∙ (ap (λ y. y ∷ drop (i + 1) told) (get_or_from_slice_get told i x x at) ∙ ap (λ k. x ∷ drop k told) next) in
    let rest = outcomes_text line (drop m told) in
    let entry = outcome_text line x in
    let tab = tab_before (length told - m) in
    let all : outcomes_text line (drop i told) ≡ entry ++ (tab ++ rest) = rw lead (columns_lead line x (drop m told) (length told - m) (length-drop m told)) in
    rw (g, f, e, all) (simp append_assoc)

-- where no path fails, what each is told is what all are answered
outcome_entry : (line : List ℕ) (x : PathOutcome slot.Span) → ((s : Stop) → x ≢ Fails s) → outcome_text line x ≡ entry_text line (told_span x)
outcome_entry line (Found s) none = refl
outcome_entry line (Missing q) none = refl
outcome_entry line (Fails s) none = absurd (none s refl)

outcomes_entries : (line : List ℕ) (told : List (PathOutcome slot.Span)) → NoneTold told → outcomes_text line told ≡ entries_text line (map told_span told)
outcomes_entries line [] none = refl
outcomes_entries line (x ∷ []) none = outcome_entry line x (λ s e. none 0 s (ap Some e))
outcomes_entries line (x ∷ y ∷ xs) none =
    let first = outcome_entry line x (λ s e. none 0 s (ap Some e)) in
    let rest = outcomes_entries line (y ∷ xs) (λ k s. none (suc k) s) in
    rw (first, rest) refl

pub together_answered : {is_bytes : Bool} {columns : Columns} {line : List ℕ} (told : List (PathOutcome slot.Span)) → columns.each ≡ false → NoneTold told
    → IsAnswer line is_bytes columns.paths (Answer.spans (map told_span told)) → AreColumns is_bytes columns line (outcomes_text line told)
together_answered {line = line} told e none is = all_answered e is (outcomes_entries line told none)

-- spans of values of a line lie in it
pub parts_within : (line : List ℕ) (told : List (PathOutcome slot.Span)) → AreFoundParts line told → AreWithin line told
parts_within line told parts k x at s e =
    let part = parts k s (at ∙ ap Some e) in
    let longer = value-longer part.value in
    (omega arith, part.inside)

-- a line that has columns isn't answered with an error
pub no_error_line : {columns : Columns} {line text : List ℕ} → AreColumns true columns line text → IsErrorLine columns line → ⊥
no_error_line is e = text_or_stop is e.answer

-- the row of a line that was refused
pub row_refused : {columns : Columns} {line : List ℕ} (error : Error) (old now : List ℕ) (n : ℕ) (fault : Fault)
    → IsStopFor (IsLineStop true columns line) fault → IsErrorOf line fault error → (error_code error ≡ NoMemory → ⊥)
    → ¬ IsBlankLine line
    → now ≡ old ++ error_text (decimal n ++ codes " ") (error_code error) (decimal (error_offset error))
    → ((row : List ℕ) × IsRow columns n line row × (now ≡ old ++ row)) × IsErrorLine columns line
row_refused error old now n OutOfMemory a m memory filled e = absurd (memory m.code)
row_refused error old now n (At s) a x memory filled e =
    ((_, refused_row filled a refl, rw (x.code, x.offset) at e), record { stop = s; filled = filled; answer = a })
