-- The rows of a stream that comes in pieces.
use Rattle.std.proofs.Common.{◌≡◌, ◌∙◌, inl, inr, ℕ, ◌+◌, ◌<◌, take, drop, get_or, List, [], ◌∷◌, ◌++◌, length, append_assoc, refl, sym, ap, arith}
use Rattle.std.proofs.lemmas.Bool.{cases_Bool, eqb-true, eq-eqb}
use Rattle.std.proofs.lemmas.List.{append-nil, drop_more, get_or_default, get_or-take, length-take-le, take-append-drop}
use Rattle.std.proofs.lemmas.List.Sums.{sum_by-append}
use Rattle.std.proofs.lemmas.List.Elements.{Contains-append_right}
use Rattle.memchr.specs.Find.{is_byte, IsFirstByte}
use Rattle.std.specs.Prelude.{◌==◌, Some, None, cond, count_by}
use Rattle.std.specs.List.{concat}
use Rattle.sonic_lines.specs.LineRows.{Columns, AreRows, IsRow, blank_row, entries_row, refused_row, no_row, one_more_row}
use Rattle.sonic_lines.specs.Pieces.{LineReading, IsFed, AreFed, at_the_end, one_more_piece, begun}
use Rattle.sonic_lines.specs.Streams.{lines_of, IsOneLine, EndsLines}
use Rattle.sonic_lines.proofs.RowLemmas.{join_rows}
use Rattle.sonic_lines.proofs.StreamLemmas.{lines_count}

-- no byte is no line feed
pub nothing_ends : IsOneLine []
nothing_ends c = let l : c.0 < 0 = c.1 in absurd (omega arith)

-- a line after its first byte
rest_of_line : (x : ℕ) (t : List ℕ) → IsOneLine (x ∷ t) → IsOneLine t
rest_of_line x t one c = one (Contains-append_right (x ∷ []) t 10 c)

-- nothing is counted in one line
one_line_count : (t : List ℕ) → IsOneLine t → count_by (λ b. b == 10) t ≡ 0
one_line_count [] one = refl
one_line_count (x ∷ t) one = elim (cases_Bool (x == 10)) [
  | inl e ↦ absurd (one (0, omega arith, eqb-true x 10 e))
  | inr e ↦ rw e (one_line_count t (rest_of_line x t one))
]

count_append : (a b : List ℕ) → count_by (λ b. b == 10) (a ++ b) ≡ count_by (λ b. b == 10) a + count_by (λ b. b == 10) b
count_append a b = sum_by-append (λ b. cond (b == 10) 1 0) a b

-- where no line feed is found
pub one_line_found : (t : List ℕ) → IsFirstByte (is_byte 10) t None → IsOneLine t
one_line_found t none (k, l, e) = none k (omega arith) l (eq-eqb (get_or t k 0) 10 (get_or_default t k 0 10 l ∙ e))

-- and before the first one that is
pub one_line_before : (t : List ℕ) (n : ℕ) → IsFirstByte (is_byte 10) t (Some n) → IsOneLine (take n t)
one_line_before t n h (k, l, e) =
    let long = length-take-le n t (omega (arith, h.0.high)) in
    let within : k < length t = omega (arith, h.0.high) in
    let taken = get_or-take n t k 10 (omega arith) in
    h.0.before k (omega arith) (omega arith) (eq-eqb (get_or t k 0) 10 (get_or_default t k 0 10 within ∙ sym taken ∙ e))

-- what comes before it, and after it
pub cut_at_first : (t : List ℕ) (n : ℕ) → IsFirstByte (is_byte 10) t (Some n) → t ≡ take n t ++ 10 ∷ drop (n + 1) t
cut_at_first t n h =
    let feed : get_or t n 0 ≡ 10 = eqb-true (get_or t n 0) 10 h.1 in
    sym (take-append-drop n t) ∙ ap (λ u. take n t ++ u) (drop_more t n 0 h.0.high ∙ ap (λ b. b ∷ drop (n + 1) t) feed)

-- the lines of a stream whose first line ends
lines_after : (line rest : List ℕ) → IsOneLine line → lines_of (line ++ 10 ∷ rest) ≡ line ∷ lines_of rest
lines_after [] rest one = refl
lines_after (x ∷ t) rest one = elim (cases_Bool (x == 10)) [
  | inl e ↦ absurd (one (0, omega arith, eqb-true x 10 e))
  | inr e ↦ rw (e, lines_after t rest (rest_of_line x t one)) refl
]

-- and of one that is a line alone
lines_alone : (x : ℕ) (t : List ℕ) → IsOneLine (x ∷ t) → lines_of (x ∷ t) ≡ (x ∷ t) ∷ []
lines_alone x [] one = elim (cases_Bool (x == 10)) [ inl e ↦ absurd (one (0, omega arith, eqb-true x 10 e)) | inr e ↦ rw e refl ]
lines_alone x (y ∷ t) one = elim (cases_Bool (x == 10)) [
  | inl e ↦ absurd (one (0, omega arith, eqb-true x 10 e))
  | inr e ↦ rw (e, lines_alone y t (rest_of_line x (y ∷ t) one)) refl
]

-- the row of a line alone, or of none
pub rows_alone : {columns : Columns} {n : ℕ} (line : List ℕ) {row : List ℕ} → IsOneLine line → IsRow columns (n + 1) line row → AreRows columns n line row
rows_alone [] one (blank_row blank e) = rw e no_row
rows_alone [] one (entries_row filled is e) = absurd (filled (omega arith))
rows_alone [] one (refused_row filled is e) = absurd (filled (omega arith))
rows_alone (x ∷ t) {row} one is = rw (lines_alone x t one) (one_more_row is no_row (sym (append-nil row)))

-- a piece with no line feed came
pub fed_none : {before : LineReading} (piece : List ℕ) → IsOneLine piece → IsOneLine (before.held ++ piece)
    → IsFed before piece (record { columns = before.columns; lines = before.lines; held = before.held ++ piece }) []
fed_none {before} piece one held =
    record {
      ended = [];
      all = refl;
      ends = inl refl;
      held = held;
      read = no_row;
      lines = let none = one_line_count piece one in omega arith;
      columns = refl;
    }

-- a line, a line feed and lines that end
ends_lines : (line ended : List ℕ) → EndsLines ended → EndsLines (line ++ 10 ∷ ended)
ends_lines line ended (inl e) = inr (line, rw e refl)
ends_lines line ended (inr (u, e)) = inr (line ++ 10 ∷ u, rw e (sym (append_assoc line (10 ∷ u) (10 ∷ []))))

-- a piece came with the rest of the line that is held, a line feed, lines that end, and what follows them
pub fed_lines : {before : LineReading} {piece row rows : List ℕ} (start ended left : List ℕ) → IsOneLine (before.held ++ start) → EndsLines ended → IsOneLine left
    → piece ≡ start ++ 10 ∷ (ended ++ left) → IsRow before.columns (before.lines + 1) (before.held ++ start) row
    → AreRows before.columns (before.lines + 1) ended rows
    → IsFed before piece (record { columns = before.columns; lines = before.lines + count_by (λ b. b == 10) piece; held = left }) (row ++ rows)
fed_lines {before} {piece} start ended left one ends last e is rest =
    let line = before.held ++ start in
    record {
      ended = line ++ 10 ∷ ended;
      all = ap (λ t. before.held ++ t) e ∙ sym (append_assoc before.held start (10 ∷ (ended ++ left))) ∙ sym (append_assoc line (10 ∷ ended) left);
      ends = ends_lines line ended ends;
      held = last;
      read = rw (lines_after line ended one) (one_more_row is rest refl);
      lines = refl;
      columns = refl;
    }

-- the rows of what is held and of the pieces that come are those of all
fed_rows : {s : LineReading} {pieces : List (List ℕ)} {rows : List ℕ} → IsOneLine s.held → AreFed s pieces rows → AreRows s.columns s.lines (s.held ++ concat pieces) rows
fed_rows {s} {rows = rows} held (at_the_end is) = rw (append-nil s.held) is
fed_rows {s} held (one_more_piece {u = u} {piece = piece} {some} {more = more} {pieces} fed rest e) =
    let later : AreRows s.columns u.lines (u.held ++ concat pieces) more = rw fed.columns at (fed_rows fed.held rest) in
    let before = one_line_count s.held held in
    let after = one_line_count u.held fed.held in
    let ended = lines_count fed.ended fed.ends in
    let first = count_append s.held piece in
    let last = count_append fed.ended u.held in
    let both = ap (count_by (λ b. b == 10)) fed.all in
    let lines = fed.lines in
    let on : u.lines ≡ s.lines + length (lines_of fed.ended) = omega arith in
    let text : s.held ++ (piece ++ concat pieces) ≡ fed.ended ++ (u.held ++ concat pieces) =
    sym (append_assoc s.held piece (concat pieces)) ∙ ap (λ t. t ++ concat pieces) fed.all ∙ append_assoc fed.ended u.held (concat pieces) in
    rw (e, text) (join_rows fed.ended (u.held ++ concat pieces) fed.ends on fed.read later)

pub pieces_rows : {columns : Columns} {pieces : List (List ℕ)} {rows : List ℕ} → AreFed (begun columns) pieces rows → AreRows columns 0 (concat pieces) rows
pieces_rows fed = fed_rows nothing_ends fed
