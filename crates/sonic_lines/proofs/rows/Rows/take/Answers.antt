use Rattle.std.proofs.Common.{◌≡◌, ◌∙◌, ◌-◌, ◌+◌, ◌++◌, ◌∷◌, [], append_assoc, drop, take, length, sym, ap}
use Rattle.std.proofs.lemmas.List.{append-nil, length-drop, take-append-drop}
use Rattle.std.proofs.lemmas.Result.{on_ok_weaker}
use Rattle.std.proofs.Math.Seq.{take-length}
use Rattle.sonic_lines.specs.Streams.{EndsLines, IsOneLine}
use Rattle.sonic_lines.proofs.PieceLemmas.{cut_at_first, fed_lines, fed_none, one_line_before, one_line_found}
use Rattle.sonic_lines.specs.Internal.Rows.{columns_of}
use Rattle.sonic_lines.proofs.rows.Rows.take.Goals as goal

pub end_line-requires : goal.end_line-requires
end_line-requires c = one_line_before c.args.piece.now c.in-Some.first c.in-Some.ensures

-- the piece is the end of the line that is held, a line feed, lines that end, and what follows them
pub returns-clause-ok : goal.returns-clause-ok
returns-clause-ok c =
    let piece = c.args.piece.now in
    let first = c.in-Some.first in
    let end = c.lines_end-end.result in
    let rest = drop (first + 1) piece in
    let whole : take (length piece - (first + 1)) rest ≡ rest = rw (← length-drop (first + 1) piece) (take-length rest) in
    let far : take (length rest - end) (drop end rest) ≡ drop end rest = rw (← length-drop end rest) (take-length (drop end rest)) in
    let ends : EndsLines (take end rest) = rw whole at c.lines_end-end.ensures.ends in
    let last : IsOneLine (drop end rest) = rw whole at c.lines_end-end.ensures.after in
    let left : c.extend_from_slice.new.self.items ≡ drop end rest = rw (whole, c.new-left.ensures.items) at c.in_ok-extend_from_slice.ensures.items ∙ far in
    let cut : piece ≡ take first piece ++ 10 ∷ (take end rest ++ drop end rest) =
    cut_at_first piece first c.in-Some.ensures ∙ ap (λ u. take first piece ++ 10 ∷ u) (sym (take-append-drop end rest)) in
    let kept = c.self.view_is ∙ c.in_ok-end_line.ensures.kept in
    let columns : columns_of c.self.inside.tree c.self.inside.each ≡ c.args.self.now.columns = ap (λ r. r.columns) kept in
    let lines : c.self.inside.lines ≡ c.args.self.now.lines = ap (λ r. r.lines) kept in
    let row = c.in_ok-end_line.ensures.row in
    let rows = rw (whole, columns, lines) at c.in_ok-add_rows.ensures.rows in
    let out = rows.2 ∙ ap (λ t. t ++ rows.0) row.2 ∙ append_assoc c.args.out.now.items row.0 rows.0 in
    rw (columns, lines, c.count_of.ensures, left)
    (row.0 ++ rows.0, fed_lines (take first piece) (take end rest) (drop end rest) c.in_ok-end_line.ensures.one ends last cut row.1 rows.1, out)

pub returns-in_default-clause-ok : goal.returns-in_default-clause-ok
returns-in_default-clause-ok c =
    let one = one_line_found c.args.piece.now c.in_default.ensures in
    on_ok_weaker c.hold.result
    (λ held. ([], rw held.0 (fed_none c.args.piece.now one (rw held.0 at held.1)), sym (append-nil c.args.out.now.items)))
    c.hold.ensures.ok
