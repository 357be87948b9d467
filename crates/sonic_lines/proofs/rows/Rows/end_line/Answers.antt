use Rattle.std.proofs.Common.{◌≡◌, ◌∙◌, ◌++◌, [], length, sym, ap, arith}
use Rattle.std.proofs.lemmas.Bool.{eqb-true}
use Rattle.std.proofs.lemmas.List.{nil_from_length}
use Rattle.std.specs.Vec.{vec_len}
use Rattle.sonic_lines.specs.Internal.Rows.{columns_of}
use Rattle.sonic_lines.proofs.rows.Rows.end_line.Goals as goal

pub returns-then-is_empty-clause-row : goal.returns-then-is_empty-clause-row
returns-then-is_empty-clause-row c =
    let none : vec_len c.self.inside.held ≡ 0 = eqb-true (vec_len c.self.inside.held) 0 (sym c.is_empty.ensures ∙ c.if-is_empty.true) in
    let long : length c.self.inside.held.items ≡ 0 = omega (arith, c.self.inside.held.ok) in
    let empty : c.self.inside.held.items ≡ [] = nil_from_length _ long in
    rw (← c.self.view_is, empty) c.in_ok-add_row.ensures.row

pub returns-clause-row : goal.returns-clause-row
returns-clause-row c =
    let kept = c.self-2.view_is ∙ c.in_ok-hold.ensures.ok.0 in
    let columns : columns_of c.self-2.inside.tree c.self-2.inside.each ≡ c.args.self.now.columns = ap (λ r. r.columns) kept in
    let lines : c.self.inside.lines ≡ c.args.self.now.lines = ap (λ r. r.lines) c.self.view_is in
    let held : c.self-2.inside.held.items ≡ c.args.self.now.held ++ c.args.end.now = ap (λ r. r.held) kept in
    rw (c.deref.ensures.value, columns, lines, held) at c.in_ok-add_row-2.ensures.row
