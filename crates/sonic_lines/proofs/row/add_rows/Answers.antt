use Rattle.std.proofs.Common.{◌≡◌, ◌⊎◌, inl, inr, true, false, arith}
use Rattle.sonic_lines.proofs.RowLemmas.{all_passed, one_passed}
use Rattle.sonic_lines.proofs.row.add_rows.Goals as goal
use Rattle.sonic_lines.proofs.row.add_rows.Goals.{then-branch, else-branch}

pub line-preserved : goal.line-preserved
line-preserved c =
    let row = c.in_ok-add_row.ensures.row in
    let both : ((c.in_ok-add_row.field-0 ≡ true) × (c.if-branch.has_error ≡ true)) ⊎ ((c.in_ok-add_row.field-0 ≡ false) × (c.if-branch.has_error ≡ c.line.has_error)) =
    elim c.if-branch.branch [ then-branch w ↦ inl (w.if-branch.true, w.has_error-is) | else-branch w ↦ inr (w.if-branch.false, w.has_error-is) ] in
    record {
      few = omega arith;
      passed =
          one_passed c.line_end-end.result _ row.0 c.in_ok-add_row.field-0 c.if-branch.has_error c.line.invariant.passed c.line_end-end.ensures.line row.1
          c.in_ok-add_row.ensures.error both c.add_row.new.out.items row.2;
      text = λ e. (c.line_end-end.ensures.text (c.line.invariant.text e)).1;
    }

pub returns-clause-rows : goal.returns-clause-rows
returns-clause-rows c = (all_passed c.line.invariant.passed (omega arith)).0

pub returns-clause-errors : goal.returns-clause-errors
returns-clause-errors c = (all_passed c.line.invariant.passed (omega arith)).1
