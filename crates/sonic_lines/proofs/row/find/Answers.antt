use Rattle.sonic_lines.proofs.row.find.Goals as goal
use Rattle.std.proofs.lemmas.Result.{on_ok_weaker}
use Rattle.std.specs.Prelude.{OnOk, Result, Ok, Err}
use Rattle.sonic_lines.proofs.RowLemmas.{together_answered}
use Rattle.sonic_lines.specs.LineRows.{each_answered}
use Rattle.std.proofs.Common.{refl}

-- what two facts of a result give
on_ok_both : {T E P Q R : Type 0} (r : Result T E) → (P → Q → R) → OnOk r P → OnOk r Q → OnOk r R
on_ok_both (Ok x) f p q = f p q
on_ok_both (Err e) f p q = tt

pub returns-then-each-clause-ok : goal.returns-then-each-clause-ok
returns-then-each-clause-ok g c = on_ok_weaker c.fill_each_buffers.result (λ x. each_answered c.if-each.true x refl) c.fill_each_buffers.ensures.ok

pub returns-clause-ok : goal.returns-clause-ok
returns-clause-ok g c =
    on_ok_both c.fill_buffers.result (λ none x. together_answered c.fill_buffers.new.buffers c.if-each.false none x) c.fill_buffers.ensures.none_fails c.fill_buffers.ensures.ok
