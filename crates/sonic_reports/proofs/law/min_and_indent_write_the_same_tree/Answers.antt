use Rattle.std.proofs.Common.{refl}
use Rattle.sonic_reports.proofs.SmallLemmas.{writes_small, writes_wide}
use Rattle.sonic_reports.proofs.law.min_and_indent_write_the_same_tree.Goals as goal

pub returns-clause-min : goal.returns-clause-min
returns-clause-min c = λ input text report. writes_small report refl

pub returns-clause-indent : goal.returns-clause-indent
returns-clause-indent c = λ width input text report. writes_wide width report refl
