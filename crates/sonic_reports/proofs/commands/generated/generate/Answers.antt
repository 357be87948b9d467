use Rattle.std.proofs.Common.{◌∙◌, refl, codes}
use Rattle.sonic_reports.proofs.GeneratedLemmas.{no_records, records_more}
use Rattle.sonic_reports.proofs.commands.generated.generate.Goals as goal

pub loop-number-init : goal.loop-number-init
loop-number-init c = c.in_ok-push.ensures.items ∙ rw (no_records, c.in_ok-text.ensures.items) refl

pub loop-number-preserved : goal.loop-number-preserved
loop-number-preserved c = c.in_ok-push_record.ensures ∙ records_more c.loop-number.number (codes "[") _ c.loop-number.invariant
