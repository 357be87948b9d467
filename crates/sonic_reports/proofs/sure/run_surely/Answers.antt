use Rattle.std.proofs.Common.{rules, ◌≡◌, ◌⊎◌, ℕ, List, map, string_bytes}
use Rattle.sonic_reports.specs.declared.status.Status.{Status}
use Rattle.sonic_reports.specs.declared.status.Status.TheVariants.{NoMemory}
use Rattle.sonic_reports.specs.Reports.{IsReport}
use Rattle.sonic_reports.proofs.ReportLemmas.{done_surely}
use Rattle.sonic_reports.proofs.sure.run_surely.Goals as goal

pub returns-clause-complete : goal.returns-clause-complete
returns-clause-complete c =
    let ends : (text : List ℕ) (status : Status) → IsReport (map string_bytes c.args.words.now) c.args.input.items text status
    → (c.run.result ≡ status) ⊎ (c.run.result ≡ NoMemory) = search rules in
    done_surely ends
