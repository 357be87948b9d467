use Rattle.std.proofs.Common.{◌≡◌, ◌++◌, append_assoc}
use Rattle.std.specs.Prelude.{codes, string_bytes}
use Rattle.std.specs.Fmt.{decimal}
use Rattle.sonic_reports.proofs.error_line.position.Goals as goal

pub returns : goal.returns
returns c =
    let start : string_bytes c.in_ok-start.start ≡ decimal c.line-line.result ++ (codes " " ++ decimal c.column-column.result) = c.in_ok-start.ensures.ok in
    let text : string_bytes c.in_ok-text.text ≡ string_bytes c.in_ok-start.start ++ (codes " " ++ decimal c.offset-offset.result) = c.in_ok-text.ensures.ok in
    let whole = simp append_assoc at (rw start at text) in
    rw (← c.line-line.ensures, ← c.column-column.ensures, ← c.offset-offset.ensures) (simp append_assoc whole)
