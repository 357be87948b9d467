use Rattle.std.proofs.Common.{◌≡◌, ◌<◌, ◌+◌, ◌∷◌, ◌++◌, [], rules, ap, arith, sym, ◌∙◌, take, length}
use Rattle.std.proofs.Math.Seq.{take-length}
use Rattle.std.proofs.Output.{has_written_append, has_written_of_eq, writes_in_calls_nil}
use Rattle.std.proofs.lemmas.Str.{IsCharBoundary-start}
use Rattle.sonic_blocks.proofs.RunLemmas.{run_fails}
use Rattle.sonic_blocks.specs.Runs.{is_plain}
use Rattle.sonic_text.proofs.QuoteLemmas.{run_quoted}
use Rattle.sonic_text.proofs.QuotedTextLemmas.{run_boundary, escape_boundary, pieces_quoted}
use Rattle.sonic_text.specs.Quoting.{quoted_bytes}
use Rattle.sonic_text.proofs.quoted.write_quoted.Goals as goal

pub runs-init : goal.runs-init
runs-init g c = (omega arith, IsCharBoundary-start _ c.as_bytes-bytes.ensures.utf8, λ plain. record { wrote = writes_in_calls_nil _ _; plain = plain })

pub range-requires-clause-end_boundary : goal.range-requires-clause-end_boundary
range-requires-clause-end_boundary g c =
    let stop = c.plain_end-stop.ensures in
    rw c.as_bytes-bytes.ensures.value at (run_boundary c.as_bytes-bytes.result.now c.runs.read c.plain_end-stop.result c.runs.invariant.0 stop.within stop.run)

pub escape_of-requires : goal.escape_of-requires
escape_of-requires g c =
    let stop = c.plain_end-stop.ensures in
    run_fails is_plain c.as_bytes-bytes.result.now c.runs.read c.plain_end-stop.result c.runs.invariant.0 stop.run (omega (arith, stop.within, c.if-stop-bytes.false))

pub returns-then-stop-bytes : goal.returns-then-stop-bytes
returns-then-stop-bytes g c = λ plain ok.
    let bytes = c.as_bytes-bytes.result.now in
    let stop = c.plain_end-stop in
    let quote = c.write_str.ensures.writes plain (search rules) in
    let before = c.runs.invariant.2 quote.plain in
    let run = c.write_str-in-runs.ensures.writes before.plain (search rules) in
    let last = c.write_str-then-stop-bytes.ensures.writes run.plain ok in
    let inner : quoted_bytes (take c.runs.read bytes) ++ c.range.result.now ≡ quoted_bytes c.args.text.now =
    rw (c.range.ensures.value, ← c.as_bytes-bytes.ensures.value) (sym (run_quoted bytes c.runs.read stop.result stop.ensures.run) ∙ ap quoted_bytes (rw c.if-stop-bytes.true (take-length bytes))) in
    has_written_of_eq _ _ _ _ _ (ap (λ b. 34 ∷ (b ++ 34 ∷ [])) inner) (has_written_append _ _ _ _ _ _ quote (has_written_append _ _ _ _ _ _ (has_written_append _ _ _ _ _ _ before run) last))

pub runs-preserved : goal.runs-preserved
runs-preserved g c =
    let bytes = c.as_bytes-bytes.result.now in
    let stop = c.plain_end-stop in
    let inside : stop.result < length bytes = omega (arith, stop.ensures.within, c.if-stop-bytes.false) in
    let next = escape_boundary bytes c.runs.read stop.result c.as_bytes-bytes.ensures.utf8 c.runs.invariant.0 inside stop.ensures.run in (
      omega (arith, inside),
      next,
      λ plain.
          let before = c.runs.invariant.2 plain in
          let run = c.write_str-in-runs.ensures.writes before.plain (search rules) in
          let escape = c.write_str-in-runs-2.ensures.writes run.plain (search rules) in
          let all : (quoted_bytes (take c.runs.read bytes) ++ c.range.result.now) ++ c.escape_of.result.now ≡ quoted_bytes (take (stop.result + 1) bytes) =
          rw (c.range.ensures.value, ← c.as_bytes-bytes.ensures.value, c.escape_of.ensures) (pieces_quoted bytes c.runs.read stop.result inside stop.ensures.run) in
          has_written_of_eq _ _ _ _ _ all (has_written_append _ _ _ _ _ _ (has_written_append _ _ _ _ _ _ before run) escape),
    )
