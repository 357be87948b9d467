use Rattle.std.proofs.Common.{◌≡◌, ◌<◌, ◌-◌, ◌∙◌, take, drop, length, arith}
use Rattle.std.proofs.Math.Seq.{take-length}
use Rattle.std.proofs.lemmas.List.{length-take, length-drop}
use Rattle.sonic_blocks.proofs.RunLemmas.{run_fails}
use Rattle.sonic_blocks.specs.Runs.{is_plain}
use Rattle.sonic_text.proofs.QuoteLemmas.{quoted_short, run_written, byte_written, behind_later}
use Rattle.sonic_text.specs.Places.{byte}
use Rattle.sonic_text.proofs.quote.put_contents.Goals as goal

pub returns-then-stop-text-clause-written : goal.returns-then-stop-text-clause-written
returns-then-stop-text-clause-written c =
    let text = c.args.text.now in
    let stop = c.plain_end-stop in
    let before = take c.args.start c.args.dst.now in
    let whole = run_written text c.runs.read stop.result _ before stop.ensures.run c.runs.invariant.3 in
    let all : take stop.result text ≡ text = rw c.if-stop-text.true (take-length text) in
    c.put-place.ensures.written ∙ rw all at whole

pub returns-then-stop-text-clause-behind : goal.returns-then-stop-text-clause-behind
returns-then-stop-text-clause-behind c =
    let later = behind_later c.runs.dst c.args.dst.now c.runs.place c.put-place.result (omega (arith, c.put-place.ensures.end)) c.runs.invariant.4 in
    c.put-place.ensures.behind ∙ later

pub escape_of-requires : goal.escape_of-requires
escape_of-requires c =
    let within = c.plain_end-stop.ensures.within in
    run_fails is_plain c.args.text.now c.runs.read c.plain_end-stop.result c.runs.invariant.0 c.plain_end-stop.ensures.run (omega (arith, within, c.if-stop-text.false))

pub put-place-requires-in-runs : goal.put-place-requires-in-runs
put-place-requires-in-runs c =
    let text = c.args.text.now in
    let stop = c.plain_end-stop in
    let inside : stop.result < length text = omega (arith, stop.ensures.within, c.if-stop-text.false) in
    let run = length-take (stop.result - c.runs.read) (drop c.runs.read text) in
    let short = quoted_short (byte text stop.result) in
    rw (c.as_bytes.ensures.value, c.escape_of.ensures) (omega (arith, inside, run, short, length-drop c.runs.read text, c.put-place.ensures.end, c.runs.invariant.1, c.runs.auto.dst, c.put-place.auto.dst, c.requires, stop.ensures.run))

pub runs-preserved : goal.runs-preserved
runs-preserved c =
    let text = c.args.text.now in
    let stop = c.plain_end-stop in
    let inside : stop.result < length text = omega (arith, stop.ensures.within, c.if-stop-text.false) in
    let taken = length-take (stop.result - c.runs.read) (drop c.runs.read text) in
    let short = quoted_short (byte text stop.result) in
    let end = rw (c.as_bytes.ensures.value, c.escape_of.ensures) at c.put-place-in-runs.ensures.end in
    let before = take c.args.start c.args.dst.now in
    let run = c.put-place.ensures.written ∙ run_written text c.runs.read stop.result _ before stop.ensures.run c.runs.invariant.3 in
    let more = byte_written text stop.result _ before inside run in
    let later = behind_later c.runs.dst c.args.dst.now c.runs.place c.put-place.result (omega (arith, c.put-place.ensures.end)) c.runs.invariant.4 in
    let last = behind_later c.put-place.new.dst c.args.dst.now c.put-place.result c.put-place-in-runs.result (omega (arith, c.put-place-in-runs.ensures.end)) (c.put-place.ensures.behind ∙ later) in
    (omega (arith, inside), omega (arith, inside, taken, short, length-drop c.runs.read text, c.put-place.ensures.end, end, c.runs.invariant.1, stop.ensures.run), omega (arith, c.runs.auto.dst, c.put-place.auto.dst, c.put-place-in-runs.auto.dst), c.put-place-in-runs.ensures.written ∙ rw (c.as_bytes.ensures.value, c.escape_of.ensures) more, c.put-place-in-runs.ensures.behind ∙ last)
