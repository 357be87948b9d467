use Rattle.std.proofs.Common.{◌<◌, ◌≡◌, ◌+◌, ◌-◌, arith, length, refl, rules}
use Rattle.sonic_paths.proofs.HeadLemmas.{nothing_read, blank_read, bad_read, last_read, line_read, stopped_read}
use Rattle.sonic_paths.proofs.head.read_head.Goals as goal

pub lines-init : goal.lines-init
lines-init g c = record { within = omega arith; few = omega arith; some = omega arith; read = nothing_read c.args.input.now (g.R.LineReader.said c.args.reader.now) }

pub returns-then-is_blank-clause-ends : goal.returns-then-is_blank-clause-ends
returns-then-is_blank-clause-ends g c = blank_read c.lines.invariant.read c.document_start.ensures

pub returns-then-not-branch-clause-ends : goal.returns-then-not-branch-clause-ends
returns-then-not-branch-clause-ends g c =
    let line = c.in_ok-read_line.ensures in
    let bad = line.bad c.if-not-branch.true in
    let kept = line.kept c.if-not-branch.true in
    let some = c.lines.invariant.some in
    bad_read c.lines.invariant.read c.find_line_end-end.ensures.place (c.if-is_blank.ensures.text refl) c.lines.invariant.within bad (omega (arith, some)) kept

pub returns-then-end-input-clause-ends : goal.returns-then-end-input-clause-ends
returns-then-end-input-clause-ends g c =
    let says = c.in_ok-read_line.ensures.good c.if-not-branch.false in
    last_read c.lines.invariant.read c.find_line_end-end.ensures.place (c.if-is_blank.ensures.text refl) c.if-end-input.true says

pub lines-preserved : goal.lines-preserved
lines-preserved g c =
    let says = c.in_ok-read_line.ensures.good c.if-not-branch.false in
    let end = c.find_line_end-end.ensures in
    let few = c.lines.invariant.few in
    let some = c.lines.invariant.some in
    let below : c.find_line_end-end.result < length c.args.input.now = omega (arith, end.within, c.if-end-input.false) in
    let next : c.lines.number + 1 - 1 ≡ c.lines.number - 1 + 1 = omega (arith, some) in
    record {
      within = omega (arith, end.within, c.if-end-input.false);
      few = omega (arith, few, end.place);
      some = omega (arith, some);
      read = line_read c.lines.invariant.read end.place (c.if-is_blank.ensures.text refl) below says next;
    }

pub returns-in_err-read_line-clause-short : goal.returns-in_err-read_line-clause-short
returns-in_err-read_line-clause-short g c =
    let stops = stopped_read c.lines.invariant.read c.find_line_end-end.ensures.place (c.if-is_blank.ensures.text refl) c.lines.invariant.within c.in_err-read_line.ensures.short in
    search (rules, stops)
