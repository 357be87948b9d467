use Rattle.std.proofs.lemmas.Result.{err_from_is_err_and}
use Rattle.sonic_io.proofs.BufferLemmas.{texts_cut, texts_passed}
use Rattle.sonic_reports.specs.Internal.Replies.{line_of_member}
use Rattle.sonic_reports.proofs.reply.write_members.Goals as goal

pub returns-in_err-write_member : goal.returns-in_err-write_member
returns-in_err-write_member g c =
    let l = c.loop-member in
    let e = err_from_is_err_and c.from_residual.result c.from_residual.ensures.1 in
    rw e.1 (texts_cut line_of_member c.args.members.now l.member-index c.member-item.result c.loop-member-test.true l.invariant (rw (← c.member-item.is) c.in_err-write_member.ensures))

pub loop-member-preserved : goal.loop-member-preserved
loop-member-preserved g c =
    let l = c.loop-member in
    texts_passed line_of_member c.args.members.now l.member-index c.member-item.result c.loop-member-test.true l.invariant (rw (← c.member-item.is) c.in_ok-write_member.ensures)
