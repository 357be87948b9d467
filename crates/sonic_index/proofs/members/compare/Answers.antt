use Rattle.std.proofs.Common.{◌∙◌, sym}
use Rattle.sonic_text.proofs.Strings.{string_never_both, string_one}
use Rattle.sonic_index.proofs.MemberLemmas.{compared_key, member_key, member_parent}
use Rattle.sonic_index.proofs.members.compare.Goals as goal

pub unreachable-requires : goal.unreachable-requires
unreachable-requires c = string_never_both (member_key c.requires.2) c.in-Err.ensures.err

pub returns : goal.returns
returns c = λ p b m.
    let one = string_one (member_key m) c.in-Ok.ensures.ok.3 in
    compared_key p c.args.i b c.args.key.now (sym (member_parent m) ∙ c.if-parent-i.false) (c.compare_key.ensures b (rw one.0 at (member_key m)))
