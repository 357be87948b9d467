use Rattle.std.proofs.Common.{◌≡◌, ◌∙◌, sym, true, false}
use Rattle.sonic_index.proofs.MemberLemmas.{collected_other}
use Rattle.sonic_index.proofs.members.collect.Goals as goal
use Rattle.sonic_index.proofs.members.collect.Goals.{then-is_member+in_ok-add, else-is_member}

pub loop-n-preserved : goal.loop-n-preserved
loop-n-preserved c = elim c.if-is_member.branch [
  | then-is_member+in_ok-add w ↦ rw w.members-is w.in_ok-add.ensures
  | else-is_member w ↦
      rw w.members-is (collected_other c.loop-n.invariant (λ p b wide m. let is = c.is_member.ensures.no p b wide m in let f : true ≡ false = sym is ∙ w.if-is_member.false in absurd cc))
]
