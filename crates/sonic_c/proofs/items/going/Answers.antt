use Rattle.std.proofs.Common.{arith}
use Rattle.sonic_c.proofs.ContainerLemmas.{told_within}
use Rattle.sonic_c.proofs.items.going.Goals as goal

pub returns-in_default-clause-none : goal.returns-in_default-clause-none
returns-in_default-clause-none c = λ e kind n x. c.going_by.ensures.none c.in_default.is kind x.is_first x.state

pub returns-then-items-text-clause-none : goal.returns-then-items-text-clause-none
returns-then-items-text-clause-none c = λ e kind n x. (let within = told_within x in omega (arith, within, c.if-items-text.true))
