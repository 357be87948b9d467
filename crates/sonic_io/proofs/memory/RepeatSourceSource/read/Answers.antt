use Rattle.std.proofs.Common.{◌≡◌, ◌++◌, take, drop, replicate, arith}
use Rattle.std.proofs.lemmas.Grind.{common_steps}
use Rattle.sonic_io.proofs.OutsideLemmas.{given_again}
use Rattle.sonic_io.proofs.memory.RepeatSourceSource.read.Goals as goal

pub returns-clause-all : goal.returns-clause-all
returns-clause-all c =
    let copied : take c.min-count.result (c.fill.new.self ++ drop c.min-count.result c.args.room.now) ≡ replicate c.min-count.result c.self.inside.byte
    = grind (arith, common_steps) in
    rw (← c.self.view_is) (given_again _ _ _ _ (omega arith) copied)
