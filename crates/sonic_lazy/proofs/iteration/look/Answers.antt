use Rattle.std.proofs.Common.{arith, refl}
use Rattle.std.proofs.Math.Seq.{take-length}
use Rattle.std.proofs.lemmas.Bool.Decides.{nat_tests}
use Rattle.sonic_lazy.proofs.ItemLemmas.{err_weaker}
use Rattle.sonic_lazy.proofs.iteration.look.Goals as goal
use Rattle.sonic_lazy.specs.Items.{at_broken_text}

pub returns-then-given-eq0-clause-err : goal.returns-then-given-eq0-clause-err
returns-then-given-eq0-clause-err c =
    let broken = rw (take-length c.args.text.now) at c.check.ensures.err in
    err_weaker c.check.result (λ s f kind. at_broken_text c.if-is_bytes.true f.0 (grind (arith, nat_tests)) (rw f.1 refl)) broken
