use Rattle.std.proofs.Common.{ℕ, arith, sym, replicate}
use Rattle.std.proofs.lemmas.List.{length-replicate, take-replicate}
use Rattle.sonic_min.proofs.OutputLemmas.{lanes_stored}
use Rattle.sonic_min.proofs.output.store_blanks.Goals as goal

pub returns-then-count-le32 : goal.returns-then-count-le32
returns-then-count-le32 c =
    lanes_stored c.args.room.now (replicate 32 32) (replicate c.args.count 32) c.args.at c.args.count (length-replicate {A = ℕ} 32 32) (omega arith) c.requires
    (sym (take-replicate {X = ℕ} c.args.count 32 32 (omega arith)))
