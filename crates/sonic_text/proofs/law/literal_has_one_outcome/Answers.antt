use Rattle.std.proofs.Common.{arith}
use Rattle.sonic_text.proofs.LiteralLemmas.{literal_some, literal_fault_one, literal_never_both}
use Rattle.sonic_text.proofs.law.literal_has_one_outcome.Goals as goal

pub returns : goal.returns
returns c = λ word t i within. record {
  some_outcome = literal_some word t i within;
  one_end = λ j k a b. omega (arith, a.1, b.1);
  one_fault = λ s r. literal_fault_one;
  never_both = λ j s. literal_never_both word t i;
}
