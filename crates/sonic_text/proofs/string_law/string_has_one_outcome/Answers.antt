use Rattle.sonic_text.proofs.Strings.{string_one, string_fault_one, string_never_both, string_some}
use Rattle.sonic_text.proofs.string_law.string_has_one_outcome.Goals as goal

pub returns : goal.returns
returns c m t i o = record {
  some_outcome = string_some m t i o;
  one_end = λ j k (b, h) (d, g). (string_one h g).0;
  one_fault = λ s r f g. string_fault_one f g;
  never_both = λ j s (b, h) f. string_never_both h f;
}
