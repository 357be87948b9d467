use Rattle.std.proofs.Common.{refl, arith}
use Rattle.std.specs.Prelude.{unwrap_or}
use Rattle.sonic_text.specs.declared.unescape.TheConstants.{ESCAPED_TAB}
use Rattle.sonic_text.specs.Strings.{escaped}
use Rattle.sonic_text.proofs.TableLemmas.{agree_below, from_table}
use Rattle.sonic_text.proofs.unescape.escaped_of.Goals as goal

pub returns : goal.returns
unfolding agree_below escaped
returns c = from_table ESCAPED_TAB (λ k. unwrap_or (escaped k) 0) c.args.letter (omega arith) refl
