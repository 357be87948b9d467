use Rattle.std.proofs.Common.{refl}
use Rattle.std.specs.Prelude.{unwrap_or}
use Rattle.sonic_text.specs.declared.unescape.TheConstants.{ESCAPED_TAB}
use Rattle.sonic_text.specs.Strings.{escaped}
use Rattle.sonic_text.proofs.QuoteLemmas.{entries_stand}
use Rattle.sonic_text.proofs.TableLemmas.{agree_below, stands_in_table}
use Rattle.sonic_text.proofs.string_law.tables_have_the_escapes.Goals as goal

pub returns-clause-escaped : goal.returns-clause-escaped
unfolding agree_below escaped
returns-clause-escaped c = λ b l. stands_in_table ESCAPED_TAB (λ k. unwrap_or (escaped k) 0) b refl l refl

pub returns-clause-quoted : goal.returns-clause-quoted
returns-clause-quoted c = entries_stand
