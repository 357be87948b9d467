use Rattle.std.proofs.Common.{refl, arith}
use Rattle.std.specs.Prelude.{unwrap_or}
use Rattle.sonic_text.specs.declared.hex.TheConstants.{HEX_TAB}
use Rattle.sonic_text.specs.Strings.{hex_digit}
use Rattle.sonic_text.proofs.HexDigitLemmas.{table_digit, table_other}
use Rattle.sonic_text.proofs.TableLemmas.{agree_below, from_table}
use Rattle.sonic_text.proofs.hex.digit_of.Goals as goal

pub returns : goal.returns
unfolding agree_below hex_digit
returns c =
    let e = from_table HEX_TAB (λ k. unwrap_or (hex_digit k) 255) c.args.byte (omega arith) refl in
    record { digit = table_digit c.args.byte _ e; other = table_other c.args.byte _ e }
