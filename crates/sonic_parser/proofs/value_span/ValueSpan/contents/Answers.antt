use Rattle.std.proofs.Common.{arith}
use Rattle.sonic_text.proofs.PlainStrings.{plain_string}
use Rattle.sonic_text.proofs.Strings.{chars_later}
use Rattle.sonic_text.proofs.Within.{value_within}
use Rattle.sonic_text.specs.Values.IsValue.{string}
use Rattle.sonic_parser.proofs.value_span.ValueSpan.contents.Goals as goal

-- the quotes are two
pub slice_bounds-result-count : goal.slice_bounds-result-count
slice_bounds-result-count c = let x = c.requires.string.is in omega (arith, x.end, chars_later x.chars)

pub slice_bounds-result-start : goal.slice_bounds-result-start
slice_bounds-result-start c = let x = c.requires.string.is in omega (arith, x.end, chars_later x.chars, value_within (string x))

pub returns : goal.returns
returns c = let x = c.requires.string.is in rw (← plain_string x c.requires.plain (value_within (string x))) x
