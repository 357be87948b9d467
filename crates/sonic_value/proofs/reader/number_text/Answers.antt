use Rattle.std.proofs.Common.{arith}
use Rattle.sonic_text.proofs.Ascii.{number_utf8}
use Rattle.sonic_text.proofs.Numbers.{number_longer}
use Rattle.sonic_text.proofs.Within.{value_within}
use Rattle.sonic_text.specs.Strings.{strict}
use Rattle.sonic_text.specs.Values.IsValue.{number}
use Rattle.sonic_value.proofs.reader.number_text.Goals as goal

pub slice_bounds-bytes-count : goal.slice_bounds-bytes-count
slice_bounds-bytes-count c = omega (arith, number_longer c.requires)

pub slice_bounds-bytes-start : goal.slice_bounds-bytes-start
slice_bounds-bytes-start c = omega (arith, number_longer c.requires, value_within {m = strict} (number c.requires))

pub slice_bounds-bytes-end : goal.slice_bounds-bytes-end
slice_bounds-bytes-end c = omega (arith, value_within {m = strict} (number c.requires))

pub from_utf8_unchecked-requires : goal.from_utf8_unchecked-requires
from_utf8_unchecked-requires c = number_utf8 c.requires
