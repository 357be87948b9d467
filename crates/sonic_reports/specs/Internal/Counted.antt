-- The counts over values that many paths lead to.
use Rattle.std.specs.Prelude.{ℕ, List, ◌++◌, length, sum_by, count_by, codes}
use Rattle.std.specs.Fmt.{decimal}
use Rattle.std.specs.declared.option.Option.{Option}
use Rattle.std.specs.declared.option.Option.TheVariants.{Some, None}
use Rattle.sonic_lazy.specs.declared.lazyvalue.LazyValue.{LazyValue}
use Rattle.sonic_lazy.specs.LazyValues.{raw_bytes}
use Rattle.sonic_reports.specs.Commands.Generated.{is_found, is_absent}

-- the length of the text of a value, if there is one
abbrev pub value_length : Option LazyValue → ℕ
value_length (Some value) = length (raw_bytes value)
value_length None = 0

-- how many values there are, how many are absent, and how long the texts are together
abbrev pub counts_of_values : List (Option LazyValue) → List ℕ
counts_of_values values =
    decimal (count_by is_found values) ++ codes " " ++ decimal (count_by is_absent values) ++ codes " " ++ decimal (sum_by value_length values)
