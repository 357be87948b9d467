-- What a lazy value shows.
use Rattle.std.specs.Prelude.{ℕ, Bool, List}
use Rattle.sonic_input.specs.Slices.{slice_bytes}
use Rattle.sonic_lazy.specs.declared.lazyvalue.LazyValue.{LazyValue}

-- its text
abbrev pub raw_bytes : LazyValue → List ℕ
raw_bytes value = slice_bytes value.raw

-- whether it is a string with a backslash
abbrev pub has_escapes : LazyValue → Bool
has_escapes value = value.has_escaped
