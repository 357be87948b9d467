use Rattle.std.specs.Prelude.{ℕ}
use Rattle.sonic_error.specs.declared.json_type.JsonType.{JsonType}
use Rattle.sonic_error.specs.declared.json_type.JsonType.TheVariants.{Null, Boolean, Number, String, Object, Array}

-- the number that denotes a kind of value
abbrev pub number_of : JsonType → ℕ
number_of Null = 0
number_of Boolean = 1
number_of Number = 2
number_of String = 3
number_of Object = 4
number_of Array = 5
