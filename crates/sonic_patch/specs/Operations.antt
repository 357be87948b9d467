-- The operations of a patch (RFC 6902, section 4).
use Rattle.std.specs.Prelude.{List}
use Rattle.sonic_patch.specs.Pointers.{Token}

-- an operation, with the tokens of its pointers and its value; a move and a copy go from the first pointer to the second
pub data Operation (Value : Type 0) : Type 0 where
  add : List Token → Value → Operation Value
  remove : List Token → Operation Value
  replace : List Token → Value → Operation Value
  move : List Token → List Token → Operation Value
  copy : List Token → List Token → Operation Value
  test : List Token → Value → Operation Value
