-- The lists that a value holds, as types. Clauses on what is lent cite this.
use Rattle.std.specs.Prelude.{[], ◌∷◌}
use Rattle.std.specs.contracts.alloc.Global as global
use Rattle.std.specs.contracts.impls.GlobalAllocator.TheImpl.{ghosts}
use Rattle.std.specs.contracts.string.String as string
use Rattle.std.specs.contracts.vec.Vec as vec
use Rattle.sonic_value.specs.contracts.value.Value.{the_row}
use denote.RattleType.{RattleType}
use denote.Struct.Tuple.{Tuple}

abbrev pub array_row : RattleType
array_row = vec.the_row the_row global.the_row ghosts

abbrev pub object_row : RattleType
object_row = vec.the_row (Tuple (string.the_row global.the_row ghosts ∷ the_row ∷ [])) global.the_row ghosts
