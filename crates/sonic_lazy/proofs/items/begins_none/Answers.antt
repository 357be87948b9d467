use Rattle.std.proofs.Common.{arith}
use Rattle.std.proofs.lemmas.Bool.Decides.{nat_tests}
use Rattle.sonic_lazy.proofs.ItemLemmas.{array_begins, member_begins}
use Rattle.sonic_lazy.proofs.items.begins_none.Goals as goal

pub returns-then-given-eq0 : goal.returns-then-given-eq0
returns-then-given-eq0 c = rw (c.place.ensures.place, c.text.ensures) (array_begins c.in-Array.is (grind (arith, nat_tests)))

pub returns-in-Object : goal.returns-in-Object
returns-in-Object c =
    rw (c.byte_at.ensures.value, c.text-in-Object.ensures, c.place-in-Object.ensures.place) (member_begins c.in-Object.is)
