use Rattle.sonic_lazy.proofs.lazyvalue.LazyValue.pointer.Goals as goal
use Rattle.std.proofs.Common.{◌≡◌, true, false, refl, arith}
use Rattle.sonic_lazy.proofs.UncheckedLemmas.{lazy_start, lazy_starts, finds_none}
use Rattle.sonic_find.proofs.UncheckedLemmas.{found_part}
use Rattle.sonic_text.proofs.Values.{value-longer}
use Rattle.sonic_text.proofs.Within.{value_within}
use Rattle.sonic_lazy.proofs.WholeLemmas.{lazy_is_whole, whole_of_part}

pub of_slice-requires : goal.of_slice-requires
of_slice-requires c = rw c.raw-raw.ensures (lazy_is_whole c.args.self.now).utf8

pub locate-requires : goal.locate-requires
locate-requires c = rw (c.unchecked-cursor.ensures, c.of_slice.ensures.text, c.of_slice.ensures.place, c.raw-raw.ensures) (λ _. lazy_start c.args.self.now)

pub part-requires-clause-order : goal.part-requires-clause-order
part-requires-clause-order c =
    let value = rw (c.unchecked-cursor.ensures, c.of_slice.ensures.text) at c.in-Ok.ensures.value in
    omega (arith, value-longer value)

pub part-requires-clause-inside : goal.part-requires-clause-inside
part-requires-clause-inside c =
    let value = rw (c.unchecked-cursor.ensures, c.of_slice.ensures.text) at c.in-Ok.ensures.value in
    value_within value

pub whole-requires : goal.whole-requires
whole-requires c =
    let leads = rw (c.unchecked-cursor.ensures, c.of_slice.ensures.text, c.of_slice.ensures.place, c.raw-raw.ensures) at c.in-Ok.ensures.ok in
    let escaped = rw (c.unchecked-cursor.ensures, c.of_slice.ensures.text, c.raw-raw.ensures) at c.in-Ok.ensures.escaped in
    whole_of_part (rw c.raw-raw.ensures at c.part.ensures.bytes) (found_part _ (lazy_starts c.args.self.now) leads) escaped

pub returns-clause-none : goal.returns-clause-none
returns-clause-none c =
    let dead = rw (c.unchecked-cursor.ensures, c.of_slice.ensures.text, c.of_slice.ensures.place, c.raw-raw.ensures) at c.in-Err.ensures.err in
    finds_none c.in-Err.field-0 (λ e. let checks : false ≡ true = rw c.unchecked-cursor.ensures at (c.in-Err.ensures.memory (rw e refl)) in absurd cc) dead
