use Rattle.std.proofs.Common.{inr, refl, arith, ◌≡◌}
use Rattle.sonic_error.specs.declared.code.ErrorCode.TheVariants.{TrailingCharacters}
use Rattle.sonic_text.proofs.Within.{value_within}
use Rattle.sonic_stream.specs.Streams.{IsRecord}
use Rattle.sonic_stream.specs.Streams.IsNextRecord.{whole, needs_more}
use Rattle.sonic_stream.proofs.StreamLemmas.{more_to_come, unsettled_none, unsettled_never}
use Rattle.sonic_stream.proofs.stream.RecordStream.whole.Goals as goal

pub invariant_of-self : goal.invariant_of-self
invariant_of-self c = (rw (← c.self.view_is) at (value_within c.requires.value), c.self.invariant.1)

pub wrong-requires-clause-within : goal.wrong-requires-clause-within
wrong-requires-clause-within c =
    let more = rw c.held-else-is_settled.ensures at c.if-end-held.false in
    omega (arith, value_within c.requires.value)

pub wrong-requires-clause-never : goal.wrong-requires-clause-never
wrong-requires-clause-never c =
    let ended : c.self.inside.is_ended ≡ c.args.self.now.is_ended = rw (← c.self.view_is) refl in
    let unsettled = rw (c.held.ensures, ended, c.requires.start) at (c.if-is_settled.ensures.no refl) in
    unsettled_never c.args.self.now (record { place = c.args.end; code = TrailingCharacters }) (rw c.requires.start at c.requires.value) (wrong-requires-clause-within c) unsettled

pub returns-then-is_settled : goal.returns-then-is_settled
returns-then-is_settled c =
    let ended : c.self.inside.is_ended ≡ c.args.self.now.is_ended = rw (← c.self.view_is) refl in
    let is : IsRecord c.args.self.now.held c.args.self.now.is_ended c.args.self.now.next c.args.end =
    record { value = rw c.requires.start at c.requires.value; settled = rw (c.held.ensures, ended, c.requires.start) at (c.if-is_settled.ensures.yes refl) } in
    rw c.requires.start (whole is (rw (← c.self.view_is) refl))

pub returns-then-end-held : goal.returns-then-end-held
returns-then-end-held c =
    let ended : c.self.inside.is_ended ≡ c.args.self.now.is_ended = rw (← c.self.view_is) refl in
    let last = rw c.held-else-is_settled.ensures at c.if-end-held.true in
    let unsettled = rw (c.held.ensures, ended, last, c.requires.start) at (c.if-is_settled.ensures.no refl) in
    let value = rw (c.requires.start, last) at c.requires.value in
    needs_more (more_to_come c.args.self.now.is_ended unsettled) (unsettled_none c.args.self.now value unsettled) (inr value) refl
