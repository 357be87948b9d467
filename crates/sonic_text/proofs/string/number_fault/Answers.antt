use Rattle.std.proofs.Common.{arith, inl, inr, refl}
use Rattle.sonic_text.proofs.EscapeFaultLemmas.{right_two, right_four, digit_missing, second_missing, second_half, last_missing}
use Rattle.sonic_text.proofs.string.number_fault.Goals as goal

pub returns-then-first-gt15 : goal.returns-then-first-gt15
returns-then-first-gt15 c =
    let u = c.requires.letter in
    rw c.stop_at.ensures (digit_missing _ _ _ u 2 (inl refl) (right_two _ _ _ u) (c.digit_at-first.ensures.other (omega arith)))

pub returns-then-second-gt15 : goal.returns-then-second-gt15
returns-then-second-gt15 c =
    let a = c.digit_at-first.ensures.digit (omega arith) in
    rw c.stop_at-then-second-gt15.ensures (second_missing _ _ _ c.requires.letter a.0 (c.digit_at-second.ensures.other (omega arith)))

pub returns-then-second-gt11 : goal.returns-then-second-gt11
returns-then-second-gt11 c =
    let a = rw c.if-first-eq13.true at (c.digit_at-first.ensures.digit (omega arith)) in
    let b = c.digit_at-second.ensures.digit (omega arith) in
    rw c.stop_at-then-second-gt11.ensures (second_half _ _ _ c.requires.letter c.if-not-lossy.true a.0 b.0 (omega arith))

pub returns-then-digit_at-gt15 : goal.returns-then-digit_at-gt15
returns-then-digit_at-gt15 c =
    let u = c.requires.letter in
    let a = c.digit_at-first.ensures.digit (omega arith) in
    let b = c.digit_at-second.ensures.digit (omega arith) in
    rw c.stop_at-then-digit_at-gt15.ensures (digit_missing _ _ _ u 4 (inr (inl refl)) (right_four _ _ _ u a.0 b.0 (grind arith)) (c.digit_at.ensures.other (omega arith)))

pub returns-else-digit_at-gt15 : goal.returns-else-digit_at-gt15
returns-else-digit_at-gt15 c =
    let a = c.digit_at-first.ensures.digit (omega arith) in
    let b = c.digit_at-second.ensures.digit (omega arith) in
    let d = c.digit_at.ensures.digit (omega arith) in
    rw c.stop_at-else-digit_at-gt15.ensures (last_missing _ _ _ c.requires.letter a.0 b.0 (grind arith) d.0 c.requires.wrong)
