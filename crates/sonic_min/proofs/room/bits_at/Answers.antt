use Rattle.std.proofs.Common.{◌≡◌, ◌⊎◌, inl, inr, ℕ, ◌<◌, Bool, true, false, cond, arith}
use Rattle.sonic_min.proofs.room.bits_at.Goals as goal

-- what carries over is one of two words
one_of : (b : Bool) {n all : ℕ} → n ≡ cond b all 0 → (n ≡ 0) ⊎ (n ≡ all)
one_of true e = inr e
one_of false e = inl e

-- and a bit is below 2
below_two : (b : Bool) {n : ℕ} → n ≡ cond b 1 0 → n < 2
below_two true e = omega (arith, e)
below_two false e = omega (arith, e)

pub returns-clause-string : goal.returns-clause-string
returns-clause-string c = one_of _ c.get_string_bits-inside.ensures.instring

pub returns-clause-escape : goal.returns-clause-escape
returns-clause-escape c = below_two _ c.get_string_bits-inside.ensures.escaped
