use Rattle.std.proofs.Common.{◌≡◌, refl, w64}
use Rattle.std.proofs.lemmas.Int.{to_z-of_z}
use Rattle.std.specs.Prelude.{ℤ, FitsSigned}
use Rattle.std.specs.Str.Parse.{signed_digits_value}
use Rattle.sonic_c.proofs.BegunLemmas.{refusal_told}
use Rattle.sonic_c.proofs.number.jihluka_i64.Goals as goal
use Rattle.sonic_c.specs.Values.{ValueCells, integer_told, no_integer, number_refused}
use Rattle.sonic_c.specs.declared.fault.Fault.{Fault}
use mir.Val.{of_z, to_z}

abbrev cells : ℤ → Fault → ValueCells ℤ
cells value error = record { value = value; error = error }

-- what is told is the integer
same_cells : (e : Fault) (v z : ℤ) → FitsSigned w64 z → v ≡ z → cells (to_z w64 (of_z w64 v)) e ≡ cells z e
same_cells e v z fits is = rw (is, to_z-of_z w64 z fits) refl

pub returns-in-Err : goal.returns-in-Err
returns-in-Err c = number_refused (refusal_told c.in-Err.refusal c.in-Err.ensures.err c.refuse.ensures) refl

pub returns-in-Some : goal.returns-in-Some
returns-in-Some c =
    let told = c.in-Some.ensures in
    integer_told c.in-Ok.number.now c.in-Ok.ensures.ok told.0 refl
    (same_cells c.args.error.now c.in-Some.whole (signed_digits_value 10 c.in-Ok.number.now) told.0.1 told.1)

pub returns-in-None : goal.returns-in-None
returns-in-None c = no_integer c.in-Ok.number.now c.in-Ok.ensures.ok c.in-None.ensures refl refl
