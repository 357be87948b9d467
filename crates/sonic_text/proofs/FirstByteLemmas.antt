-- The sorts of values, each known by the first byte.
use Rattle.std.proofs.Common.{◌≡◌, ◌⊎◌, ℕ, inl, inr, arith, if◌then◌else◌, ◌==◌, ◌||◌, nat_le, ◌&&◌}
use Rattle.std.proofs.lemmas.Bool.Decides.{nat_tests}
use Rattle.sonic_text.specs.declared.kind.Kind.{Kind}
use Rattle.sonic_text.specs.declared.kind.Kind.TheVariants.{Array, Object}
use Rattle.sonic_text.specs.Places.{IsDigit}
use Rattle.sonic_text.specs.Values.{opening}
use Rattle.sonic_text.specs.Faults.{BeginsNone}

-- what a value may be, by its first byte
pub data Sort : Type 0 where
  none : Sort
  a_null : Sort
  a_true : Sort
  a_false : Sort
  a_number : Sort
  a_string : Sort
  a_container : Kind → Sort

-- a value of this sort begins with this byte
abbrev pub Begins : Sort → ℕ → Type 0
Begins none b = BeginsNone b
Begins a_null b = b ≡ 110
Begins a_true b = b ≡ 116
Begins a_false b = b ≡ 102
Begins a_number b = (b ≡ 45) ⊎ IsDigit b
Begins a_string b = b ≡ 34
Begins (a_container kind) b = b ≡ opening kind

-- the sort of the value that begins with this byte
abbrev pub sort_of : ℕ → Sort
sort_of b =
    if b == 123 then a_container Object
    else if b == 34 then a_string
    else if b == 110 then a_null
    else if b == 116 then a_true
    else if b == 102 then a_false
    else if b == 91 then a_container Array
    else if b == 45 || nat_le 48 b && nat_le b 57 then a_number
    else none

-- the first byte says the sort
pub begins_one : (k : Sort) (b : ℕ) → Begins k b → sort_of b ≡ k
begins_one none b h = grind (arith, nat_tests)
begins_one a_null b e = rw e
begins_one a_true b e = rw e
begins_one a_false b e = rw e
begins_one a_number b (inl e) = rw e
begins_one a_number b (inr h) = grind (arith, nat_tests)
begins_one a_string b e = rw e
begins_one (a_container Array) b e = rw e
begins_one (a_container Object) b e = rw e

-- each byte begins a value of its sort
pub begins_of : (k : Sort) (b : ℕ) → sort_of b ≡ k → Begins k b
begins_of none b h = grind (arith, nat_tests)
begins_of a_null b h = grind (arith, nat_tests)
begins_of a_true b h = grind (arith, nat_tests)
begins_of a_false b h = grind (arith, nat_tests)
begins_of a_number b h = grind (arith, nat_tests)
begins_of a_string b h = grind (arith, nat_tests)
begins_of (a_container Array) b h = grind (arith, nat_tests)
begins_of (a_container Object) b h = grind (arith, nat_tests)
