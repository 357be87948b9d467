-- A row of the table puts together what its bits pick.
use Rattle.std.proofs.Common.{◌≡◌, ◌∙◌, ℕ, zero, suc, ◌+◌, ◌*◌, ◌/◌, ◌<◌, ◌≤◌, ◌&&◌, Bool, true, false, cond, nat_eq, nat_lt, List, [], ◌∷◌, ◌++◌, length, take, drop, get_or, map, T, w8, refl, sym, ap, ap₂, arith}
use Rattle.std.proofs.lemmas.Bool.{eqb-true, ltb-true}
use Rattle.std.proofs.Math.Seq.{take-append-add}
use Rattle.std.proofs.lemmas.List.{take-append-le, ext_get_or, get_or-map, get_or-take, length-take, length-map, map-append}
use Rattle.std.proofs.lemmas.Simd.{put_chunk_is, swz_l, SwzOk, SwzOk-from_below, Each1-get_or, get_or-chunk, get_or-swz_l_below, length-swz_l}
use Rattle.std.proofs.lemmas.Nat.{ones-le}
use lib.Count.{ones}
use lib.Lanes.{chunk, put_chunk, Each1}
use Rattle.sonic_blocks.proofs.BoolLemmas.{is_true, both, all_below, below_is}
use Rattle.sonic_blocks.specs.Bits.{is_set}
use Rattle.sonic_text.specs.Places.{byte}
use Rattle.sonic_min.specs.Internal.Kept.{picked}
use Rattle.sonic_min.specs.declared.keep.TheConstants.{PLACES}

-- the numbers below n that pass the test
unfoldable pub places : (ℕ → Bool) → ℕ → List ℕ
places test zero = []
places test (suc n) = places test n ++ cond (test n) (n ∷ []) []

-- what is picked is at these places
picked_places : (test : ℕ → Bool) (t : List ℕ) (n : ℕ) → picked test t n ≡ map (byte t) (places test n)
unfolding picked places
picked_places test t zero = refl
picked_places test t (suc n) =
    ap₂ (λ x y. x ++ y) (picked_places test t n) (one (test n)) ∙ sym (map-append (byte t) (places test n) (cond (test n) (n ∷ []) []))
  where
    one : (b : Bool) → cond b (byte t n ∷ []) [] ≡ map (byte t) (cond b (n ∷ []) [])
    one true = refl
    one false = refl

-- two lists of numbers are the same
unfoldable same : List ℕ → List ℕ → Bool
same [] [] = true
same [] (y ∷ ys) = false
same (x ∷ xs) [] = false
same (x ∷ xs) (y ∷ ys) = nat_eq x y && same xs ys

same_equal : (xs ys : List ℕ) → T (same xs ys) → xs ≡ ys
unfolding same
same_equal [] [] e = refl
same_equal [] (y ∷ ys) e = absurd e
same_equal (x ∷ xs) [] e = absurd e
same_equal (x ∷ xs) (y ∷ ys) e =
    let h = both (nat_eq x y) (same xs ys) e in
    rw (eqb-true x y (is_true (nat_eq x y) h.0), same_equal xs ys h.1) refl

-- each of these is below 16
unfoldable small : List ℕ → Bool
small [] = true
small (j ∷ js) = nat_lt j 16 && small js

small_each : (js : List ℕ) → T (small js) → Each1 (λ j. j < 16) js
unfolding small
small_each [] h = tt
small_each (j ∷ js) h = let b = both (nat_lt j 16) (small js) h in (ltb-true j 16 (is_true (nat_lt j 16) b.0), small_each js b.1)

-- the lanes of row m, where none is what is after the table's end
abbrev pub lanes : List ℕ → ℕ → List ℕ
lanes none m = chunk 0 16 (get_or PLACES m none)

-- a row has 16 places, and first those of its bits
unfoldable row_is : List ℕ → ℕ → Bool
row_is none m =
    (same (take (ones m) (lanes none m)) (places (is_set m) 8) && small (lanes none m))
    && (nat_eq (length (lanes none m)) 16 && nat_eq (length (places (is_set m) 8)) (ones m))

rows_are : (none : List ℕ) → T (all_below (row_is none) 256)
unfolding row_is same small places is_set ones
rows_are none = tt

-- what a row is
pub record IsRow (none : List ℕ) (m : ℕ) : Type 0 where
  pub first : take (ones m) (lanes none m) ≡ places (is_set m) 8
  pub small : Each1 (λ j. j < 16) (lanes none m)
  pub long : length (lanes none m) ≡ 16
  pub few : length (places (is_set m) 8) ≡ ones m

pub row : (none : List ℕ) (m : ℕ) → m < 256 → IsRow none m
unfolding row_is
row none m l =
    let js = lanes none m in
    let ps = places (is_set m) 8 in
    let all = both (same (take (ones m) js) ps && small js) (nat_eq (length js) 16 && nat_eq (length ps) (ones m)) (below_is (row_is none) 256 (rows_are none) m l) in
    let a = both (same (take (ones m) js) ps) (small js) all.0 in
    let b = both (nat_eq (length js) 16) (nat_eq (length ps) (ones m)) all.1 in
    record {
      first = same_equal (take (ones m) js) ps a.0;
      small = small_each js a.1;
      long = eqb-true (length js) 16 (is_true (nat_eq (length js) 16) b.0);
      few = eqb-true (length ps) (ones m) (is_true (nat_eq (length ps) (ones m)) b.1);
    }

-- no more places than bits
pub few_ones : (m : ℕ) → m < 256 → ones m ≤ 8
few_ones m l = ones-le 8 m l

-- a row may be asked for
pub row_ok : (none : List ℕ) (m : ℕ) → m < 256 → SwzOk w8 16 16 0 (lanes none m)
row_ok none m l = let r = row none m l in SwzOk-from_below w8 16 1 16 0 (lanes none m) (omega arith) (omega (arith, r.long)) r.small

-- and gives what its bits pick
pub row_picks : (none bytes : List ℕ) (m : ℕ) → m < 256 → take (ones m) (swz_l w8 16 (chunk 0 16 bytes) 0 (lanes none m)) ≡ picked (is_set m) bytes 8
row_picks none bytes m l =
    let r = row none m l in
    let js = lanes none m in
    let ps = places (is_set m) 8 in
    let xs = chunk 0 16 bytes in
    let ys = swz_l w8 16 xs 0 js in
    let n = ones m in
    let taken : length (take n js) ≡ length ps = ap length r.first in
    let all = length-take n js in
    let those = length-take n ys in
    let long = length-swz_l w8 16 xs 0 js in
    let each : (i : ℕ) → i < length (take n ys) → get_or (take n ys) i 0 ≡ get_or (map (byte bytes) ps) i 0 = λ i k.
    let in_row : i < length js = omega (arith, r.long) in
    let j = get_or js i 0 in
    let low : j < 16 = Each1-get_or (λ j. j < 16) js i 0 in_row r.small in
    let here : 16 * ((0 + i) / 16) + j ≡ j = omega (arith, r.long) in
    let place : j ≡ get_or ps i 0 = sym (get_or-take n js i 0 (omega arith)) ∙ ap (λ q. get_or q i 0) r.first in
    let there : 0 + j ≡ j = omega arith in
    get_or-take n ys i 0 (omega arith) ∙ get_or-swz_l_below w8 16 xs 0 js i in_row low ∙ ap (λ q. get_or xs q 0) here ∙ get_or-chunk 0 16 bytes j 0 low ∙ ap (byte bytes) (there ∙ place)
    ∙ sym (get_or-map (byte bytes) ps i 0 0 (omega (arith, r.few))) in
    ext_get_or 0 (take n ys) (map (byte bytes) ps) (omega (arith, r.few, r.long, length-map ps (byte bytes))) each ∙ sym (picked_places (is_set m) bytes 8)

-- what is stored after a place, up to a later one
pub stored_row : (room ys : List ℕ) (at n : ℕ) → n ≤ length ys → at + length ys ≤ length room → take (at + n) (put_chunk at room ys) ≡ take at room ++ take n ys
stored_row room ys at n few fits =
    let front = take at room in
    let rest = drop (length ys) (drop at room) in
    let long : length front ≡ at = omega (arith, length-take at room) in
    let place : at + n ≡ length front + n = omega arith in
    ap (take (at + n)) (put_chunk_is at room ys fits) ∙ ap (λ m. take m (front ++ (ys ++ rest))) place ∙ take-append-add front (ys ++ rest) n
    ∙ ap (λ x. front ++ x) (take-append-le n ys rest few)

-- so a row is stored
pub row_stored : (none bytes room : List ℕ) (at m : ℕ) → m < 256 → at + 16 ≤ length room
    → take (at + ones m) (put_chunk at room (swz_l w8 16 (chunk 0 16 bytes) 0 (lanes none m))) ≡ take at room ++ picked (is_set m) bytes 8
row_stored none bytes room at m l fits =
    let r = row none m l in
    let ys = swz_l w8 16 (chunk 0 16 bytes) 0 (lanes none m) in
    let long = length-swz_l w8 16 (chunk 0 16 bytes) 0 (lanes none m) in
    stored_row room ys at (ones m) (omega (arith, long, r.long, few_ones m l)) (omega (arith, long, r.long)) ∙ ap (λ x. take at room ++ x) (row_picks none bytes m l)
