-- Lanes of bytes that were compared, against a test of each byte.
use Rattle.std.proofs.Common.{◌≡◌, ℕ, ◌%◌, ◌^◌, ◌<◌, ◌≤◌, leb, ltb, Bool, false, not, cond, eqb, T, List, [], ◌∷◌, map, length, get_or, replicate, refl, ap, ap₂, ◌∙◌, arith, w8, Fits}
use Rattle.std.proofs.lemmas.Simd.{map-map, mask_l-mod, zip2_splat_left}
use Rattle.std.proofs.lemmas.List.{get_or-map, length-map}
use lib.Lanes.{zip2, mask_l, top, Each1}
use Rattle.sonic_blocks.specs.Bits.{is_set}
use Rattle.sonic_blocks.proofs.BoolLemmas.{same, same_is, all_below, below_is}
use Rattle.sonic_blocks.proofs.BitLemmas.{set_mask}

-- a lane of all ones where the bytes compare so
abbrev pub if_equal : ℕ → ℕ → ℕ
if_equal a b = cond (eqb a b) 255 0

abbrev pub if_other : ℕ → ℕ → ℕ
if_other a b = cond (not (eqb a b)) 255 0

abbrev pub if_below : ℕ → ℕ → ℕ
if_below a b = cond (ltb a b) 255 0

abbrev pub if_at_most : ℕ → ℕ → ℕ
if_at_most a b = cond (leb a b) 255 0

-- two maps of the same lanes, joined
pub joined : (op : ℕ → ℕ → ℕ) (f g : ℕ → ℕ) (v : List ℕ) {a b : List ℕ} → a ≡ map f v → b ≡ map g v → zip2 op a b ≡ map (λ x. op (f x) (g x)) v
joined op f g v p q = ap₂ (zip2 op) p q ∙ lanes v
  where
    lanes : (xs : List ℕ) → zip2 op (map f xs) (map g xs) ≡ map (λ x. op (f x) (g x)) xs
    lanes [] = refl
    lanes (x ∷ xs) = ap (λ r. op (f x) (g x) ∷ r) (lanes xs)

-- a byte in every lane, on the left
pub from_splat : (op : ℕ → ℕ → ℕ) (f : ℕ → ℕ) (y n : ℕ) (v : List ℕ) {a : List ℕ} → length v ≡ n → a ≡ map f v → zip2 op (replicate n y) a ≡ map (λ x. op y (f x)) v
from_splat op f y n v long p = ap (zip2 op (replicate n y)) p ∙ zip2_splat_left op y n (map f v) (length-map v f ∙ long) ∙ map-map (op y) f v

-- a test of each of the 256 bytes, by computation
pub each_byte : (f : ℕ → ℕ) (test : ℕ → Bool) → T (all_below (λ x. same (top 7 (f x)) (test x)) 256) → (x : ℕ) → x < 256 → top 7 (f x) ≡ test x
each_byte f test all x h = same_is _ _ (below_is (λ y. same (top 7 (f y)) (test y)) 256 all x h)

-- lanes whose highest bit is set exactly where the byte passes the test
pub tested : (f : ℕ → ℕ) (test : ℕ → Bool) → ((x : ℕ) → x < 256 → top 7 (f x) ≡ test x) → (v lanes : List ℕ) → length v ≤ 64 → Each1 (Fits w8) v → lanes ≡ map f v
    → mask_l (map (top 7) lanes) % 2 ^ 64 ≡ mask_l (map test v)
tested f test all v lanes short fits is = ap (λ l. mask_l l % 2 ^ 64) (ap (map (top 7)) is ∙ each_lane v fits) ∙ mask_l-mod (map test v) 64 (omega (arith, length-map v test))
  where
    each_lane : (xs : List ℕ) → Each1 (Fits w8) xs → map (top 7) (map f xs) ≡ map test xs
    each_lane [] fits = refl
    each_lane (x ∷ xs) fits = ap₂ (λ a b. a ∷ b) (all x fits.0.fits) (each_lane xs fits.1)

-- a bit of a mask is the test of its lane
pub set_tested : (test : ℕ → Bool) (v : List ℕ) (k : ℕ) → k < length v → is_set (mask_l (map test v)) k ≡ test (get_or v k 0)
set_tested test v k within = set_mask (map test v) k ∙ get_or-map test v k 0 false within
