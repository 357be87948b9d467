-- Lanes that were compared with several bytes, and joined before they became bits.
use Rattle.std.proofs.Common.{◌≡◌, ◌∙◌, ℕ, ◌%◌, ◌^◌, ◌<◌, Bool, false, cond, eqb, T, List, [], ◌∷◌, map, length, get_or, refl, ap, ap₂, arith, w8, Fits}
use Rattle.std.proofs.lemmas.List.{get_or-map, length-map}
use Rattle.std.proofs.lemmas.Simd.{mask_l-mod}
use lib.Bits.{bit_or}
use lib.Lanes.{zip2, mask_l, top, Each1}
use Rattle.sonic_blocks.proofs.BitLemmas.{set_mask}
use Rattle.sonic_blocks.proofs.BoolLemmas.{same, same_is, all_below, below_is}
use Rattle.sonic_blocks.specs.Bits.{is_set}

-- a lane of ones where the bytes are equal
abbrev pub ones_if_equal : ℕ → ℕ → ℕ
ones_if_equal a b = cond (eqb a b) 255 0

-- two comparisons of the same lanes
pub either_lane : (f g : ℕ → ℕ) (v : List ℕ) {a b : List ℕ} → a ≡ map f v → b ≡ map g v → zip2 bit_or a b ≡ map (λ x. bit_or (f x) (g x)) v
either_lane f g v p q = ap₂ (zip2 bit_or) p q ∙ lanes v
  where
    lanes : (xs : List ℕ) → zip2 bit_or (map f xs) (map g xs) ≡ map (λ x. bit_or (f x) (g x)) xs
    lanes [] = refl
    lanes (x ∷ xs) = ap (λ r. bit_or (f x) (g x) ∷ r) (lanes xs)

-- the bits of lanes whose highest bit is set exactly where the byte passes a test, as each of the 256 bytes shows
pub lane_bits : (f : ℕ → ℕ) (test : ℕ → Bool) → T (all_below (λ x. same (top 7 (f x)) (test x)) 256) → (v lanes : List ℕ) → length v ≡ 64 → Each1 (Fits w8) v → lanes ≡ map f v
    → (k : ℕ) → k < 64 → is_set (mask_l (map (top 7) lanes) % 2 ^ 64) k ≡ test (get_or v k 0)
lane_bits f test all v lanes long fits is k h =
    ap (λ l. is_set (mask_l l % 2 ^ 64) k) (ap (map (top 7)) is ∙ each v fits)
    ∙ ap (λ n. is_set n k) (mask_l-mod (map test v) 64 (omega (arith, long, length-map v test)))
    ∙ set_mask (map test v) k ∙ get_or-map test v k 0 false (omega (arith, long))
  where
    each : (xs : List ℕ) → Each1 (Fits w8) xs → map (top 7) (map f xs) ≡ map test xs
    each [] fits = refl
    each (x ∷ xs) fits = ap₂ (λ a b. a ∷ b) (same_is _ _ (below_is (λ y. same (top 7 (f y)) (test y)) 256 all x fits.0.fits)) (each xs fits.1)
