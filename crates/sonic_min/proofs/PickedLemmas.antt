-- What the bits of a block pick is what is kept of it.
use Rattle.std.proofs.Common.{◌≡◌, ◌∙◌, ℕ, zero, suc, ◌+◌, ◌-◌, ◌*◌, ◌/◌, ◌%◌, ◌^◌, ◌<◌, ◌≤◌, ◌==◌, ◌||◌, ◌&&◌, Bool, true, not, cond, List, [], ◌∷◌, ◌++◌, length, take, set, nat_lt, arith, refl, sym, ap, ap₂, add-zero, add-one, append_assoc}
use Rattle.std.proofs.lemmas.Bool.Decides.{nat_tests}
use Rattle.std.proofs.lemmas.List.{append-nil, get_or-take, length-take, take_more, take-set, take_more_set}
use Rattle.std.proofs.lemmas.Nat.Bits.{bit_at-lt, bit_at_ones, bit_at_cat_low, shr_and_one}
use Rattle.std.proofs.lemmas.Nat.{pow-add}
use Rattle.std.proofs.Math.Nat.{div-div-eq-div-mul}
use Rattle.std.proofs.lemmas.Simd.{take_more_put_chunk}
use Rattle.std.specs.Int.{bit_at}
use lib.Lanes.{put_chunk}
use Rattle.std.specs.Prelude.{slice_range}
use lib.Bits.{bit_and, bit_or}
use Rattle.sonic_blocks.proofs.BitLemmas.{set_or, zero_or_one}
use Rattle.sonic_blocks.proofs.BlockLemmas.{IsBlock, inside_bit}
use Rattle.sonic_blocks.specs.Bits.{is_set, is_inside}
use Rattle.sonic_blocks.specs.Carried.{AreCarried}
use Rattle.sonic_blocks.specs.Outside.{is_inside_at}
use Rattle.sonic_blocks.specs.Views.{AreMasks}
use Rattle.sonic_blocks.specs.declared.tape.Masks.{Masks}
use Rattle.sonic_text.specs.Places.{byte, is_space}
use Rattle.sonic_text.proofs.Parts.{byte_part, part_is, part_length}
use Rattle.sonic_min.specs.Internal.Kept.{picked, is_kept, kept}

-- one more byte
pub picked_next : (test : ℕ → Bool) (t : List ℕ) (n : ℕ) → picked test t (n + 1) ≡ picked test t n ++ cond (test n) (byte t n ∷ []) []
unfolding picked
picked_next test t n = ap (picked test t) (add-one n)

-- none
pub picked_none : (test : ℕ → Bool) (t : List ℕ) → picked test t 0 ≡ []
unfolding picked
picked_none test t = refl

-- a byte that is stored after what was picked, and stays where its bit is set
stored : (room : List ℕ) (end x n : ℕ) → end < length room → n < 2 → take (end + n) (set room end x) ≡ take end room ++ cond (n == 1) (x ∷ []) []
stored room end x n l small =
    zero_or_one (λ m. take (end + m) (set room end x) ≡ take end room ++ cond (m == 1) (x ∷ []) [])
    (ap (λ m. take m (set room end x)) (add-zero end) ∙ take-set room end x ∙ sym (append-nil (take end room))) (take_more_set room end x l) n small

pub picked_more : (front room block : List ℕ) (end bits k : ℕ) → end < length room → take end room ≡ front ++ picked (is_set bits) block k
    → take (end + bit_and (bits / 2 ^ k) 1) (set room end (byte block k)) ≡ front ++ picked (is_set bits) block (k + 1)
unfolding is_set
picked_more front room block end bits k l before =
    let one = cond (bit_at bits k == 1) (byte block k ∷ []) [] in
    ap (λ n. take (end + n) (set room end (byte block k))) (shr_and_one bits k) ∙ stored room end (byte block k) (bit_at bits k) l (bit_at-lt bits k)
    ∙ ap (λ x. x ++ one) before ∙ append_assoc front (picked (is_set bits) block k) one ∙ ap (λ x. front ++ x) (sym (picked_next (is_set bits) block k))

-- at most one byte stays
pub one_more : (bits k : ℕ) → bit_and (bits / 2 ^ k) 1 ≤ 1
one_more bits k = omega (arith, shr_and_one bits k, bit_at-lt bits k)

-- what is picked of some bytes, and then of a part
pub picked_part : (first test : ℕ → Bool) (t s : List ℕ) (p n : ℕ) → ((k : ℕ) → k < n → (test k ≡ first (p + k)) × (byte s k ≡ byte t (p + k)))
    → picked first t (p + n) ≡ picked first t p ++ picked test s n
unfolding picked
picked_part first test t s p zero h = ap (picked first t) (add-zero p) ∙ sym (append-nil (picked first t p))
picked_part first test t s p (suc n) h =
    let next : p + suc n ≡ p + n + 1 = omega arith in
    let same = h n (omega arith) in
    ap (picked first t) next ∙ picked_next first t (p + n)
    ∙ ap₂ (λ x y. x ++ y) (picked_part first test t s p n (λ k l. h k (omega arith))) (ap₂ (λ b c. cond b (c ∷ []) []) (sym same.0) (sym same.1))
    ∙ append_assoc (picked first t p) (picked test s n) (cond (test n) (byte s n ∷ []) [])

-- the bits of a row of eight are those of the word
row_bit : (x k j : ℕ) → j < 8 → is_set (x / 2 ^ k % 256) j ≡ is_set x (k + j)
unfolding is_set
row_bit x k j l =
    let a = x / 2 ^ k in
    let parts : a ≡ a / 2 ^ 8 * 2 ^ 8 + a % 2 ^ 8 = omega arith in
    let low : bit_at (a % 256) j ≡ bit_at a j = sym (ap (λ y. bit_at y j) parts ∙ bit_at_cat_low (a / 2 ^ 8) 8 (a % 2 ^ 8) j l) in
    let same : bit_at a j ≡ bit_at x (k + j) = ap (λ q. q % 2) (div-div-eq-div-mul x (2 ^ k) (2 ^ j) ∙ ap (λ m. x / m) (sym (pow-add 2 k j))) in
    ap (λ b. b == 1) (low ∙ same)

-- what a word picks of some bytes, and then a row of it of the next eight
pub eight_more : (bits : ℕ) (t : List ℕ) (k : ℕ) → k + 8 ≤ length t
    → picked (is_set bits) t (k + 8) ≡ picked (is_set bits) t k ++ picked (is_set (bits / 2 ^ k % 256)) (slice_range t k (length t)) 8
eight_more bits t k l =
    let long = part_length t k (length t) (omega arith) (omega arith) in
    picked_part (is_set bits) (is_set (bits / 2 ^ k % 256)) t (slice_range t k (length t)) k 8
    (λ j m. (row_bit bits k j m, byte_part (part_is t k (length t) (omega arith) (omega arith)) (k + j) j refl (omega arith)))

-- where all pass, all are picked
picked_all : (test : ℕ → Bool) (t : List ℕ) (n : ℕ) → n ≤ length t → ((k : ℕ) → k < n → test k ≡ true) → picked test t n ≡ take n t
unfolding picked
picked_all test t zero l h = refl
picked_all test t (suc n) l h =
    ap₂ (λ x b. x ++ cond b (byte t n ∷ []) []) (picked_all test t n (omega arith) (λ k m. h k (omega arith))) (h n (omega arith))
    ∙ sym (take_more t n 0 (omega arith)) ∙ ap (λ m. take m t) (add-one n)

-- so a word of ones picks all of a block
pub block_stored : (t room : List ℕ) (at : ℕ) → 64 ≤ length t → at + 64 ≤ length room
    → take (at + 64) (put_chunk at room (take 64 t)) ≡ take at room ++ picked (is_set (2 ^ 64 - 1)) t 64
unfolding is_set
block_stored t room at l fits =
    let long : length (take 64 t) ≡ 64 = omega (arith, length-take 64 t) in
    take_more_put_chunk at room (take 64 t) (at + 64) (omega arith) (omega arith)
    ∙ ap (λ x. take at room ++ x) (sym (picked_all (is_set (2 ^ 64 - 1)) t 64 l (λ k m. ap (λ b. b == 1) (bit_at_ones 64 k m))))

-- of a prefix is picked what is picked of the whole
picked_same : (test : ℕ → Bool) (t s : List ℕ) (n : ℕ) → ((k : ℕ) → k < n → byte s k ≡ byte t k) → picked test s n ≡ picked test t n
unfolding picked
picked_same test t s zero h = refl
picked_same test t s (suc n) h =
    ap₂ (λ x b. x ++ cond (test n) (b ∷ []) []) (picked_same test t s n (λ k l. h k (omega arith))) (h n (omega arith))

pub picked_prefix : (test : ℕ → Bool) (t : List ℕ) (n : ℕ) → n ≤ length t → picked test (take n t) (length (take n t)) ≡ picked test t n
picked_prefix test t n l =
    let long : length (take n t) ≡ n = omega (arith, length-take n t) in
    ap (picked test (take n t)) long ∙ picked_same test t (take n t) n (λ k m. get_or-take n t k 0 m)

-- before the end a place is in the text
in_text : (k n : ℕ) → k < n → nat_lt k n ≡ true
in_text k n h = grind (arith, nat_tests)

-- what is kept of n more bytes, by the bits of those that are no white space and of those inside strings
pub block_kept : {t : List ℕ} {p a i x : ℕ} {masks : Masks} (n : ℕ) → IsBlock t 0 p a i masks.backslash masks.quote x → AreMasks t p masks
    → n ≤ 64 → p + n ≤ length t → kept t (p + n) ≡ kept t p ++ picked (is_set (bit_or masks.nonspace x)) (slice_range t p (length t)) n
block_kept {t} {p} {x = x} {masks} n block are small within =
    let e = length t in
    let long = part_length t p e (omega arith) (omega arith) in
    picked_part (is_kept t) (is_set (bit_or masks.nonspace x)) t (slice_range t p e) p n
    (λ k o. (bit k (omega arith) (omega arith), byte_part (part_is t p e (omega arith) (omega arith)) (p + k) k refl (omega arith)))
  where
    bit : (k : ℕ) → k < 64 → p + k < length t → is_set (bit_or masks.nonspace x) k ≡ is_kept t (p + k)
    bit k o q =
        let next : p + suc k ≡ p + k + 1 = omega arith in
        set_or masks.nonspace x k
        ∙ ap₂ (λ b c. b || c) (are.nonspace k o ∙ ap (λ b. b && not (is_space (byte t (p + k)))) (in_text (p + k) (length t) q)) (inside_bit block k o ∙ ap (is_inside_at t 0) next)

-- a block with its masks and its bytes that are inside strings
pub block_of : {t : List ℕ} {p a i x : ℕ} {masks : Masks} → AreCarried t 0 p a i → AreMasks t p masks → x < 2 ^ 64
    → ((k : ℕ) → k < 64 → is_set x k ≡ is_inside (is_set masks.backslash) (is_set masks.quote) a (i % 2) k) → IsBlock t 0 p a i masks.backslash masks.quote x
block_of carried masks small bits = record { carried = carried; backslashes = masks.backslash; quotes = masks.quote; small = small; bits = bits }
