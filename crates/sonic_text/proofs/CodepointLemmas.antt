-- The bytes of a code point in UTF-8, by its range, and what a buffer holds after writes to its prefix.
use Rattle.std.proofs.Common.{◌≡◌, ℕ, ◌+◌, ◌/◌, ◌%◌, ◌<◌, ◌≤◌, List, [], ◌∷◌, length, take, set, refl, arith}
use Rattle.std.proofs.lemmas.Bool.{lt-ltb, le-ltb}
use Rattle.std.specs.Char.{encode_utf8}

pub one_byte : (c : ℕ) → c < 0x80 → encode_utf8 c ≡ c ∷ []
unfolding encode_utf8
one_byte c h = rw (lt-ltb c 0x80 h) refl

pub two_bytes : (c : ℕ) → 0x80 ≤ c → c < 0x800 → encode_utf8 c ≡ (0xC0 + c / 0x40) ∷ (0x80 + c % 0x40) ∷ []
unfolding encode_utf8
two_bytes c l h = rw (le-ltb c 0x80 l, lt-ltb c 0x800 h) refl

pub three_bytes : (c : ℕ) → 0x800 ≤ c → c < 0x10000
    → encode_utf8 c ≡ (0xE0 + c / 0x1000) ∷ (0x80 + c / 0x40 % 0x40) ∷ (0x80 + c % 0x40) ∷ []
unfolding encode_utf8
three_bytes c l h =
    let m : 0x80 ≤ c = omega arith in
    rw (le-ltb c 0x80 m, le-ltb c 0x800 l, lt-ltb c 0x10000 h) refl

pub four_bytes : (c : ℕ) → 0x10000 ≤ c
    → encode_utf8 c ≡ (0xF0 + c / 0x40000) ∷ (0x80 + c / 0x1000 % 0x40) ∷ (0x80 + c / 0x40 % 0x40) ∷ (0x80 + c % 0x40) ∷ []
unfolding encode_utf8
four_bytes c l =
    let m : 0x80 ≤ c = omega arith in
    let n : 0x800 ≤ c = omega arith in
    rw (le-ltb c 0x80 m, le-ltb c 0x800 n, le-ltb c 0x10000 l) refl

pub put_one : (l : List ℕ) (x : ℕ) → length l ≡ 4 → take 1 (set l 0 x) ≡ x ∷ []
put_one [] x h = cc
put_one (a ∷ l) x h = refl

pub put_two : (l : List ℕ) (x y : ℕ) → length l ≡ 4 → take 2 (set (set l 0 x) 1 y) ≡ x ∷ y ∷ []
put_two [] x y h = cc
put_two (a ∷ []) x y h = cc
put_two (a ∷ b ∷ l) x y h = refl

pub put_three : (l : List ℕ) (x y z : ℕ) → length l ≡ 4 → take 3 (set (set (set l 0 x) 1 y) 2 z) ≡ x ∷ y ∷ z ∷ []
put_three [] x y z h = cc
put_three (a ∷ []) x y z h = cc
put_three (a ∷ b ∷ []) x y z h = cc
put_three (a ∷ b ∷ c ∷ l) x y z h = refl

pub put_four : (l : List ℕ) (x y z w : ℕ) → length l ≡ 4 → take 4 (set (set (set (set l 0 x) 1 y) 2 z) 3 w) ≡ x ∷ y ∷ z ∷ w ∷ []
put_four [] x y z w h = cc
put_four (a ∷ []) x y z w h = cc
put_four (a ∷ b ∷ []) x y z w h = cc
put_four (a ∷ b ∷ c ∷ []) x y z w h = cc
put_four (a ∷ b ∷ c ∷ d ∷ l) x y z w h = refl
