-- Which children were visited, as the bits of a word say it.
use Rattle.std.proofs.Common.{◌≡◌, inl, inr, ap, sym, ◌∙◌, refl, ℕ, zero, suc, ◌-◌, ◌*◌, ◌/◌, ◌%◌, ◌^◌, ◌==◌, ◌<◌, ◌≤◌, List, ◌∷◌, Bool, true, false, length, set, get_or, arith, w64}
use Rattle.std.proofs.lemmas.Bool.{cases_eq}
use Rattle.std.proofs.lemmas.List.{ext_get_or, length-set, get_or-set_same, get_or-set_other}
use Rattle.std.proofs.lemmas.Nat.Bits.{bit_at_lowest, bit_at-suc, bit_at_set_same, bit_at_set_other, shr_and_one}
use Rattle.std.proofs.lemmas.Option.{slice_get-get_or}
use Rattle.std.specs.Int.{bit_at}
use Rattle.std.specs.Int.RustNames.{bit_and, bit_or}
use Rattle.std.specs.Prelude.{Some, slice_get, nat_eq, replicate, count_by, not}
use Rattle.sonic_find.proofs.WalkLemmas.List.{one_less}
use Rattle.sonic_find.specs.Internal.Visits.{bits_of, visits, FitsFlags, AreVisits}
use Rattle.sonic_find.specs.declared.visited.Flags.{Flags}
use Rattle.sonic_find.specs.declared.visited.Flags.TheVariants.{Few}

-- there are so many
pub bits_long : (n word : ℕ) → length (bits_of n word) ≡ n
bits_long zero word = refl
bits_long (suc n) word = ap suc (bits_long n (word / 2))

-- each is the bit with its number
bits_at : (n word c : ℕ) → c < n → get_or (bits_of n word) c false ≡ (bit_at word c == 1)
bits_at zero word c l = absurd (omega arith)
bits_at (suc n) word zero l = ap (λ b. b == 1) (sym (bit_at_lowest word))
bits_at (suc n) word (suc c) l = bits_at n (word / 2) c (omega arith) ∙ ap (λ b. b == 1) (sym (bit_at-suc word c))

pub bits_get : (n word c : ℕ) → c < n → slice_get (bits_of n word) c ≡ Some (bit_at word c == 1)
bits_get n word c l =
    let long = bits_long n word in
    slice_get-get_or (bits_of n word) c false (omega arith) ∙ ap Some (bits_at n word c l)

-- of no bits none is set
pub bits_none : (n : ℕ) → bits_of n 0 ≡ replicate n false
bits_none zero = refl
bits_none (suc n) = ap (λ xs. false ∷ xs) (bits_none n)

-- one more is set
pub bits_set : (n word c : ℕ) → c < n → n ≤ 64 → bits_of n (bit_or word (1 * 2 ^ c % 2 ^ 64)) ≡ set (bits_of n word) c true
bits_set n word c l few =
    let now = bit_or word (1 * 2 ^ c % 2 ^ 64) in
    let long = bits_long n word in
    let more = bits_long n now in
    let same : length (bits_of n now) ≡ length (set (bits_of n word) c true) = more ∙ sym (length-set (bits_of n word) c true ∙ long) in
    ext_get_or false (bits_of n now) (set (bits_of n word) c true) same
    (λ i h. elim (cases_eq i c) [
      | inl e ↦ rw e (bits_at n now c l ∙ ap (λ b. b == 1) (bit_at_set_same w64 word c (omega arith)) ∙ sym (get_or-set_same (bits_of n word) c true false (omega arith)))
      | inr other ↦ bits_at n now i (omega arith) ∙ ap (λ b. b == 1) (bit_at_set_other w64 word c (omega arith) i other) ∙ sym (get_or-set_other (bits_of n word) c i true false other ∙ bits_at n word i (omega arith))
    ])

-- a child of few is one of those for which a word has bits
pub few_within : {n word c : ℕ} {flags : Flags} {now : List Bool} → visits n flags ≡ now → flags ≡ Few word → FitsFlags n flags → c < length now → (c < n) × (n ≤ 64)
few_within {n} {word} {c} {flags} {now} view is fits within =
    let few : n ≤ 64 = rw is at fits in
    let there : c < length (bits_of n word) = rw (← view, is) at within in
    (omega (arith, bits_long n word), few)

-- it was visited where its bit is set
pub few_has : {n word c : ℕ} {flags : Flags} {now : List Bool} → visits n flags ≡ now → flags ≡ Few word → c < n
    → slice_get now c ≡ Some (nat_eq (bit_and (word / 2 ^ c) 1) 1)
few_has {n} {word} {c} view is l = rw (← view, is) (bits_get n word c l ∙ ap (λ b. Some (nat_eq b 1)) (sym (shr_and_one word c)))

-- once it is set, the child was visited
pub few_visited : (n : ℕ) {word c : ℕ} {flags : Flags} {now : List Bool} → visits n flags ≡ now → flags ≡ Few word → FitsFlags n flags → c < length now
    → bits_of n (bit_or word (1 * 2 ^ c % 2 ^ 64)) ≡ set now c true
few_visited n {word} {c} view is fits within = let few = few_within view is fits within in rw (← view, is) (bits_set n word c few.0 few.1)

-- and one less was not
pub less_are_visits : {count left : ℕ} {flags : Flags} (was : List Bool) (c : ℕ) → left ≡ count_by not was → slice_get was c ≡ Some false → visits count flags ≡ set was c true
    → FitsFlags count flags → AreVisits (record { flags = flags; count = count; left = left - 1 })
less_are_visits was c counted unvisited now fits = record { left = rw now (omega (arith, counted, one_less was c unvisited)); fits = fits }
