-- The addition that finds escaped bytes, against runs of backslashes.
use Rattle.std.proofs.Common.{◌≡◌, ℕ, zero, suc, ◌+◌, ◌-◌, ◌*◌, ◌/◌, ◌%◌, ◌^◌, ◌<◌, Bool, true, false, not, ◌&&◌, ◌==◌, ◌||◌, cond, T, refl, sym, ap, ap₂, ◌∙◌, arith, mod-lt, pow_pos}
use Rattle.std.specs.Bool.{FalseIff}
use lib.Bits.{bit_and, bit_or, bit_xor, and_le_l, or_lt}
use Rattle.sonic_blocks.specs.Bits.{is_set, is_odd, run_before, is_escaped}
use Rattle.sonic_blocks.proofs.BoolLemmas.{xor, same, same_is, is_true, below_is, both, implied, each3, each3_is, equal3}
use Rattle.sonic_blocks.proofs.BitLemmas.{zero_or_one, set_and, set_or, set_xor, flip, set_flip, set_word, shifted, set_shifted_low, set_shifted, set_carry_zero, set_carry_suc}
use Rattle.sonic_blocks.proofs.CountLemmas.{escaped_suc}
use Rattle.sonic_blocks.proofs.SumLemmas.{most, one_if, carry, set_sum, sum_carries}

-- a run of backslashes begins here, at an odd place, where the place is a backslash and doesn't follow one
abbrev begins : Bool → Bool → Bool → Bool
begins follows live even = (live && not even) && not follows

-- what is known of a place: where it follows a backslash and is one, it is escaped as its place and the carry into it say; where it follows none, there is no carry, and it isn't escaped
abbrev agrees : Bool → Bool → Bool → Bool → Bool → Bool
agrees follows live even carried escaped = cond follows (same escaped (xor (not even) carried) || not live) (not carried && not escaped)

-- so it is known of the next place, and the sum's bit says whether that is escaped
abbrev goes_on : Bool → Bool → Bool → Bool → Bool → Bool → Bool
goes_on follows live even carried escaped next =
    not (agrees follows live even carried escaped)
    || (agrees live next (not even) (most (begins follows live even) live carried) (live && not escaped)
    && same (xor (not even) (xor (xor (begins follows live even) live) carried) && live) (live && not escaped))

abbrev ends : Bool → Bool → Bool → Bool → Bool
ends follows live carried escaped = not (agrees follows live false carried escaped) || same (most (begins follows live false) live carried) (live && not escaped)

next_known : (f l v k e next : Bool) → T (goes_on f l v k e next)
next_known f l v k e next = each3_is (goes_on f l v) (each3_is (λ a b c. each3 (goes_on a b c)) tt f l v) k e next

last_known : (f l k e : Bool) → T (ends f l k e)
last_known true l k e = each3_is (ends true) tt l k e
last_known false l k e = each3_is (ends false) tt l k e

abbrev even : ℕ
even = 0x5555_5555_5555_5555

even_turns : (k : ℕ) → k < 63 → is_set even (suc k) ≡ not (is_set even k)
unfolding is_set
even_turns k h = same_is _ _ (below_is (λ j. same (is_set even (suc j)) (not (is_set even j))) 63 tt k h)

even_begins : is_set even 0 ≡ true
unfolding is_set
even_begins = refl

even_ends : is_set even 63 ≡ false
unfolding is_set
even_ends = refl

-- where a sum of words is none, a carry is left
overflows : (r k : Bool) (n : ℕ) → FalseIff r (n < 2 ^ 64) → n / 2 ^ 64 ≡ one_if k → r ≡ k
overflows true true n h e = refl
overflows false false n h e = refl
overflows true false n h e = absurd (h (omega arith))
overflows false true n h e = (let no : ⊥ = omega arith in absurd no)

module _ (c b : ℕ) (bit : c < 2) (small : b < 2 ^ 64) where
  abbrev live : ℕ
  live = bit_and b (flip c)

  abbrev follows : ℕ
  follows = bit_or (shifted 1 live) c

  abbrev starts : ℕ
  starts = bit_and (bit_and live (flip even)) (flip follows)

  live_small : live < 2 ^ 64
  live_small = omega (arith, small, and_le_l b (flip c))

  starts_small : starts < 2 ^ 64
  starts_small = omega (arith, live_small, and_le_l live (flip even), and_le_l (bit_and live (flip even)) (flip follows))

  abbrev is_live : ℕ → Bool
  is_live = is_set live

  abbrev is_escaped_at : ℕ → Bool
  is_escaped_at = is_escaped (is_set b) c

  escaped_first : is_escaped_at 0 ≡ (c == 1)
  unfolding run_before
  escaped_first = zero_or_one (λ x. is_odd x ≡ (x == 1)) refl refl c bit

  live_at : (k : ℕ) → k < 64 → is_live k ≡ (is_set b k && not (is_set c k))
  live_at k h = set_and b (flip c) k ∙ ap (λ x. is_set b k && x) (set_flip c k (omega (arith, bit)) h)

  live_first : is_live 0 ≡ (is_set b 0 && not (c == 1))
  live_first = live_at 0 (omega arith) ∙ ap (λ x. is_set b 0 && not x) (set_carry_zero c bit)

  live_suc : (k : ℕ) → suc k < 64 → is_live (suc k) ≡ is_set b (suc k)
  live_suc k h = live_at (suc k) h ∙ ap (λ x. is_set b (suc k) && not x) (set_carry_suc c k bit) ∙ equal3 (λ x y z. x && true) (λ x y z. x) tt (is_set b (suc k)) true true

  follows_first : is_set follows 0 ≡ (c == 1)
  follows_first = set_or (shifted 1 live) c 0 ∙ ap₂ (λ x y. x || y) (set_shifted_low 1 live 0 (omega arith) (omega arith)) (set_carry_zero c bit)

  follows_suc : (k : ℕ) → suc k < 64 → is_set follows (suc k) ≡ is_live k
  follows_suc k h =
      let back : suc k - 1 ≡ k = omega arith in
      set_or (shifted 1 live) c (suc k) ∙ ap₂ (λ x y. x || y) (set_shifted 1 live (suc k) (omega arith) h ∙ ap is_live back) (set_carry_suc c k bit)
      ∙ equal3 (λ x y z. x || false) (λ x y z. x) tt (is_live k) true true

  starts_at : (k : ℕ) → k < 64 → is_set starts k ≡ begins (is_set follows k) (is_live k) (is_set even k)
  starts_at k h =
      set_and (bit_and live (flip even)) (flip follows) k
      ∙ ap₂ (λ x y. x && y) (set_and live (flip even) k ∙ ap (λ x. is_live k && x) (set_flip even k (omega arith) h))
      (set_flip follows k (or_lt 64 (shifted 1 live) c (mod-lt (live * 2 ^ 1) (pow_pos 64)) (omega (arith, bit))) h)

  -- a byte is escaped by a live backslash that isn't escaped
  escaped_next : (k : ℕ) → k < 64 → is_escaped_at (suc k) ≡ (is_live k && not (is_escaped_at k))
  escaped_next zero h =
      escaped_suc (is_set b) c 0 ∙ ap (λ x. is_set b 0 && not x) escaped_first
      ∙ sym (ap₂ (λ x y. x && not y) live_first escaped_first ∙ equal3 (λ x y z. (x && not y) && not y) (λ x y z. x && not y) tt (is_set b 0) (c == 1) true)
  escaped_next (suc k) h = escaped_suc (is_set b) c (suc k) ∙ ap (λ x. x && not (is_escaped_at (suc k))) (sym (live_suc k h))

  abbrev into : ℕ → Bool
  into = carry starts live

  carry_next : (k : ℕ) → k < 64 → into (suc k) ≡ most (begins (is_set follows k) (is_live k) (is_set even k)) (is_live k) (into k)
  unfolding carry
  carry_next k h = ap (λ x. most x (is_live k) (into k)) (starts_at k h)

  abbrev Known : ℕ → Type 0
  Known k = agrees (is_set follows k) (is_live k) (is_set even k) (into k) (is_escaped_at k) ≡ true

  abbrev next_at : (k : ℕ) → Bool → Bool
  next_at k next =
      agrees (is_live k) next (not (is_set even k)) (most (begins (is_set follows k) (is_live k) (is_set even k)) (is_live k) (into k)) (is_live k && not (is_escaped_at k))

  after : (k : ℕ) → Known k → (next : Bool)
      → T (next_at k next
      && same (xor (not (is_set even k)) (xor (xor (begins (is_set follows k) (is_live k) (is_set even k)) (is_live k)) (into k)) && is_live k)
      (is_live k && not (is_escaped_at k)))
  after k known next = implied _ _ (next_known (is_set follows k) (is_live k) (is_set even k) (into k) (is_escaped_at k) next) known

  known : (k : ℕ) → k < 64 → Known k
  unfolding carry
  known zero h =
      (λ t. agrees (follows_first t) (live_first t) (even_begins t) false (escaped_first t))
      ∙ equal3 (λ x y z. agrees x (y && not x) true false x) (λ x y z. true) tt (c == 1) (is_set b 0) true
  known (suc k) h =
      let low : k < 64 = omega arith in
      (λ t. agrees (follows_suc k h t) (is_live (suc k)) (even_turns k (omega arith) t) (carry_next k low t) (escaped_next k low t))
      ∙ is_true _ (both (next_at k (is_live (suc k))) _ (after k (known k low) (is_live (suc k)))).0

  pub escaped_bits : (s : ℕ) → s ≡ (starts + live) % 2 ^ 64 → (k : ℕ) → k < 64 → is_set (bit_and (bit_xor even (shifted 1 s)) follows) k ≡ is_escaped_at k
  escaped_bits s e zero h =
      set_and (bit_xor even (shifted 1 s)) follows 0
      ∙ ap₂ (λ x y. x && y) (set_xor even (shifted 1 s) 0 ∙ ap₂ xor even_begins (set_shifted_low 1 s 0 (omega arith) h)) follows_first ∙ sym escaped_first
  escaped_bits s e (suc k) h =
      let low : k < 64 = omega arith in
      let back : suc k - 1 ≡ k = omega arith in
      let sum = set_shifted 1 s (suc k) (omega arith) h ∙ ap (is_set s) back ∙ ap (λ n. is_set n k) e ∙ set_word (starts + live) k low ∙ set_sum starts live k ∙ ap (λ x. xor (xor x (is_live k)) (into k)) (starts_at k low) in
      set_and (bit_xor even (shifted 1 s)) follows (suc k)
      ∙ ap₂ (λ x y. x && y) (set_xor even (shifted 1 s) (suc k) ∙ ap₂ xor (even_turns k (omega arith)) sum) (follows_suc k h)
      ∙ same_is _ _ (both (next_at k true) _ (after k (known k low) true)).1 ∙ sym (escaped_next k low)

  pub escaped_carry : (r : Bool) → FalseIff r (starts + live < 2 ^ 64) → r ≡ is_escaped_at 64
  escaped_carry r h =
      let low : 63 < 64 = omega arith in
      let at = λ (v : Bool). agrees (is_set follows 63) (is_live 63) v (into 63) (is_escaped_at 63) in
      overflows r (into 64) (starts + live) h (sum_carries starts live starts_small live_small)
      ∙ carry_next 63 low ∙ ap (λ v. most (begins (is_set follows 63) (is_live 63) v) (is_live 63) (into 63)) even_ends
      ∙ same_is _ _ (implied _ _ (last_known (is_set follows 63) (is_live 63) (into 63) (is_escaped_at 63)) (ap at (sym even_ends) ∙ known 63 low)) ∙ sym (escaped_next 63 low)

-- 0 has no bit
none_set : (k : ℕ) → is_set 0 k ≡ false
none_set zero = set_carry_zero 0 (omega arith)
none_set (suc k) = set_carry_suc 0 k (omega arith)

-- without a backslash no byte after another one is escaped
pub no_backslash_before : (c k : ℕ) → is_escaped (is_set 0) c (suc k) ≡ false
no_backslash_before c k = escaped_suc (is_set 0) c k ∙ ap (λ x. x && not (is_escaped (is_set 0) c k)) (none_set k)

-- and the first one is as the block before says
pub no_backslash_bits : (c : ℕ) → c < 2 → (k : ℕ) → k < 64 → is_set c k ≡ is_escaped (is_set 0) c k
no_backslash_bits c bit zero h = set_carry_zero c bit ∙ sym (escaped_first c 0 bit (omega arith))
no_backslash_bits c bit (suc k) h = set_carry_suc c k bit ∙ sym (no_backslash_before c k)

-- words without a common bit are apart
pub apart : (a b : ℕ) → bit_and a b ≡ 0 → (k : ℕ) → k < 64 → is_set a k ≡ true → is_set b k ≡ false
apart a b e k h t = ap (λ x. x && is_set b k) (sym t) ∙ sym (set_and a b k) ∙ ap (λ n. is_set n k) e ∙ none_set k
