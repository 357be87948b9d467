-- The law of one block: its masks and what carries over say which of its places are inside strings.
use Rattle.std.proofs.Common.{◌≡◌, ◌⊎◌, inl, inr, ℕ, zero, suc, ◌+◌, ◌-◌, ◌%◌, ◌^◌, ◌<◌, ◌≤◌, Bool, true, false, not, ◌&&◌, ◌==◌, cond, List, slice_index, refl, sym, ap, ap₂, ◌∙◌, arith, add-zero, subst}
use lib.Bits.{bit_and}
use Rattle.sonic_blocks.proofs.BitLemmas.{flip, set_and, set_flip}
use Rattle.sonic_blocks.proofs.BoolLemmas.{xor}
use Rattle.sonic_blocks.proofs.CountLemmas.{count_odd, escaped_suc, count_few}
use Rattle.sonic_blocks.proofs.OutsideLemmas.{escaped_next, inside_next, outside_next, escaped_start, inside_start}
use Rattle.sonic_blocks.specs.Bits.{is_set, is_odd, count_below, run_before, is_escaped, is_quote, is_inside}
use Rattle.sonic_blocks.specs.Outside.{holds_outside, is_escaped_at, is_inside_at, outside}
use Rattle.sonic_blocks.specs.Carried.{AreCarried}
use Rattle.sonic_blocks.specs.Views.{IsMask}

one_odd : (b : Bool) → is_odd (cond b 1 0) ≡ b
one_odd true = refl
one_odd false = refl

all_odd : (b : Bool) → is_odd (cond b (2 ^ 64 - 1) 0 % 2) ≡ b
all_odd true = refl
all_odd false = refl

all_or_none : (b : Bool) → (cond b (2 ^ 64 - 1) 0 ≡ 0) ⊎ (cond b (2 ^ 64 - 1) 0 ≡ 2 ^ 64 - 1)
all_or_none true = inr refl
all_or_none false = inl refl

at_most_one : (b : Bool) → cond b 1 0 < 2
at_most_one true = omega arith
at_most_one false = omega arith

-- where the count begins nothing carries over
pub carried_start : (t : List ℕ) (s : ℕ) → AreCarried t s s 0 0
carried_start t s = record {
  from = omega arith;
  escapes = sym (ap (λ b. cond b 1 0) (escaped_start t s));
  strings = sym (ap (λ b. cond b (2 ^ 64 - 1) 0) (inside_start t s));
}

pub carried_escape : {t : List ℕ} {s p e i : ℕ} → AreCarried t s p e i → e < 2
carried_escape {t} {s} {p} h = subst (λ x. x < 2) (sym h.escapes) (at_most_one (is_escaped_at t s p))

pub carried_string : {t : List ℕ} {s p e i : ℕ} → AreCarried t s p e i → (i ≡ 0) ⊎ (i ≡ 2 ^ 64 - 1)
carried_string {t} {s} {p} h = subst (λ x. (x ≡ 0) ⊎ (x ≡ 2 ^ 64 - 1)) (sym h.strings) (all_or_none (is_inside_at t s p))

-- a block at p with its backslashes and its quotes, and its bytes that are inside strings
pub record IsBlock (t : List ℕ) (s p e i backslash quote inside : ℕ) : Type 0 where
  pub carried : AreCarried t s p e i
  pub backslashes : IsMask t p 92 backslash
  pub quotes : IsMask t p 34 quote
  pub small : inside < 2 ^ 64
  pub bits : (k : ℕ) → k < 64 → is_set inside k ≡ is_inside (is_set backslash) (is_set quote) e (i % 2) k

module _ {t : List ℕ} {s p e i b q x : ℕ} (h : IsBlock t s p e i b q x) where
  later : (k : ℕ) → p + k + 1 ≡ p + suc k
  later k = omega arith

  from : (k : ℕ) → s ≤ p + k
  from k = omega (arith, h.carried.from)

  -- which places are escaped
  escapes : (k : ℕ) → k ≤ 64 → is_escaped (is_set b) e k ≡ is_escaped_at t s (p + k)
  unfolding run_before
  escapes zero l = ap is_odd h.carried.escapes ∙ one_odd (is_escaped_at t s p) ∙ ap (is_escaped_at t s) (sym (add-zero p))
  escapes (suc k) l =
      escaped_suc (is_set b) e k ∙ ap₂ (λ a c. a && not c) (h.backslashes k (omega arith)) (escapes k (omega arith))
      ∙ sym (escaped_next t s (p + k) (from k)) ∙ ap (is_escaped_at t s) (later k)

  -- and before which a string is open
  strings : (k : ℕ) → k ≤ 64 → is_odd (count_below (is_quote (is_set b) (is_set q) e) (i % 2) k) ≡ is_inside_at t s (p + k)
  unfolding count_below
  strings zero l = ap (λ n. is_odd (n % 2)) h.carried.strings ∙ all_odd (is_inside_at t s p) ∙ ap (is_inside_at t s) (sym (add-zero p))
  strings (suc k) l =
      count_odd (is_quote (is_set b) (is_set q) e) (i % 2) k
      ∙ ap₂ xor (strings k (omega arith)) (ap₂ (λ a c. a && not c) (h.quotes k (omega arith)) (escapes k (omega arith)))
      ∙ sym (inside_next t s (p + k) (from k)) ∙ ap (is_inside_at t s) (later k)

  -- the bits are those of the places inside
  pub inside_bit : (k : ℕ) → k < 64 → is_set x k ≡ is_inside_at t s (p + suc k)
  inside_bit k l = h.bits k l ∙ strings (suc k) (omega arith)

  -- what is left is what carries over to the next block
  pub carried_on : {f j : ℕ} → f ≡ cond (is_escaped (is_set b) e 64) 1 0 → j ≡ cond (is_inside (is_set b) (is_set q) e (i % 2) 63) (2 ^ 64 - 1) 0
      → AreCarried t s (p + 64) f j
  carried_on left right = record {
    from = from 64;
    escapes = left ∙ ap (λ a. cond a 1 0) (escapes 64 (omega arith));
    strings = right ∙ ap (λ a. cond a (2 ^ 64 - 1) 0) (strings 64 (omega arith));
  }

  -- the bits of a byte outside strings, on top of what was counted before the block, count it outside strings
  pub counted : (c mask : ℕ) → IsMask t p c mask → (k : ℕ) → k ≤ 64 → count_below (is_set (bit_and mask (flip x))) (outside t s p c) k ≡ outside t s (p + k) c
  unfolding count_below
  counted c mask is zero l = ap (λ n. outside t s n c) (sym (add-zero p))
  counted c mask is (suc k) l =
      let out = set_flip x k h.small (omega arith) ∙ ap not (inside_bit k (omega arith) ∙ ap (is_inside_at t s) (sym (later k))) in
      let here : is_set (bit_and mask (flip x)) k ≡ ((slice_index t (p + k) == c) && not (is_inside_at t s (p + k + 1))) =
      set_and mask (flip x) k ∙ ap₂ (λ a d. a && d) (is k (omega arith)) out in
      ap₂ (λ a n. cond a (suc n) n) here (counted c mask is k (omega arith)) ∙ sym (outside_next t s (p + k) (from k) c) ∙ ap (λ n. outside t s n c) (later k)

-- no more is counted than places were passed
pub outside_few : (t : List ℕ) (s k b : ℕ) → outside t s k b ≤ k - s
unfolding outside
outside_few t s k b = omega (arith, count_few (holds_outside t s b) 0 (k - s))
