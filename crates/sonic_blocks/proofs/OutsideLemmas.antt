-- The step from one place of a text to the next.
use Rattle.std.proofs.Common.{◌≡◌, ℕ, suc, ◌+◌, ◌-◌, ◌≤◌, false, not, ◌&&◌, ◌==◌, cond, List, slice_index, sym, ap, ap₂, ◌∙◌, arith}
use Rattle.sonic_blocks.specs.Bits.{is_odd, count_below, run_before, is_escaped}
use Rattle.sonic_blocks.specs.Outside.{holds, holds_quote, holds_outside, is_escaped_at, is_inside_at, outside}
use Rattle.sonic_blocks.proofs.BoolLemmas.{xor}
use Rattle.sonic_blocks.proofs.CountLemmas.{escaped_suc, count_odd}

-- at s nothing is escaped, inside or counted
pub escaped_start : (t : List ℕ) (s : ℕ) → is_escaped_at t s s ≡ false
unfolding is_escaped_at run_before
escaped_start t s = let none : s - s ≡ 0 = omega arith in ap (is_escaped (holds t s 92) 0) none

pub inside_start : (t : List ℕ) (s : ℕ) → is_inside_at t s s ≡ false
unfolding is_inside_at count_below
inside_start t s = let none : s - s ≡ 0 = omega arith in ap (λ n. is_odd (count_below (holds_quote t s) 0 n)) none

pub outside_start : (t : List ℕ) (s b : ℕ) → outside t s s b ≡ 0
unfolding outside count_below
outside_start t s b = let none : s - s ≡ 0 = omega arith in ap (count_below (holds_outside t s b) 0) none

module _ (t : List ℕ) (s k : ℕ) (from : s ≤ k) where
  further : k + 1 - s ≡ suc (k - s)
  further = omega arith

  here : s + (k - s) ≡ k
  here = omega arith

  pub escaped_next : is_escaped_at t s (k + 1) ≡ ((slice_index t k == 92) && not (is_escaped_at t s k))
  unfolding is_escaped_at
  escaped_next =
      let was = is_escaped (holds t s 92) 0 (k - s) in
      ap (is_escaped (holds t s 92) 0) further ∙ escaped_suc (holds t s 92) 0 (k - s) ∙ ap (λ n. (slice_index t n == 92) && not was) here

  pub inside_next : is_inside_at t s (k + 1) ≡ xor (is_inside_at t s k) ((slice_index t k == 34) && not (is_escaped_at t s k))
  unfolding is_inside_at is_escaped_at
  inside_next =
      let was = is_escaped (holds t s 92) 0 (k - s) in
      let odd = λ (n : ℕ). is_odd (count_below (holds_quote t s) 0 n) in
      ap odd further ∙ count_odd (holds_quote t s) 0 (k - s) ∙ ap (λ n. xor (odd (k - s)) ((slice_index t n == 34) && not was)) here

  pub outside_next : (b : ℕ) → outside t s (k + 1) b ≡ cond ((slice_index t k == b) && not (is_inside_at t s (k + 1))) (suc (outside t s k b)) (outside t s k b)
  unfolding outside is_inside_at count_below
  outside_next b =
      let was = count_below (holds_outside t s b) 0 (k - s) in
      ap (count_below (holds_outside t s b) 0) further
      ∙ ap₂ (λ x n. cond ((slice_index t x == b) && not (is_odd (count_below (holds_quote t s) 0 n))) (suc was) was) here (sym further)
