-- From one closing bracket of a block to the next.
use Rattle.std.proofs.Common.{◌≡◌, ◌≢◌, inl, inr, ℕ, suc, ◌+◌, ◌-◌, ◌^◌, ◌<◌, ◌≤◌, Bool, true, false, ◌&&◌, nat_le, nat_lt, cond, refl, sym, ap, ◌∙◌, arith, w64}
use Rattle.std.proofs.lemmas.Bool.{cases_lt, false≢true}
use Rattle.std.proofs.lemmas.Bool.Decides.{nat_tests}
use Rattle.std.specs.Int.{trailing_zeros}
use lib.Bits.{bit_and, and_le_r}
use lib.Count.{ones}
use Rattle.sonic_blocks.specs.Bits.{is_set, count_below}
use Rattle.sonic_blocks.specs.Closings.{StaysOpen, IsClosingBit}
use Rattle.sonic_blocks.proofs.BitLemmas.{set_zero}
use Rattle.sonic_blocks.proofs.CountLemmas.{count_from, count_none, count_grows, count_few}
use Rattle.sonic_blocks.proofs.LowestLemmas.{lowest_within, lowest_set, none_lower, cleared}
use Rattle.sonic_blocks.proofs.OnesLemmas.{ones_all, ones_lower}

-- the bits below y were looked at: so many of them close, and the rest is left
pub record IsScanned (opens closes depth rest closed y : ℕ) : Type 0 where
  pub within : y ≤ 64
  pub left : (k : ℕ) → k < 64 → is_set rest k ≡ (is_set closes k && nat_le y k)
  pub count : closed ≡ count_below (is_set closes) 0 y
  pub before : (k : ℕ) → k < y → StaysOpen opens closes depth k

and_true : (a b : Bool) → b ≡ true → (a && b) ≡ a
and_true true b h = h
and_true false b h = refl

both : (a b : Bool) → (a && b) ≡ true → (a ≡ true) × (b ≡ true)
both true b h = (refl, h)
both false b h = absurd (false≢true h)

is_false : (a : Bool) → (a ≡ true → ⊥) → a ≡ false
is_false true h = absurd (h refl)
is_false false h = refl

-- where more are open than close, all stay open
pub few_close : (opens closes depth : ℕ) → closes < 2 ^ 64 → ones closes < depth → (k : ℕ) → k < 64 → StaysOpen opens closes depth k
few_close opens closes depth fits less k l set same =
    omega (arith, less, ones_all closes fits, count_grows (is_set closes) 0 (suc k) 64 (omega arith), same, count_from (is_set opens) depth (suc k))

module _ {opens closes depth : ℕ} where
  pub scanned_start : IsScanned opens closes depth closes 0 0
  unfolding count_below
  scanned_start = record {
    within = omega arith;
    left = λ k l. sym (and_true (is_set closes k) (nat_le 0 k) (grind (arith, nat_tests)));
    count = refl;
    before = λ k l. absurd (omega arith);
  }

  module _ {rest closed y : ℕ} (s : IsScanned opens closes depth rest closed y) where
    -- what is left has the bits that close from y on
    still_closes : (k : ℕ) → k < 64 → y ≤ k → is_set rest k ≡ is_set closes k
    still_closes k l from = s.left k l ∙ and_true (is_set closes k) (nat_le y k) (grind (arith, nat_tests))

    pub scanned_end : rest ≡ 0 → (k : ℕ) → k < 64 → StaysOpen opens closes depth k
    scanned_end none k l = elim (cases_lt k y) [
      | inl low ↦ s.before k low
      | inr high ↦ (λ set. absurd (false≢true (sym (ap (λ x. is_set x k) none ∙ set_zero k) ∙ still_closes k l high ∙ set)))
    ]

    pub closed_few : closed ≤ 64
    closed_few = omega (arith, s.count, s.within, count_few (is_set closes) 0 y)

    module _ (some : 0 < rest) (small : rest < 2 ^ 64) (fits : opens < 2 ^ 64) (apart : (k : ℕ) → k < 64 → is_set opens k ≡ true → is_set closes k ≡ false) where
      abbrev next : ℕ
      next = trailing_zeros w64 rest

      within : next < 64
      within = lowest_within w64 rest some small

      marked : (is_set closes next ≡ true) × (nat_le y next ≡ true)
      marked = both (is_set closes next) (nat_le y next) (sym (s.left next within) ∙ lowest_set w64 rest some small)

      later : y ≤ next
      later = grind (arith, nat_tests, marked.1)

      -- none closes before it
      between : (k : ℕ) → y ≤ k → k < next → is_set closes k ≡ false
      between k from to = sym (still_closes k (omega (arith, to, within)) from) ∙ none_lower w64 rest some small k to

      closed_to : count_below (is_set closes) 0 (suc next) ≡ closed + 1
      unfolding count_below
      closed_to =
          let none = count_none (is_set closes) 0 y next later between in
          ap (λ b. cond b (suc (count_below (is_set closes) 0 next)) (count_below (is_set closes) 0 next)) marked.0
          ∙ ap suc (none ∙ sym s.count) ∙ omega arith

      opened_to : count_below (is_set opens) depth (suc next) ≡ depth + ones (bit_and opens (rest - 1))
      unfolding count_below
      opened_to =
          let no = is_false (is_set opens next) (λ set. false≢true (sym (apart next within set) ∙ marked.0)) in
          let off : (k : ℕ) → k < 64 → is_set opens k ≡ true → is_set rest k ≡ false = λ k l set. s.left k l ∙ ap (λ b. b && nat_le y k) (apart k l set) in
          ap (λ b. cond b (suc (count_below (is_set opens) depth next)) (count_below (is_set opens) depth next)) no
          ∙ count_from (is_set opens) depth next ∙ ap (λ m. depth + m) (sym (ones_lower rest some small opens fits off))

      -- what comes before it stays open
      until : (k : ℕ) → k < next → StaysOpen opens closes depth k
      until k l = elim (cases_lt k y) [
        | inl low ↦ s.before k low
        | inr high ↦ (λ set. absurd (false≢true (sym (between k high l) ∙ set)))
      ]

      pub closes_here : depth + ones (bit_and opens (rest - 1)) ≡ closed + 1 → IsClosingBit opens closes depth next
      closes_here e = record { within = within; is_closing = marked.0; level = closed_to ∙ sym e ∙ sym opened_to; before = until }

      pub scanned_on : (depth + ones (bit_and opens (rest - 1)) ≢ closed + 1) → IsScanned opens closes depth (bit_and rest (rest - 1)) (closed + 1) (suc next)
      scanned_on other = record {
        within = within;
        left = λ k l. cleared w64 rest some small k ∙ ap (λ b. b && nat_lt next k) (s.left k l) ∙ shorter (is_set closes k) k;
        count = sym closed_to;
        before = λ k l. elim (cases_lt k next) [
          | inl low ↦ until k low
          | inr high ↦ (let same : k ≡ next = omega arith in λ set level. other (sym opened_to ∙ ap (λ x. count_below (is_set opens) depth (suc x)) (sym same) ∙ sym level ∙ ap (λ x. count_below (is_set closes) 0 (suc x)) same ∙ closed_to))
        ];
      }
        where
          shorter : (a : Bool) (k : ℕ) → ((a && nat_le y k) && nat_lt next k) ≡ (a && nat_le (suc next) k)
          shorter true k = grind (arith, nat_tests, later)
          shorter false k = refl

pub fewer : (rest : ℕ) → 0 < rest → bit_and rest (rest - 1) < rest
fewer rest some = omega (arith, and_le_r rest (rest - 1))
