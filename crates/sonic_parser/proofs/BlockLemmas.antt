-- Where a container ends, seen by blocks: at a bracket that closes, the first at which as many are closed as opened.
use Rattle.std.proofs.Common.{◌≡◌, ◌≢◌, inl, inr, ℕ, suc, ◌+◌, ◌-◌, ◌%◌, ◌^◌, ◌<◌, ◌≤◌, ◌==◌, ◌&&◌, Bool, true, false, not, cond, List, slice_index, refl, sym, ap, ap₂, ◌∙◌, arith, add-zero, w64}
use Rattle.std.proofs.lemmas.Bool.{cases_lt, false≢true}
use Rattle.std.proofs.lemmas.Bool.Decides.{nat_tests}
use Rattle.std.proofs.lemmas.Nat.{and_mask}
use Rattle.std.proofs.lemmas.Nat.Bits.{bit_at_lowest, bit_at_ones, bit_at-trailing_ones}
use Rattle.std.specs.Int.{trailing_ones}
use Rattle.sonic_blocks.proofs.BoolLemmas.{xor, not_false}
use Rattle.sonic_parser.specs.Internal.Unchecked.{IsInsideString}
use lib.Bits.{bit_and, and_le_l}
use lib.Count.{ones}
use Rattle.sonic_blocks.specs.Bits.{is_set, is_inside, count_below}
use Rattle.sonic_blocks.specs.Closings.{StaysOpen, IsClosingBit}
use Rattle.sonic_blocks.specs.Outside.{is_escaped_at, is_inside_at, outside}
use Rattle.sonic_blocks.specs.Carried.{AreCarried}
use Rattle.sonic_blocks.specs.Views.{AreMasks, IsMask}
use Rattle.sonic_blocks.specs.declared.tape.Masks.{Masks}
use Rattle.sonic_parser.specs.declared.blocks.Block.{Block}
use Rattle.sonic_parser.specs.declared.blocks.Known.{Known}
use Rattle.sonic_parser.specs.Internal.Blocks.{AreKnown, IsInContainer}
use Rattle.sonic_blocks.proofs.BitLemmas.{flip, set_and, set_flip}
use Rattle.sonic_blocks.proofs.BlockLemmas.{IsBlock, carried_start, counted, inside_bit}
use Rattle.sonic_blocks.proofs.CountLemmas.{count_from}
use Rattle.sonic_blocks.proofs.OnesLemmas.{ones_all}
use Rattle.sonic_blocks.proofs.OutsideLemmas.{escaped_next, inside_next, outside_next, outside_start}
use Rattle.sonic_text.specs.declared.kind.Kind.{Kind}
use Rattle.sonic_text.specs.declared.kind.Kind.TheVariants.{Array, Object}
use Rattle.sonic_text.specs.Brackets.{opened, closed, Closes, LeavesString}
use Rattle.sonic_text.specs.Places.{byte}
use Rattle.sonic_text.specs.Values.{opening, closing}
use Rattle.sonic_text.proofs.BracketLemmas.{clear_start}
use Rattle.sonic_text.proofs.LevelLemmas.{opens_own}

first : (a b : Bool) → (a && b) ≡ true → a ≡ true
first true b h = refl
first false b h = absurd (false≢true h)

other : (kind : Kind) (b : ℕ) → (b == opening kind) ≡ true → (b == closing kind) ≡ false
other Array b h = grind (arith, nat_tests)
other Object b h = grind (arith, nat_tests)

-- what is counted never falls
grows : (t : List ℕ) (s k b : ℕ) → s ≤ k → outside t s k b ≤ outside t s (k + 1) b
grows t s k b from = at ((slice_index t k == b) && not (is_inside_at t s (k + 1))) (outside_next t s k from b)
  where
    at : (x : Bool) → outside t s (k + 1) b ≡ cond x (suc (outside t s k b)) (outside t s k b) → outside t s k b ≤ outside t s (k + 1) b
    at true e = omega arith
    at false e = omega arith

-- a container ends with a bracket that closes
last_closes : {kind : Kind} {t : List ℕ} {s : ℕ} (k : ℕ) → byte t s ≡ opening kind → s ≤ k → Closes kind t s (k + 1) → ((byte t k == closing kind) && not (is_inside_at t s (k + 1))) ≡ true
last_closes {kind} {t} {s} k begins from h = at ((byte t k == closing kind) && not (is_inside_at t s (k + 1))) (outside_next t s k from (closing kind))
  where
    at : (x : Bool) → closed kind t s (k + 1) ≡ cond x (suc (closed kind t s k)) (closed kind t s k) → x ≡ true
    at true e = refl
    at false e = elim (cases_lt s k) [
      | inl l ↦ absurd (omega (arith, e, h.level, h.unclosed k l (omega arith), grows t s k (opening kind) from))
      | inr l ↦ (let same : k ≡ s = omega arith in absurd (omega (arith, e, h.level, ap (λ x. closed kind t s x) same, ap (λ x. opened kind t s (x + 1)) same, (opens_own t s kind (clear_start t s) begins).level, outside_start t s (opening kind), outside_start t s (closing kind))))
    ]

-- a block as its masks have it
pub string_block : {t : List ℕ} {s p e i x : ℕ} {masks : Masks} → AreCarried t s p e i → AreMasks t p masks → x < 2 ^ 64
    → ((k : ℕ) → k < 64 → is_set x k ≡ is_inside (is_set masks.backslash) (is_set masks.quote) e (i % 2) k) → IsBlock t s p e i masks.backslash masks.quote x
string_block carried masks small bits = record { carried = carried; backslashes = masks.backslash; quotes = masks.quote; small = small; bits = bits }

-- a block of which so much is known before, with its masks, its brackets, and its bytes that are inside strings
pub record IsBracketBlock (kind : Kind) (t : List ℕ) (s p : ℕ) (known : Known) (masks : Masks) (l r x : ℕ) : Type 0 where
  pub known_before : AreKnown kind t s p known
  pub block : IsBlock t s p known.in_escape known.in_string masks.backslash masks.quote x
  pub opens : IsMask t p (opening kind) l
  pub closes : IsMask t p (closing kind) r
  pub opens_small : l < 2 ^ 64
  pub closes_small : r < 2 ^ 64

pub bracket_block : {kind : Kind} {t : List ℕ} {s p : ℕ} {known : Known} {masks : Masks} {l r x : ℕ} → AreKnown kind t s p known → AreMasks t p masks → IsMask t p (opening kind) l × IsMask t p (closing kind) r
    → l < 2 ^ 64 → r < 2 ^ 64 → x < 2 ^ 64 → ((k : ℕ) → k < 64 → is_set x k ≡ is_inside (is_set masks.backslash) (is_set masks.quote) known.in_escape (known.in_string % 2) k)
    → IsBracketBlock kind t s p known masks l r x
bracket_block known masks brackets opens closes small bits = record {
  known_before = known;
  block = string_block known.carried masks small bits;
  opens = brackets.0;
  closes = brackets.1;
  opens_small = opens;
  closes_small = closes;
}

module _ {kind : Kind} {t : List ℕ} {s p : ℕ} {known : Known} {masks : Masks} {l r x : ℕ} (h : IsBracketBlock kind t s p known masks l r x) where
  -- no bracket opens and closes
  pub apart : (k : ℕ) → k < 64 → is_set (bit_and l (flip x)) k ≡ true → is_set (bit_and r (flip x)) k ≡ false
  apart k m set =
      let here = sym (h.opens k m) ∙ first (is_set l k) (is_set (flip x) k) (sym (set_and l (flip x) k) ∙ set) in
      set_and r (flip x) k ∙ ap (λ a. a && is_set (flip x) k) (h.closes k m ∙ other kind (byte t (p + k)) here)

  opened_to : (k : ℕ) → k ≤ 64 → count_below (is_set (bit_and l (flip x))) known.depth k + closed kind t s p ≡ opened kind t s (p + k)
  opened_to k m = omega (arith, h.known_before.level, count_from (is_set (bit_and l (flip x))) known.depth k, count_from (is_set (bit_and l (flip x))) (opened kind t s p) k, counted h.block (opening kind) l h.opens k m)

  closed_to : (k : ℕ) → k ≤ 64 → count_below (is_set (bit_and r (flip x))) 0 k + closed kind t s p ≡ closed kind t s (p + k)
  closed_to k m = omega (arith, count_from (is_set (bit_and r (flip x))) (closed kind t s p) k, counted h.block (closing kind) r h.closes k m)

  -- what the next block is to know
  pub level_on : known.depth + ones (bit_and l (flip x)) + closed kind t s p ≡ opened kind t s (p + 64)
  level_on =
      omega (arith, opened_to 64 (omega arith), count_from (is_set (bit_and l (flip x))) known.depth 64, ones_all (bit_and l (flip x)) (omega (arith, h.opens_small, and_le_l l (flip x))))

  pub closed_on : ones (bit_and r (flip x)) + closed kind t s p ≡ closed kind t s (p + 64)
  closed_on = omega (arith, closed_to 64 (omega arith), ones_all (bit_and r (flip x)) (omega (arith, h.closes_small, and_le_l r (flip x))))

  module _ (begins : byte t s ≡ opening kind) where
    -- a container that ends in the block ends at a bit that closes, with as many closed as opened
    ends_at : {j : ℕ} (k : ℕ) → Closes kind t s j → k < 64 → j ≡ p + suc k → (is_set (bit_and r (flip x)) k ≡ true) × (count_below (is_set (bit_and r (flip x))) 0 (suc k) ≡ count_below (is_set (bit_and l (flip x))) known.depth (suc k))
    ends_at {j} k c m end =
        let next : j ≡ p + k + 1 = omega arith in
        let closes_next : Closes kind t s (p + k + 1) = rw (← next) c in
        let last : ((byte t (p + k) == closing kind) && not (is_inside_at t s (p + k + 1))) ≡ true = last_closes (p + k) begins (omega (arith, h.known_before.carried.from)) closes_next in
        let bit : p + suc k ≡ p + k + 1 = omega arith in (
          set_and r (flip x) k ∙ ap₂ (λ a b. a && b) (h.closes k m) (set_flip x k h.block.small m ∙ ap not (inside_bit h.block k m ∙ ap (is_inside_at t s) bit)) ∙ last,
          omega (arith, opened_to (suc k) (omega arith), closed_to (suc k) (omega arith), rw (end) at c.level),
        )

    -- if every bracket of the block leaves it open, it ends later
    pub ends_later : ((k : ℕ) → k < 64 → StaysOpen (bit_and l (flip x)) (bit_and r (flip x)) known.depth k) → (j : ℕ) → Closes kind t s j → p < j → p + 64 < j
    ends_later stays j c later = elim (cases_lt (p + 64) j) [
      | inl more ↦ more
      | inr within ↦
          (let k = j - p - 1 in
          let end : j ≡ p + suc (j - p - 1) = omega arith in
          let f = ends_at (j - p - 1) c (omega arith) end in
          absurd (stays (j - p - 1) (omega arith) f.0 f.1))
    ]

    -- if a bracket of the block closes it, it ends there
    pub ends_here : {z : ℕ} → IsClosingBit (bit_and l (flip x)) (bit_and r (flip x)) known.depth z → (j : ℕ) → Closes kind t s j → p < j → p + z + 1 ≡ j
    ends_here {z} found j c later = elim (cases_lt j (p + z + 1)) [
      | inl less ↦
          (let end : j ≡ p + suc (j - p - 1) = omega arith in
          let f = ends_at (j - p - 1) c (omega (arith, found.within)) end in
          absurd (found.before (j - p - 1) (omega arith) f.0 f.1))
      | inr same ↦ elim (cases_lt (p + z + 1) j) [
        | inl more ↦
            (let next : p + suc z ≡ p + z + 1 = omega arith in
            absurd (omega (arith, c.unclosed (p + z + 1) (omega (arith, h.known_before.carried.from)) more, found.level, rw (next) at (opened_to (suc z) (omega (arith, found.within))), rw (next) at (closed_to (suc z) (omega (arith, found.within))))))
        | inr end ↦ omega arith
      ]
    ]

-- the first bit of a block's braces tells the kind of the container that begins there
module _ (t : List ℕ) (p w : ℕ) (braces : IsMask t p 123 w) where
  lowest_bit : (bit_and w 1 == 1) ≡ (byte t p == 123)
  unfolding is_set
  lowest_bit = ap (λ n. n == 1) (and_mask w 1 ∙ sym (bit_at_lowest w)) ∙ braces 0 (omega arith) ∙ ap (λ n. byte t n == 123) (add-zero p)

  pub brace_first : (kind : Kind) → byte t p ≡ opening kind → bit_and w 1 ≡ 1 → Object ≡ kind
  brace_first Array begins set = absurd (false≢true (sym (lowest_bit ∙ ap (λ b. b == 123) begins) ∙ ap (λ n. n == 1) set))
  brace_first Object begins set = refl

  pub bracket_first : (kind : Kind) → byte t p ≡ opening kind → bit_and w 1 ≢ 1 → Array ≡ kind
  bracket_first Array begins clear = refl
  bracket_first Object begins clear = let set : (bit_and w 1 == 1) ≡ true = lowest_bit ∙ ap (λ b. b == 123) begins in absurd (clear (grind (arith, nat_tests, set)))

pub same_kind : (t : List ℕ) (p : ℕ) {found kind : Kind} → found ≡ kind → byte t p ≡ opening kind → byte t p ≡ opening found
same_kind t p same begins = begins ∙ sym (ap opening same)

-- where the container begins nothing is known before
pub known_start : (kind : Kind) (t : List ℕ) (s : ℕ) → AreKnown kind t s s (record { depth = 0; in_string = 0; in_escape = 0 })
known_start kind t s = record {
  level = omega (arith, outside_start t s (opening kind), outside_start t s (closing kind));
  carried = carried_start t s;
}

-- a block before the end of a container is in it
pub in_container : {kind : Kind} {t : List ℕ} {s j : ℕ} {block : Block} {before : Known} → byte t s ≡ opening kind → AreMasks t block.place block.masks
    → AreKnown kind t s block.place before → Closes kind t s j → block.place < j → IsInContainer kind t s j block before
in_container begins masks known closes later = record { begins = begins; closes = closes; later = later; masks = masks; known = known }

-- a string that was open before the block
module _ {t : List ℕ} {s p e i bs qs x start : ℕ} (h : IsBlock t s p e i bs qs x) (open_before : (k : ℕ) → start ≤ k → k ≤ p → is_inside_at t s k ≡ true) (after : start ≤ p) where
  stays : (z : ℕ) → z ≤ 64 → ((k : ℕ) → k < z → is_set x k ≡ true) → (k : ℕ) → start ≤ k → k ≤ p + z → is_inside_at t s k ≡ true
  stays z l set k from to = elim (cases_lt p k) [
    | inr before ↦ open_before k from before
    | inl later ↦
        (let same : p + suc (k - p - 1) ≡ k = omega arith in
        ap (is_inside_at t s) (sym same) ∙ sym (inside_bit h (k - p - 1) (omega arith)) ∙ set (k - p - 1) (omega arith))
  ]

  string_at : (z : ℕ) → z < 64 → ((k : ℕ) → k < z → is_set x k ≡ true) → is_set x z ≡ false → LeavesString t s start (p + z + 1)
  string_at z l set clear =
      let inside = stays z (omega arith) set in
      let next : p + suc z ≡ p + z + 1 = omega arith in
      let from : s ≤ p + z = omega (arith, h.carried.from) in
      let out : is_inside_at t s (p + z + 1) ≡ false = ap (is_inside_at t s) (sym next) ∙ sym (inside_bit h z l) ∙ clear in
      let turned : xor true ((byte t (p + z) == 34) && not (is_escaped_at t s (p + z))) ≡ false =
      ap (λ b. xor b ((byte t (p + z) == 34) && not (is_escaped_at t s (p + z)))) (sym (inside (p + z) (omega arith) (omega arith))) ∙ sym (inside_next t s (p + z) from) ∙ out in
      let quote = first (byte t (p + z) == 34) (not (is_escaped_at t s (p + z))) (not_false _ turned) in
      record {
        later = omega arith;
        inside = λ k a b. inside k (omega arith) (omega arith);
        clear = record {
          from = omega arith;
          no_escape = escaped_next t s (p + z) from ∙ ap (λ b. b && not (is_escaped_at t s (p + z))) (no_slash (byte t (p + z)) quote);
          no_string = out;
        };
      }
    where
      no_slash : (b : ℕ) → (b == 34) ≡ true → (b == 92) ≡ false
      no_slash b e = grind (arith, nat_tests)

  -- a bit that is clear ends it
  pub string_here : x + 1 < 2 ^ 64 → LeavesString t s start (p + trailing_ones w64 x + 1)
  unfolding is_set
  string_here some =
      let f = bit_at-trailing_ones w64 x some in
      string_at (trailing_ones w64 x) f.0 (λ k l. ap (λ b. b == 1) (f.2 k l)) (ap (λ b. b == 1) f.1)

  -- where none is, it goes on
  pub string_later : x ≡ 2 ^ 64 - 1 → (k : ℕ) → start ≤ k → k ≤ p + 64 → is_inside_at t s k ≡ true
  unfolding is_set
  string_later all = stays 64 (omega arith) (λ k l. ap (λ y. is_set y k) all ∙ ap (λ b. b == 1) (bit_at_ones 64 k l))

-- what carries over to a block that begins inside a string
pub carried_inside : {t : List ℕ} {s p : ℕ} → IsInsideString t s p → AreCarried t s p 0 (2 ^ 64 - 1)
carried_inside {t} {s} {p} h = record {
  from = h.from;
  escapes = sym (ap (λ b. cond b 1 0) h.no_escape);
  strings = sym (ap (λ b. cond b (2 ^ 64 - 1) 0) h.in_string);
}
