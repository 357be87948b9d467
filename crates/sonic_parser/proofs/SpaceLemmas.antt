-- How far white space leads, and the first byte after it.
use Rattle.std.proofs.Common.{◌≡◌, ◌⊎◌, ℕ, zero, suc, ◌+◌, ◌-◌, ◌<◌, ◌≤◌, Bool, true, false, inl, inr, List, length, take, drop, get_or, sym, ap, ◌∙◌, arith}
use Rattle.std.proofs.lemmas.Bool.{cases_order, cases_eq, false≢true}
use Rattle.std.proofs.lemmas.Bool.Decides.{nat_tests}
use Rattle.std.proofs.lemmas.List.{get_or-take, get_or-drop}
use Rattle.std.proofs.lemmas.List.Sums.{prefix_len-drop_no, prefix_len-drop_yes}
use Rattle.sonic_blocks.specs.Bits.{is_set, IsNextBit}
use Rattle.sonic_blocks.specs.Firsts.{IsFirst, is_one_of}
use Rattle.sonic_blocks.proofs.BoolLemmas.{not_false, not_true}
use Rattle.sonic_blocks.proofs.RunLemmas.{run_passes}
use Rattle.sonic_text.specs.Places.{byte, is_space, after_space}
use Rattle.sonic_parser.specs.Internal.Spaces.{AreWords}
use Rattle.sonic_parser.specs.Internal.Unchecked.{IsMark}
use Rattle.sonic_parser.specs.declared.space.SpaceBlock.{SpaceBlock}

module _ (t : List ℕ) where
  -- it leads as far from a place as from n places on, where all between is white space
  over_places : (n p : ℕ) → p + n ≤ length t → ((k : ℕ) → p ≤ k → k < p + n → is_space (byte t k) ≡ true) → after_space t p ≡ after_space t (p + n)
  over_places zero p within all = ap (after_space t) (omega arith)
  over_places (suc n) p within all =
      let one = prefix_len-drop_yes is_space t p 0 (omega arith) (all p (omega arith) (omega arith)) in
      let rest = over_places n (p + 1) (omega arith) (λ k from to. all k (omega arith) (omega arith)) in
      let same : p + 1 + n ≡ p + suc n = omega arith in
      omega (arith, one, rest, ap (after_space t) same)

  -- so it does from a place between
  pub over_space : (p q : ℕ) → p ≤ q → q ≤ length t → ((k : ℕ) → p ≤ k → k < q → is_space (byte t k) ≡ true) → after_space t p ≡ after_space t q
  over_space p q order within all =
      let same : p + (q - p) ≡ q = omega arith in
      over_places (q - p) p (omega arith) (λ k from to. all k from (omega arith)) ∙ ap (after_space t) same

  -- it ends at a byte that is none
  pub to_word : (p q : ℕ) → p ≤ q → q < length t → ((k : ℕ) → p ≤ k → k < q → is_space (byte t k) ≡ true) → is_space (byte t q) ≡ false → q ≡ after_space t p
  to_word p q order within all none =
      let end = prefix_len-drop_no is_space t q 0 within none in
      let over = over_space p q order (omega arith) all in
      omega (arith, end, over)

  -- the first byte of a kind that is no white space is there, where that is of the kind
  pub first_mark : (test : ℕ → Bool) (p i : ℕ) → ((b : ℕ) → is_space b ≡ true → test b ≡ false) → test (byte t (after_space t p)) ≡ true → IsFirst test t p i → i ≡ after_space t p
  first_mark test p i apart here first = elim (cases_order i (after_space t p)) [
    | inl e ↦ e
    | inr (inl l) ↦ absurd (false≢true (sym (apart _ (run_passes is_space t p i first.from l)) ∙ first.here))
    | inr (inr l) ↦ absurd (false≢true (sym (first.before (after_space t p) (omega arith) l) ∙ here))
  ]

  -- a byte of a chunk is one of the text
  pub chunk_byte : (n p k : ℕ) → k < n → p + n ≤ length t → get_or (take n (take (length t - p) (drop p t))) k 0 ≡ byte t (p + k)
  chunk_byte n p k h within = get_or-take n (take (length t - p) (drop p t)) k 0 h ∙ get_or-take (length t - p) (drop p t) k 0 (omega arith) ∙ get_or-drop p t k 0

  module _ (block : SpaceBlock) (words : AreWords t block) where
    -- a bit that is clear is white space
    space_at : (k : ℕ) → block.start ≤ k → k < block.start + 64 → is_set block.words (k - block.start) ≡ false → is_space (byte t k) ≡ true
    space_at k from to none =
        let same : block.start + (k - block.start) ≡ k = omega arith in
        rw same at (not_false _ (sym (words.bits (k - block.start) (omega arith)) ∙ none))

    -- without a further bit white space leads on to the block's end
    pub to_block_end : (p : ℕ) → block.start ≤ p → p < block.start + 64 → ((k : ℕ) → p - block.start ≤ k → k < 64 → is_set block.words k ≡ false)
        → after_space t p ≡ after_space t (block.start + 64)
    to_block_end p from to none =
        over_space p (block.start + 64) (omega arith) words.within (λ k low high. space_at k (omega arith) high (none (k - block.start) (omega arith) (omega arith)))

    -- and else to the next one
    pub to_next_bit : (p n : ℕ) → block.start ≤ p → IsNextBit block.words (p - block.start) n → block.start + n ≡ after_space t p
    to_next_bit p n from next =
        to_word p (block.start + n) (omega (arith, next.later)) (omega (arith, next.within, words.within))
        (λ k low high. space_at k (omega arith) (omega (arith, next.within)) (next.before (k - block.start) (omega arith) (omega arith)))
        (not_true _ (sym (words.bits n next.within) ∙ next.here))

-- white space is none of two marks
pub apart_marks : {a b : ℕ} → IsMark a → IsMark b → (x : ℕ) → is_space x ≡ true → is_one_of a b b x ≡ false
apart_marks {a} {b} m n x space = elim (cases_eq x a) [
  | inl e ↦ absurd (false≢true (sym m.no_space ∙ ap is_space (sym e) ∙ space))
  | inr other ↦ elim (cases_eq x b) [
    | inl e ↦ absurd (false≢true (sym n.no_space ∙ ap is_space (sym e) ∙ space))
    | inr neither ↦ grind (arith, nat_tests)
  ]
]

-- one of two bytes is one of three
pub is_of : (a b x : ℕ) → (x ≡ a) ⊎ (x ≡ b) → is_one_of a b b x ≡ true
is_of a b x (inl e) = grind (arith, nat_tests)
is_of a b x (inr e) = grind (arith, nat_tests)
