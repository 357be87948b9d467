-- The bits of a block are its marks, and the lowest of them is the next one.
use Rattle.std.proofs.Common.{◌≡◌, ◌∙◌, ℕ, suc, ◌+◌, ◌-◌, ◌<◌, ◌≤◌, ◌&&◌, inl, inr, false, not, List, arith, sym, ap, ap₂}
use Rattle.std.proofs.lemmas.Bool.{cases_lt}
use lib.Bits.{bit_and}
use Rattle.sonic_blocks.proofs.BitLemmas.{flip, set_and, set_flip}
use Rattle.sonic_blocks.proofs.BlockLemmas.{IsBlock, inside_bit}
use Rattle.sonic_blocks.specs.Bits.{is_set, IsNextBit}
use Rattle.sonic_blocks.specs.Outside.{is_inside_at}
use Rattle.sonic_text.specs.Places.{byte}
use Rattle.sonic_min.specs.Internal.Marks.{is_structural, is_mark, HasNoMark, IsNextMark, AreMarksAt}

-- the structurals of a block that are not inside strings are its marks
pub block_marks : (t : List ℕ) {p a i b q x : ℕ} (structurals : ℕ) → IsBlock t 0 p a i b q x → ((k : ℕ) → k < 64 → is_set structurals k ≡ is_structural (byte t (p + k)))
    → AreMarksAt t p (bit_and structurals (flip x))
block_marks t {p} {x = x} structurals block are k h =
    let next : p + suc k ≡ p + k + 1 = omega arith in
    let outside = set_flip x k block.small h ∙ ap not (inside_bit block k h ∙ ap (is_inside_at t 0) next) in
    set_and structurals (flip x) k ∙ ap₂ (λ a b. a && b) (are k h) outside

-- where no bit is set no mark is
pub none_after : (t : List ℕ) (p start from bits : ℕ) → AreMarksAt t p bits → HasNoMark t start p → from ≡ start - p
    → ((k : ℕ) → from ≤ k → k < 64 → is_set bits k ≡ false) → HasNoMark t start (p + 64)
none_after t p start from bits marks none e clear k l m = elim (cases_lt k p) [
  | inl before ↦ none k l before
  | inr after ↦
      let same : p + (k - p) ≡ k = omega arith in
      let here : is_mark t (p + (k - p)) ≡ false = sym (marks (k - p) (omega arith)) ∙ clear (k - p) (omega (arith, e)) (omega arith) in
      rw same at here
]

-- the lowest bit that is set is the next mark
pub next_at : (t : List ℕ) (p start from bits k : ℕ) → AreMarksAt t p bits → HasNoMark t start p → from ≡ start - p → IsNextBit bits from k → IsNextMark t start (p + k)
next_at t p start from bits k marks none e n = record {
  later = omega (arith, e, n.later);
  here = sym (marks k n.within) ∙ n.here;
  before = λ j l m. elim (cases_lt j p) [
    | inl before ↦ none j l before
    | inr after ↦
        let same : p + (j - p) ≡ j = omega arith in
        let here : is_mark t (p + (j - p)) ≡ false = sym (marks (j - p) (omega (arith, n.within))) ∙ n.before (j - p) (omega (arith, e)) (omega arith) in
        rw same at here
  ];
}
