use Rattle.std.proofs.Common.{◌≡◌, ℕ, ◌+◌, ◌==◌, Bool, cond, List, drop, ap, ◌∙◌, arith}
use Rattle.std.specs.Prelude.{count_by}
use Rattle.std.proofs.lemmas.List.Sums.{sum_by-append, count_by-le-length}
use Rattle.std.proofs.lemmas.Simd.{chunk-drop, length-chunk, ones-mask_l}
use lib.Count.{ones}
use lib.Lanes.{chunk}
use Rattle.sonic_blocks.proofs.count.count_of.Goals as goal

-- a part and what follows it
counted : (test : ℕ → Bool) (i n : ℕ) (t : List ℕ) → count_by test (drop i t) ≡ count_by test (chunk i n t) + count_by test (drop (i + n) t)
counted test i n t = ap (count_by test) (chunk-drop i n t) ∙ sum_by-append (λ x. cond (test x) 1 0) (chunk i n t) (drop (i + n) t)

pub loop-at-preserved : goal.loop-at-preserved
loop-at-preserved c =
    let test = λ (x : ℕ). x == c.args.byte in
    let part = chunk c.loop-at.at 64 c.args.text.now in
    let found = ap ones c.equal_to-found.ensures ∙ ones-mask_l test part in
    let few = count_by-le-length test part in
    let long = length-chunk c.loop-at.at 64 c.args.text.now (omega arith) in
    let whole = counted test c.loop-at.at 64 c.args.text.now in
    record {
      within = omega arith;
      few = omega (arith, c.loop-at.invariant.few, found, few, long);
      counted = omega (arith, c.loop-at.invariant.counted, found, whole);
    }
