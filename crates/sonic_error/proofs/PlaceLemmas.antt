-- Steps of the walks that find the ends of a fragment.
use Rattle.std.proofs.Common.{◌≡◌, ℕ, suc, zero, ◌+◌, ◌-◌, ◌<◌, ◌≤◌, Bool, true, false, List, length, get_or, refl, sym, ap, ◌∙◌, arith}
use Rattle.std.proofs.lemmas.Bool.Decides.{nat_tests}
use Rattle.sonic_error.specs.Places.{greatest_up_to, least_from, is_continuation, may_start, may_end}

-- the search goes on below a number that fails
greatest_below : (p : ℕ → Bool) (n : ℕ) → 0 < n → p n ≡ false → greatest_up_to p n ≡ greatest_up_to p (n - 1)
greatest_below p zero some fails = absurd (omega arith)
greatest_below p (suc n) some fails = let same : suc n - 1 ≡ n = omega arith in rw (fails, same)

-- the search ends at a number that passes
greatest_here : (p : ℕ → Bool) (n : ℕ) → p n ≡ true → greatest_up_to p n ≡ n
greatest_here p zero passes = refl
greatest_here p (suc n) passes = rw passes

-- a byte that goes on with a character is no start near the offset
may_start_not : (text : List ℕ) (offset start : ℕ) → is_continuation (get_or text start 0) ≡ true
    → offset - start ≤ 16 → may_start text offset start ≡ false
may_start_not text offset start continues near = rw continues (grind (arith, nat_tests))

-- nor is the place after it an end
may_end_not : (text : List ℕ) (offset end : ℕ) → is_continuation (get_or text (end - 1) 0) ≡ true
    → end - offset ≤ 16 → may_end text offset end ≡ false
may_end_not text offset end continues near = rw continues (grind (arith, nat_tests))

-- after a byte that goes on with no character there is an end
may_end_yes : (text : List ℕ) (offset end : ℕ) → is_continuation (get_or text (end - 1) 0) ≡ false
    → may_end text offset end ≡ true
may_end_yes text offset end stops = rw stops refl

-- a step back to the start of what is shown
pub start_step : (text : List ℕ) (offset start : ℕ) → 0 < start → offset - start ≤ 16
    → is_continuation (get_or text start 0) ≡ true
    → greatest_up_to (may_start text offset) (start - 1) ≡ greatest_up_to (may_start text offset) start
start_step text offset start some near continues =
    sym (greatest_below (may_start text offset) start some (may_start_not text offset start continues near))

-- a step on to the end of what is shown
pub end_step : (text : List ℕ) (offset end : ℕ) → end < length text → end - offset ≤ 16
    → is_continuation (get_or text (end - 1) 0) ≡ true
    → least_from (may_end text offset) (end + 1) (length text) ≡ least_from (may_end text offset) end (length text)
end_step text offset end more near continues =
    let p : ℕ → Bool = λ left. may_end text offset (length text - left) in
    let back : length text - (length text - end) ≡ end = omega arith in
    let fails : p (length text - end) ≡ false = rw back (may_end_not text offset end continues near) in
    let some : 0 < length text - end = omega arith in
    let less : length text - (end + 1) ≡ length text - end - 1 = omega arith in
    ap (λ left. length text - left)
    (ap (greatest_up_to p) less ∙ sym (greatest_below p (length text - end) some fails))

-- the end of what is shown is found
pub end_here : (text : List ℕ) (offset end : ℕ) → end < length text
    → is_continuation (get_or text (end - 1) 0) ≡ false
    → least_from (may_end text offset) end (length text) ≡ end
end_here text offset end more stops =
    let p : ℕ → Bool = λ left. may_end text offset (length text - left) in
    let back : length text - (length text - end) ≡ end = omega arith in
    let passes : p (length text - end) ≡ true = rw back (may_end_yes text offset end stops) in
    rw (greatest_here p (length text - end) passes, back)
