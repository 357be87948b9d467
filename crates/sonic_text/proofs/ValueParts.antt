-- A value in a text is in each part of it that holds it, and so is a string with a backslash.
use Rattle.std.proofs.Common.{◌≡◌, ◌∙◌, ◌↔◌, ℕ, ◌+◌, ◌-◌, ◌<◌, ◌≤◌, Bool, List, length, arith, refl, sym}
use Rattle.std.specs.Prelude.{slice_range}
use Rattle.sonic_text.specs.Places.{byte}
use Rattle.sonic_text.specs.Numbers.{IsNumber}
use Rattle.sonic_text.specs.Strings.{strict, IsEscapedString}
use Rattle.sonic_text.specs.Values.{IsValue}
use Rattle.sonic_text.specs.Values.IsValue.{number}
use Rattle.sonic_text.proofs.Items.{closing_not_end}
use Rattle.sonic_text.proofs.Numbers.{number_longer}
use Rattle.sonic_text.proofs.Places.{byte_after}
use Rattle.sonic_text.proofs.Values.{value-longer}
use Rattle.sonic_text.proofs.Parts.{IsPart, part_is, part_length}
use Rattle.sonic_text.proofs.Same.{Agrees, EndsNumber, ends_number, agree_end, up_to, number_same}
use Rattle.sonic_text.proofs.SameValues.{StartsItem, value_same}
use Rattle.sonic_text.proofs.Within.{value_within}

-- up to each place of a part the two agree, where the end of the text is such a byte
part_agrees : {P : ℕ → Type 0} {t u : List ℕ} {d j k : ℕ} → P 0 → IsPart t u d → j ≡ d + k → k ≤ length u → Agrees P t u d 0 j k
part_agrees {u = u} {d} {j} {k} z part e l =
    up_to (agree_end (d + length u) (omega arith) part (rw (byte_after u (length u) (omega arith)) z)) j k (omega arith) (omega arith)

-- as it ends a number
pub number_agrees : {t u : List ℕ} {d j k : ℕ} → IsPart t u d → j ≡ d + k → k ≤ length u → Agrees EndsNumber t u d 0 j k
number_agrees = part_agrees (ends_number 0 refl)

-- and is no byte that an item never begins with
pub item_agrees : {t u : List ℕ} {d j k : ℕ} → IsPart t u d → j ≡ d + k → k ≤ length u → Agrees StartsItem t u d 0 j k
item_agrees = part_agrees (refl, λ kind e. closing_not_end kind (sym e))

-- a value is in its own text, from the beginning to the end
pub value_of_part : {m : Bool} {t : List ℕ} {i j : ℕ} → IsValue m t i j → j ≤ length t → IsValue m (slice_range t i j) 0 (length (slice_range t i j))
value_of_part {t = t} {i} {j} h l =
    let n = value-longer h in
    let e = part_length t i j (omega arith) l in
    value_same (number_agrees (part_is t i j (omega arith) l) (omega arith) (omega arith)) (omega arith) h

-- so is a number
pub number_of_part : {t : List ℕ} {i j : ℕ} → IsNumber t i j → IsNumber (slice_range t i j) 0 (length (slice_range t i j))
number_of_part {t} {i} {j} h =
    let n = number_longer h in
    let l : j ≤ length t = value_within {m = strict} (number h) in
    let e = part_length t i j (omega arith) l in
    number_same i 0 (omega arith) (number_agrees (part_is t i j (omega arith) l) (omega arith) (omega arith)) h

-- a string with a backslash is one in its own text, and back
pub escaped_of_part : (t : List ℕ) (i j : ℕ) → i < j → j ≤ length t
    → IsEscapedString t i j ↔ IsEscapedString (slice_range t i j) 0 (length (slice_range t i j))
escaped_of_part t i j l m =
    let u = slice_range t i j in
    let e : i + length u ≡ j = part_length t i j (omega arith) m in
    let part = part_is t i j (omega arith) m in
    let b : byte u 0 ≡ byte t i = part.bytes i 0 (omega arith) (omega arith) in (
      (λ h. (b ∙ h.0, h.1 - i, omega (arith, h.2), omega (arith, h.2, h.3), part.bytes h.1 (h.1 - i) (omega (arith, h.2)) (omega (arith, h.2, h.3)) ∙ h.4)),
      (λ h. (sym b ∙ h.0, i + h.1, omega (arith, h.2), omega (arith, h.3), sym (part.bytes (i + h.1) h.1 (omega arith) (omega (arith, h.3))) ∙ h.4)),
    )
