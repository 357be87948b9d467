-- What a value means that is no container, by its first byte.
use Rattle.std.proofs.Common.{◌≡◌, ◌≢◌, ◌⊎◌, inl, inr, ℕ, ◌≤◌, List, codes, arith, sym, ◌∙◌}
use Rattle.std.specs.Prelude.{true, false}
use Rattle.sonic_text.proofs.Items.{opening_no_quote}
use Rattle.sonic_text.proofs.Numbers.{number_begins}
use Rattle.sonic_text.proofs.Values.{first_letter, items_open}
use Rattle.sonic_text.specs.Faults.{IsFault}
use Rattle.sonic_text.specs.Numbers.{IsNumber}
use Rattle.sonic_text.specs.Places.{byte, IsDigit}
use Rattle.sonic_text.specs.Strings.{strict, IsString}
use Rattle.sonic_text.specs.Trees.{Tree, null, truth, Means}
use Rattle.sonic_text.specs.Trees.Means.{means_null, means_true, means_false}
use Rattle.sonic_text.specs.Values.{IsValue}
use Rattle.sonic_text.specs.Values.IsValue.{null_literal, true_literal, false_literal, number, string, empty, filled}
use Rattle.sonic_text.specs.declared.stop.Stop.{Stop}
use Rattle.sonic_value.proofs.DepthLemmas.{scalar_shallow}
use Rattle.sonic_value.specs.Internal.Readers.{Source, BeginsNoContainer, IsKept, IsValueRead, IsUnreadValue, at_fault}

-- the value from i to j is one of these, which begin with other bytes each
data IsScalar (t : List ℕ) (i j : ℕ) : Type 0 where
  a_null : byte t i ≡ 110 → Means t i j null → IsScalar t i j
  a_true : byte t i ≡ 116 → Means t i j (truth true) → IsScalar t i j
  a_false : byte t i ≡ 102 → Means t i j (truth false) → IsScalar t i j
  a_number : 45 ≤ byte t i → byte t i ≤ 57 → IsNumber t i j → IsScalar t i j
  a_string : {b : List ℕ} → byte t i ≡ 34 → IsString strict t i j b → IsScalar t i j

-- a number begins with a low byte
number_scalar : {t : List ℕ} {i j : ℕ} → (byte t i ≡ 45) ⊎ IsDigit (byte t i) → IsNumber t i j → IsScalar t i j
number_scalar (inl e) n = a_number (omega (arith, e)) (omega (arith, e)) n
number_scalar (inr d) n = a_number (omega (arith, d.0)) d.1 n

scalar_of : {t : List ℕ} {i j : ℕ} → BeginsNoContainer t i → IsValue strict t i j → IsScalar t i j
scalar_of {t} {i} none (null_literal h) = a_null (first_letter (codes "null") t i (omega arith) h) (means_null h)
scalar_of {t} {i} none (true_literal h) = a_true (first_letter (codes "true") t i (omega arith) h) (means_true h)
scalar_of {t} {i} none (false_literal h) = a_false (first_letter (codes "false") t i (omega arith) h) (means_false h)
scalar_of none (number h) = number_scalar (number_begins h) h
scalar_of none (string h) = a_string h.opens h
scalar_of none (empty kind b c q) = absurd (none kind b)
scalar_of none (filled {kind} is y x c q) = absurd (none kind (items_open is))

-- a value that begins with a quote is a string
pub string_there : {t : List ℕ} {i j : ℕ} → IsValue strict t i j → byte t i ≡ 34 → (b : List ℕ) × IsString strict t i j b
string_there value b = elim (scalar_of (λ kind e. opening_no_quote kind (sym e ∙ b)) value) [
  | a_null c m ↦ absurd (omega (arith, b, c))
  | a_true c m ↦ absurd (omega (arith, b, c))
  | a_false c m ↦ absurd (omega (arith, b, c))
  | a_number l h n ↦ absurd (omega (arith, b, l))
  | a_string c s ↦ (_, s)
]

module _ {t : List ℕ} {i j : ℕ} (none : BeginsNoContainer t i) (value : IsValue strict t i j) where
  pub null_means : byte t i ≡ 110 → Means t i j null
  null_means b = elim (scalar_of none value) [
    | a_null c m ↦ m
    | a_true c m ↦ absurd (omega (arith, b, c))
    | a_false c m ↦ absurd (omega (arith, b, c))
    | a_number l h n ↦ absurd (omega (arith, b, h))
    | a_string c s ↦ absurd (omega (arith, b, c))
  ]

  pub true_means : byte t i ≡ 116 → Means t i j (truth true)
  true_means b = elim (scalar_of none value) [
    | a_null c m ↦ absurd (omega (arith, b, c))
    | a_true c m ↦ m
    | a_false c m ↦ absurd (omega (arith, b, c))
    | a_number l h n ↦ absurd (omega (arith, b, h))
    | a_string c s ↦ absurd (omega (arith, b, c))
  ]

  pub false_means : byte t i ≡ 102 → Means t i j (truth false)
  false_means b = elim (scalar_of none value) [
    | a_null c m ↦ absurd (omega (arith, b, c))
    | a_true c m ↦ absurd (omega (arith, b, c))
    | a_false c m ↦ m
    | a_number l h n ↦ absurd (omega (arith, b, h))
    | a_string c s ↦ absurd (omega (arith, b, c))
  ]

  pub number_there : byte t i ≢ 110 → byte t i ≢ 116 → byte t i ≢ 102 → byte t i ≢ 34 → IsNumber t i j
  number_there n m f q = elim (scalar_of none value) [
    | a_null c m ↦ absurd (n c)
    | a_true c x ↦ absurd (m c)
    | a_false c x ↦ absurd (f c)
    | a_number l h n ↦ n
    | a_string c s ↦ absurd (q c)
  ]

-- it is read as what it means, however deep it may go
pub scalar_read : {s : Source} {i j : ℕ} {x : Tree} → BeginsNoContainer s.text i → IsKept s i j x → (depth_left : ℕ) → IsValueRead s depth_left i j x
scalar_read none kept depth_left = record { kept = kept; shallow = scalar_shallow none }

-- or has its fault
pub scalar_unread : {t : List ℕ} {i : ℕ} → BeginsNoContainer t i → (s : Stop) → IsFault strict t i s → (depth_left : ℕ) → IsUnreadValue t depth_left i s
scalar_unread none s f depth_left = at_fault (scalar_shallow none) f
