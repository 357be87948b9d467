-- The first place of a text whose byte passes a test.
use Rattle.std.specs.Prelude.{◌≡◌, ℕ, ◌<◌, ◌≤◌, ◌==◌, ◌||◌, Bool, true, false, not, List, length, slice_index}
use Rattle.std.specs.List.{prefix_len}

-- one of three bytes
abbrev pub is_one_of : ℕ → ℕ → ℕ → ℕ → Bool
is_one_of a b c byte = byte == a || byte == b || byte == c

-- no byte from p on passes the test
abbrev pub HasNone : (ℕ → Bool) → List ℕ → ℕ → Type 0
HasNone test t p = (k : ℕ) → p ≤ k → k < length t → test (slice_index t k) ≡ false

-- from p on, i is the first place whose byte passes the test
pub record IsFirst (test : ℕ → Bool) (t : List ℕ) (p i : ℕ) : Type 0 where
  pub from : p ≤ i
  pub within : i < length t
  pub here : test (slice_index t i) ≡ true
  pub before : (k : ℕ) → p ≤ k → k < i → test (slice_index t k) ≡ false

-- the first place whose byte passes the test, or the length where none does
abbrev pub first_place : (ℕ → Bool) → List ℕ → ℕ
first_place test bytes = prefix_len (λ b. not (test b)) bytes

-- the first places of a backslash, a quote and a control byte, and a word with a bit for each of these bytes
pub record FirstPlaces : Type 0 where
  pub backslash : ℕ
  pub quote : ℕ
  pub control : ℕ
  pub special : ℕ
