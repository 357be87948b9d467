-- The marks of a text, which are the brackets, commas and colons outside its strings, and what is between two of them.
use Rattle.std.specs.Prelude.{◌≡◌, ◌⊎◌, ℕ, ◌+◌, ◌-◌, ◌<◌, ◌≤◌, ◌==◌, ◌||◌, ◌&&◌, Bool, true, false, not, List, length}
use Rattle.sonic_blocks.specs.Bits.{is_set}
use Rattle.sonic_blocks.specs.Outside.{is_inside_at}
use Rattle.sonic_text.specs.Places.{byte, is_space, after_space}

-- a bracket, a comma or a colon
abbrev pub is_structural : ℕ → Bool
is_structural b = b == 44 || b == 58 || b == 91 || b == 93 || b == 123 || b == 125

-- at k is one outside strings
abbrev pub is_mark : List ℕ → ℕ → Bool
is_mark t k = is_structural (byte t k) && not (is_inside_at t 0 (k + 1))

-- from p on and before q is no mark
abbrev pub HasNoMark : List ℕ → ℕ → ℕ → Type 0
HasNoMark t p q = (k : ℕ) → p ≤ k → k < q → is_mark t k ≡ false

-- q is the first mark from p on
pub record IsNextMark (t : List ℕ) (p q : ℕ) : Type 0 where
  pub later : p ≤ q
  pub here : is_mark t q ≡ true
  pub before : HasNoMark t p q

-- of the 64 places from p on, a bit is set for the marks
abbrev pub AreMarksAt : List ℕ → ℕ → ℕ → Type 0
AreMarksAt t p marks = (k : ℕ) → k < 64 → is_set marks k ≡ is_mark t (p + k)

-- what is from p to q is from i to j without the white space round it
pub record IsToken (t : List ℕ) (p q i j : ℕ) : Type 0 where
  pub start : i ≡ after_space t p
  pub order : i ≤ j
  pub within : j ≤ q
  pub spaces : (k : ℕ) → j ≤ k → k < q → is_space (byte t k) ≡ true
  pub last : i < j → is_space (byte t (j - 1)) ≡ false

-- no white space is at q, or it is the end
abbrev pub IsNoSpace : List ℕ → ℕ → Type 0
IsNoSpace t q = (is_space (byte t q) ≡ false) ⊎ (q ≡ length t)
