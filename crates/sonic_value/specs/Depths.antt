-- How deep a text nests its containers.
use Rattle.std.specs.Prelude.{◌≡◌, ◌≤◌, ℕ, ◌+◌, List, Option}
use Rattle.sonic_text.specs.Places.{byte}
use Rattle.sonic_text.specs.Strings.{strict}
use Rattle.sonic_text.specs.Values.{opening, ItemHead, ItemsFit}
use Rattle.sonic_text.specs.declared.kind.Kind.{Kind}

-- a value is expected at p inside n open containers of the value at i, and all before p fits
pub data IsInside (t : List ℕ) : (i p n : ℕ) → Type 0 where
  at_the_value : {i p n : ℕ} → p ≡ i → n ≡ 0 → IsInside t i p n
  inside_an_item : {kind : Kind} {i c h v p m n : ℕ} {l : Option (List ℕ)} → ItemsFit strict t kind i c h → ItemHead strict t kind h v l → IsInside t v p m
      → n ≡ m + 1 → IsInside t i p n

-- a container begins at p inside n open ones of the value at i
pub record IsNested (t : List ℕ) (n i p : ℕ) : Type 0 where
  pub kind : Kind
  pub inside : IsInside t i p n
  pub bracket : byte t p ≡ opening kind

-- the first container inside n open ones begins at p
pub record IsTooDeep (t : List ℕ) (n i p : ℕ) : Type 0 where
  pub nested : IsNested t n i p
  pub first : (q : ℕ) → IsNested t n i q → p ≤ q

-- no container begins inside n open ones
abbrev pub IsShallow : List ℕ → ℕ → ℕ → Type 0
IsShallow t n i = (p : ℕ) → ¬ IsNested t n i p
