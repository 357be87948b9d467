-- Containers that are open: their end has not come, and what is before a place in them fits.
use Rattle.std.specs.Prelude.{◌≡◌, ℕ, ◌-◌, Bool, List, [], ◌∷◌, ◌++◌, Option, length, get_or}
use Rattle.sonic_text.specs.declared.kind.Kind.{Kind}
use Rattle.sonic_text.specs.Values.{ItemHead, IsValue, ItemsFit}

-- a value is expected at p inside open containers of these kinds of the value at i, the outermost first, and all before p fits
pub data IsOpen (m : Bool) (t : List ℕ) (i : ℕ) : ℕ → List Kind → Type 0 where
  here : {p : ℕ} {kinds : List Kind} → p ≡ i → kinds ≡ [] → IsOpen m t i p kinds
  inside : {kind : Kind} {p n h v : ℕ} {label : Option (List ℕ)} {outer kinds : List Kind} → IsOpen m t i p outer → ItemsFit m t kind p n h
      → ItemHead m t kind h v label → kinds ≡ outer ++ kind ∷ [] → IsOpen m t i v kinds

-- an item of the innermost of these open containers is expected at h, and all before h fits
pub record IsItemExpected (m : Bool) (t : List ℕ) (i : ℕ) (kinds : List Kind) (h : ℕ) : Type 0 where
  pub kind : Kind
  pub p : ℕ
  pub n : ℕ
  pub outer : List Kind
  pub around : IsOpen m t i p outer
  pub fit : ItemsFit m t kind p n h
  pub kinds_are : kinds ≡ outer ++ kind ∷ []

-- the value of an item of the innermost of these open containers ends at e, and all before e fits
pub record IsItemEnded (m : Bool) (t : List ℕ) (i : ℕ) (kinds : List Kind) (e : ℕ) : Type 0 where
  pub h : ℕ
  pub v : ℕ
  pub label : Option (List ℕ)
  pub item : IsItemExpected m t i kinds h
  pub head : ItemHead m t item.kind h v label
  pub value : IsValue m t v e

-- the last of the kinds is this one; without a last one, any kind is
abbrev pub IsTop : List Kind → Kind → Type 0
IsTop kinds kind = get_or kinds (length kinds - 1) kind ≡ kind
