-- What is at a place of a text: a value, what comes before it, and what comes after it.
use Rattle.std.specs.Prelude.{ℕ, ◌<◌, ◌≤◌, Bool, List, Option, length}
use Rattle.sonic_text.specs.declared.kind.Kind.{Kind}
use Rattle.sonic_text.specs.Values.{ItemHead, IsValue, ItemsFit}
use Rattle.sonic_parser.specs.declared.container.AfterItem.{AfterItem}
use Rattle.sonic_parser.specs.declared.container.AfterItem.TheVariants.{Item, End}
use Rattle.sonic_parser.specs.declared.parts.ValueAt.{ValueAt}
use Rattle.sonic_parser.specs.declared.parts.ValueAt.TheVariants.{Ends, Opens}
use Rattle.sonic_parser.specs.Containers.{IsEnd, IsSeparated}
use Rattle.sonic_parser.specs.Parsers.{IsFilledContainer}

-- the value at i ends at e
abbrev pub IsValueEnd : Bool → List ℕ → ℕ → ℕ → Type 0
IsValueEnd m t i e = (i < e) × (e ≤ length t) × IsValue m t i e

-- the value at i ends at e and has no parts, or it is a container of this kind whose first item is expected at h
abbrev pub IsValueAt : Bool → List ℕ → ℕ → ValueAt → Type 0
IsValueAt m t i (Ends e) = IsValueEnd m t i e × ¬ IsFilledContainer t i
IsValueAt m t i (Opens kind h) = (i < h) × (h ≤ length t) × ItemsFit m t kind i 0 h

-- of the item of this kind that is expected at h the value is expected at v
pub record IsItem (m : Bool) (t : List ℕ) (kind : Kind) (h v : ℕ) : Type 0 where
  pub later : h ≤ v
  pub within : v ≤ length t
  pub label : Option (List ℕ)
  pub head : ItemHead m t kind h v label

-- after the item whose value ends at e the next one is expected, or the closing bracket comes
abbrev pub IsAfterValue : List ℕ → Kind → ℕ → AfterItem → Type 0
IsAfterValue t kind e (Item h) = (e < h) × (h ≤ length t) × IsSeparated t e h
IsAfterValue t kind e (End j) = (e < j) × (j ≤ length t) × IsEnd t kind e j
