-- What two texts of a value keep, of which one has other white space than the other.
use Rattle.std.specs.Prelude.{◌≡◌, ◌≢◌, ℕ, ◌+◌, List, Option, Some, None, slice_range}
use Rattle.sonic_text.specs.declared.kind.Kind.{Kind}
use Rattle.sonic_text.specs.declared.kind.Kind.TheVariants.{Array, Object}
use Rattle.sonic_text.specs.Places.{byte, after_space}
use Rattle.sonic_text.specs.Strings.{strict}
use Rattle.sonic_text.specs.Values.{opening, closing, IsKey, IsValue}

mutual
  -- a value without the white space between its parts: scalars and keys by their bytes
  pub data Spelling : Type 0 where
    scalar : List ℕ → Spelling
    container : Kind → Parts → Spelling

  -- the parts of a container, each member with its key
  pub data Parts : Type 0 where
    no_part : Parts
    part : Option (List ℕ) → Spelling → Parts → Parts

-- of the item of this kind that is expected at h the value is expected at v: nothing comes before it, or a key with these bytes and a colon
pub data HeadSpelled (t : List ℕ) : Kind → ℕ → ℕ → Option (List ℕ) → Type 0 where
  no_key : {h v : ℕ} → v ≡ h → HeadSpelled t Array h v None
  key_spelled : {h v : ℕ} {b c : List ℕ} (k : IsKey strict t h v b) → c ≡ slice_range t h k.end → HeadSpelled t Object h v (Some c)

mutual
  -- from i to j is a value that is spelled so
  pub data IsSpelled (t : List ℕ) : ℕ → ℕ → Spelling → Type 0 where
    scalar_spelled : {i j : ℕ} {b : List ℕ} → IsValue strict t i j → ((kind : Kind) → byte t i ≢ opening kind) → b ≡ slice_range t i j
        → IsSpelled t i j (scalar b)
    empty_spelled : {kind : Kind} {i j : ℕ} → byte t i ≡ opening kind → byte t (after_space t (i + 1)) ≡ closing kind → j ≡ after_space t (i + 1) + 1
        → IsSpelled t i j (container kind no_part)
    filled_spelled : {kind : Kind} {i h j : ℕ} {xs : Parts} → byte t i ≡ opening kind → h ≡ after_space t (i + 1) → byte t h ≢ closing kind
        → PartsSpelled t kind h j xs → IsSpelled t i j (container kind xs)

  -- from h are parts of this kind that are spelled so, one comma between two of them, and a closing bracket that ends at j
  pub data PartsSpelled (t : List ℕ) : Kind → ℕ → ℕ → Parts → Type 0 where
    last_part : {kind : Kind} {h v e j : ℕ} {k : Option (List ℕ)} {x : Spelling} → HeadSpelled t kind h v k → IsSpelled t v e x
        → byte t (after_space t e) ≡ closing kind → j ≡ after_space t e + 1 → PartsSpelled t kind h j (part k x no_part)
    more_parts : {kind : Kind} {h v e g j : ℕ} {k : Option (List ℕ)} {x : Spelling} {xs : Parts} → HeadSpelled t kind h v k → IsSpelled t v e x
        → byte t (after_space t e) ≡ 44 → g ≡ after_space t (after_space t e + 1) → PartsSpelled t kind g j xs → PartsSpelled t kind h j (part k x xs)
