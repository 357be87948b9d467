-- The steps of a program that descends into a value.
use Rattle.std.proofs.Common.{◌≡◌, ◌≢◌, ℕ, ◌+◌, ◌<◌, arith, refl}
use Rattle.std.specs.Prelude.{Bool, List, Option, length}
use Rattle.sonic_text.specs.declared.kind.Kind.{Kind}
use Rattle.sonic_text.specs.declared.kind.Kind.TheVariants.{Array, Object}
use Rattle.sonic_text.specs.declared.stop.Stop.{Stop}
use Rattle.sonic_text.specs.Places.{byte, after_space}
use Rattle.sonic_text.specs.Values.{opening, closing, ItemHead, IsValue, ItemsFit, first_item, next_item, filled}
use Rattle.sonic_text.specs.Faults.{IsFault, IsKeyFault, in_key, in_value, after_item}
use Rattle.sonic_text.proofs.Items.{head-later}
use Rattle.sonic_text.proofs.Places.{after_space_later, byte_within}
use Rattle.sonic_text.proofs.Values.{items-later, value-longer}
use Rattle.sonic_parser.specs.Containers.{IsEnd, IsSeparated, IsSeparatorFault}

-- in the container of this kind at i the next item is expected at p
pub record IsExpected (kind : Kind) (m : Bool) (t : List ℕ) (i p : ℕ) : Type 0 where
  pub within : i < length t
  pub n : ℕ
  pub fit : ItemsFit m t kind i n p

-- of the item of this kind that is expected at h the value is expected at v
abbrev pub IsHeaded : Bool → List ℕ → Kind → ℕ → ℕ → Type 0
IsHeaded m t kind h v = (l : Option (List ℕ)) × ItemHead m t kind h v l

-- a bracket is in the text
bracket_within : (t : List ℕ) (i : ℕ) (kind : Kind) → byte t i ≡ opening kind → i < length t
bracket_within t i Array e = byte_within t i (λ z. omega (arith, e, z))
bracket_within t i Object e = byte_within t i (λ z. omega (arith, e, z))

-- after the bracket the first item is expected
pub first_expected : {m : Bool} {t : List ℕ} {i h : ℕ} (kind : Kind) → byte t i ≡ opening kind → h ≡ after_space t (i + 1) → byte t h ≢ closing kind
    → IsExpected kind m t i h
first_expected {t = t} {i = i} kind b h c = record { within = bracket_within t i kind b; n = 0; fit = first_item b h c refl }

-- after a comma the next one is
pub next_expected : {kind : Kind} {m : Bool} {t : List ℕ} {i p v e h : ℕ} → IsExpected kind m t i p → IsHeaded m t kind p v → IsValue m t v e
    → IsSeparated t e h → IsExpected kind m t i h
next_expected d y x c = record { within = d.within; n = d.n + 1; fit = next_item d.fit y.1 x c.0 c.1 refl }

-- its value comes later
pub value_later : {kind : Kind} {m : Bool} {t : List ℕ} {i p v : ℕ} → IsExpected kind m t i p → IsHeaded m t kind p v → i < v
value_later d y = omega (arith, items-later d.fit, head-later y.1)

-- and the next item later still
pub next_later : {m : Bool} {t : List ℕ} {kind : Kind} {p v e h : ℕ} → IsHeaded m t kind p v → IsValue m t v e → IsSeparated t e h → (p < h) × (p < length t)
next_later {t = t} {e = e} y x c =
    let later = head-later y.1 in
    let longer = value-longer x in
    let first = after_space_later t e in
    let within = byte_within t (after_space t e) (λ z. omega (arith, c.0, z)) in
    (omega (arith, later, longer, first, after_space_later t (after_space t e + 1), c.1), omega (arith, later, longer, first, within))

-- at its bracket the container ends
pub bracket_ends : {kind : Kind} {m : Bool} {t : List ℕ} {i p v e j : ℕ} → IsExpected kind m t i p → IsHeaded m t kind p v → IsValue m t v e
    → IsEnd t kind e j → IsValue m t i j
bracket_ends d y x b = filled d.fit y.1 x b.0 b.1

-- a fault of a key in it is its own
pub key_breaks : {kind : Kind} {m : Bool} {t : List ℕ} {i p : ℕ} {s : Stop} → IsExpected kind m t i p → kind ≡ Object → IsKeyFault m t p s → IsFault m t i s
key_breaks {m = m} {t} {i} {p} d e f = let is : ItemsFit m t Object i d.n p = rw e at d.fit in in_key is f

-- so is one of a value
pub value_breaks : {kind : Kind} {m : Bool} {t : List ℕ} {i p v : ℕ} {s : Stop} → IsExpected kind m t i p → IsHeaded m t kind p v → IsFault m t v s → IsFault m t i s
value_breaks d y f = in_value d.fit y.1 f

-- and one after a value
pub separator_breaks : {kind : Kind} {m : Bool} {t : List ℕ} {i p v e : ℕ} {s : Stop} → IsExpected kind m t i p → IsHeaded m t kind p v → IsValue m t v e
    → IsSeparatorFault t kind e s → IsFault m t i s
separator_breaks d y x f = after_item d.fit y.1 x f.0 f.1
