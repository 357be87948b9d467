-- What the cells say of the containers that are open.
use Rattle.std.proofs.Common.{◌≡◌, ◌≢◌, ◌∙◌, ap, ℕ, zero, suc, ◌-◌, ◌<◌, List, [], ◌∷◌, ◌++◌, length, set, take, arith, refl}
use Rattle.std.proofs.Math.Seq.{take-append_seam}
use Rattle.std.proofs.lemmas.List.{length-append}
use Rattle.std.specs.Prelude.{Some, slice_get}
use Rattle.sonic_text.specs.declared.kind.Kind.{Kind}
use Rattle.sonic_text.specs.Places.{byte}
use Rattle.sonic_text.specs.Values.{opening}
use Rattle.sonic_parser.specs.OpenContainers.{IsTop}
use Rattle.sonic_parser.proofs.SkippingLemmas.{added_top}
use Rattle.sonic_index.specs.declared.cell.Cell.{Cell}
use Rattle.sonic_index.specs.Internal.Places.{AreAround, outermost, inside}

-- an element that is read is read of a longer list
read_pushed : {A : Type 0} (xs : List A) (y : A) (a : ℕ) (x : A) → slice_get xs a ≡ Some x → slice_get (xs ++ y ∷ []) a ≡ Some x
read_pushed [] y a x e = absurd cc
read_pushed (z ∷ xs) y zero x e = e
read_pushed (z ∷ xs) y (suc a) x e = read_pushed xs y a x e

-- the element at the end is read
read_last : {A : Type 0} (xs : List A) (y : A) → slice_get (xs ++ y ∷ []) (length xs) ≡ Some y
read_last [] y = refl
read_last (z ∷ xs) y = read_last xs y

-- an element is read where another one was exchanged, and the new one at its place
read_set : (cells : List Cell) (n end : ℕ) (cell : Cell) (a : ℕ) (x : Cell) → slice_get cells n ≡ Some cell → slice_get cells a ≡ Some x
    → (y : Cell) × (slice_get (set cells n (record cell { end = end })) a ≡ Some y) × (y.start ≡ x.start) × (y.parent ≡ x.parent)
read_set [] n end cell a x f e = absurd cc
read_set (z ∷ cells) zero end cell zero x f e = (let one : cell ≡ x = cc in (record cell { end = end }, refl, ap (λ (o : Cell). o.start) one, ap (λ (o : Cell). o.parent) one))
read_set (z ∷ cells) zero end cell (suc a) x f e = (x, e, refl, refl)
read_set (z ∷ cells) (suc n) end cell zero x f e = (x, e, refl, refl)
read_set (z ∷ cells) (suc n) end cell (suc a) x f e = read_set cells n end cell a x f e

-- with one cell more the same containers are open
pub around_pushed : {t : List ℕ} {cells : List Cell} {n : ℕ} {kinds : List Kind} (cell : Cell) → AreAround t cells n kinds → AreAround t (cells ++ cell ∷ []) n kinds
around_pushed {cells = cells} {n} cell (outermost kind x e b z k) = outermost kind x (read_pushed cells cell n x e) b z k
around_pushed {cells = cells} {n} cell (inside kind x e b l o k) = inside kind x (read_pushed cells cell n x e) b l (around_pushed cell o) k

-- and where one has another end
pub around_reset : {t : List ℕ} {cells : List Cell} {n : ℕ} {kinds : List Kind} (m end : ℕ) (cell : Cell) → slice_get cells m ≡ Some cell → AreAround t cells n kinds
    → AreAround t (set cells m (record cell { end = end })) n kinds
around_reset {t} {cells} {n} m end cell f (outermost kind x e b z k) =
    let y = read_set cells m end cell n x f e in
    outermost kind y.0 y.1 (ap (byte t) y.2 ∙ b) z k
around_reset {t} {cells} {n} m end cell f (inside {outer = outer} kind x e b l o k) =
    let y = read_set cells m end cell n x f e in
    let around : AreAround t (set cells m (record cell { end = end })) y.0.parent outer = rw y.3 (around_reset m end cell f o) in
    inside kind y.0 y.1 (ap (byte t) y.2 ∙ b) (omega (arith, l, y.3)) around k

-- the innermost container that is open
pub record IsInnermost (t : List ℕ) (cells : List Cell) (n : ℕ) (kinds : List Kind) : Type 0 where
  pub kind : Kind
  pub cell : Cell
  pub read : slice_get cells n ≡ Some cell
  pub opens : byte t cell.start ≡ opening kind
  pub top : IsTop kinds kind

pub innermost : {t : List ℕ} {cells : List Cell} {n : ℕ} {kinds : List Kind} → AreAround t cells n kinds → IsInnermost t cells n kinds
innermost (outermost kind x e b z k) = record { kind = kind; cell = x; read = e; opens = b; top = rw k (added_top [] kind) }
innermost (inside {outer = outer} kind x e b l o k) = record { kind = kind; cell = x; read = e; opens = b; top = rw k (added_top outer kind) }

-- one is open
pub some_open : {t : List ℕ} {cells : List Cell} {n : ℕ} {kinds : List Kind} → AreAround t cells n kinds → 0 < length kinds
some_open (outermost kind x e b z k) = omega (arith, ap length k)
some_open (inside {outer = outer} kind x e b l o k) = omega (arith, ap length k, length-append outer (kind ∷ []))

-- without the innermost one nothing is open where it is the root
pub none_left : {t : List ℕ} {cells : List Cell} {n : ℕ} {kinds : List Kind} → AreAround t cells n kinds → n ≡ 0 → take (length kinds - 1) kinds ≡ []
none_left (outermost kind x e b z k) first = rw k refl
none_left (inside kind x e b l o k) first = absurd (omega (arith, l, first))

-- and else the ones around it
pub outer_left : {t : List ℕ} {cells : List Cell} {n : ℕ} {kinds : List Kind} (cell : Cell) → slice_get cells n ≡ Some cell → AreAround t cells n kinds → n ≢ 0
    → (cell.parent < n) × AreAround t cells cell.parent (take (length kinds - 1) kinds)
outer_left cell f (outermost kind x e b z k) some = absurd (some z)
outer_left {t} {cells} {n} {kinds} cell f (inside {outer = outer} kind x e b l o k) some =
    let one : x ≡ cell = cc in
    let parent = ap (λ (c : Cell). c.parent) one in
    let count : length kinds - 1 ≡ length outer = omega (arith, ap length k, length-append outer (kind ∷ [])) in
    let left : take (length kinds - 1) kinds ≡ outer = rw (count, k) (take-append_seam outer (kind ∷ [])) in
    (omega (arith, l, parent), rw (left, ← parent) o)

-- a container that was entered is open
pub around_entered : {t : List ℕ} {cells : List Cell} {kinds : List Kind} (kind : Kind) (cell : Cell) → byte t cell.start ≡ opening kind → cell.parent < length cells → AreAround t cells cell.parent kinds
    → AreAround t (cells ++ cell ∷ []) (length cells) (kinds ++ kind ∷ [])
around_entered {cells = cells} kind cell b l o = inside kind cell (read_last cells cell) b l (around_pushed cell o) refl

-- so is the root
pub around_root : {t : List ℕ} {cells : List Cell} (kinds : List Kind) (kind : Kind) (cell : Cell) → byte t cell.start ≡ opening kind → cells ≡ [] → length kinds ≡ 0
    → AreAround t (cells ++ cell ∷ []) (length cells) (kinds ++ kind ∷ [])
around_root [] kind cell b none unopened = outermost kind cell (rw none refl) b (ap length none) refl
around_root (k ∷ ks) kind cell b none unopened = absurd (omega (arith, unopened))
