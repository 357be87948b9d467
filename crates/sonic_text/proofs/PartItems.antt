-- Where a whole value is in a part of a text, its items and their heads in the part are those in the text.
use Rattle.std.proofs.Common.{◌≡◌, ◌≢◌, ℕ, ◌+◌, ◌-◌, ◌<◌, ◌≤◌, inl, inr, Bool, List, length, arith, refl, sym, ◌∙◌, Ok, Err}
use Rattle.std.specs.Prelude.{Option}
use Rattle.sonic_text.specs.declared.kind.Kind.{Kind}
use Rattle.sonic_text.specs.Places.{byte, after_space}
use Rattle.sonic_text.specs.Values.{opening, closing, ItemHead, IsValue, ItemsFit}
use Rattle.sonic_text.specs.Values.IsValue.{empty}
use Rattle.sonic_text.specs.Faults.{in_key}
use Rattle.sonic_text.proofs.Insides.{item_whole, item_before_end}
use Rattle.sonic_text.proofs.Items.{LastItem, at_key, at_value, head_some, head-later}
use Rattle.sonic_text.proofs.Parts.{IsPart}
use Rattle.sonic_text.proofs.Same.{Shared, shared_back, agree_at, after_same}
use Rattle.sonic_text.proofs.SameValues.{value_same, items_same, head_same}
use Rattle.sonic_text.proofs.ValueParts.{number_agrees, item_agrees}
use Rattle.sonic_text.proofs.Values.{items-later, items_not_empty, value-longer, value_end_one, value_never_both}

-- the part u of t begins at d, and from its place x on it has a whole value of the text
pub record IsInPart (m : Bool) (t u : List ℕ) (d x : ℕ) : Type 0 where
  pub part : IsPart t u d
  pub end : ℕ
  pub value : IsValue m t (d + x) end
  pub within : end ≤ d + length u

module _ {m : Bool} {t u : List ℕ} {d x : ℕ} (has : IsInPart m t u d x) where
  -- the value itself is in the part
  pub value_down : IsValue m u x (has.end - d)
  value_down =
      let l = value-longer has.value in
      value_same (number_agrees has.part (omega arith) (omega (arith, has.within))) (omega arith) has.value

  -- an item of it has a whole value
  pub item_in_part : {kind : Kind} {n h v : ℕ} {l : Option (List ℕ)} (y : ℕ) → v ≡ d + y → ItemsFit m t kind (d + x) n h → ItemHead m t kind h v l
      → IsInPart m t u d y
  item_in_part {kind} {h = h} {l = l} y e is z =
      let there : ItemHead m t kind h (d + y) l = rw e at z in
      let w = item_whole has.value is there in
      record { part = has.part; end = w.0; value = w.1; within = omega (arith, has.within, item_before_end is there w.1 has.value) }

  -- which begins in the part
  pub item_later : {kind : Kind} {n h v : ℕ} {l : Option (List ℕ)} → ItemsFit m t kind (d + x) n h → ItemHead m t kind h v l
      → (d < h) × (h ≤ v) × (v < d + length u)
  item_later is z =
      let w = item_whole has.value is z in
      (omega (arith, items-later is), head-later z, omega (arith, has.within, value-longer w.1, item_before_end is z w.1 has.value))

  -- items of the text are in the part
  pub items_down : {kind : Kind} {n h v : ℕ} {l : Option (List ℕ)} → ItemsFit m t kind (d + x) n h → ItemHead m t kind h v l → ItemsFit m u kind x n (h - d)
  items_down {h = h} is z = let l = item_later is z in items_same (item_agrees has.part (omega arith) (omega arith)) (omega arith) is

  -- and so is what comes before the value of one
  pub head_down : {kind : Kind} {n h v : ℕ} {l : Option (List ℕ)} → ItemsFit m t kind (d + x) n h → ItemHead m t kind h v l
      → ItemHead m u kind (h - d) (v - d) l
  head_down {h = h} {v} is z = let l = item_later is z in head_same (item_agrees has.part (omega arith) (omega arith)) (omega arith) z

  -- its first byte is the same
  pub first_byte : byte u x ≡ byte t (d + x)
  first_byte = let l = value-longer has.value in has.part.bytes (d + x) x (omega arith) (omega (arith, has.within))

  -- so is the bracket of a container
  pub opens : (kind : Kind) → byte u x ≡ opening kind → byte t (d + x) ≡ opening kind
  opens kind b = sym first_byte ∙ b

  -- an empty container is empty in the part
  pub empty_down : (kind : Kind) → byte t (d + x) ≡ opening kind → byte t (after_space t (d + x + 1)) ≡ closing kind
      → byte u (after_space u (x + 1)) ≡ closing kind
  empty_down kind b c =
      let one = value_end_one (empty kind b c refl) has.value in
      (after_same (d + x + 1) (x + 1) (omega arith) (closing kind) has.part (omega (arith, has.within)) c).1

  -- and one with items has items there
  pub filled_down : {kind : Kind} {n h : ℕ} → ItemsFit m t kind (d + x) n h → LastItem m t kind h (Ok has.end)
      → byte u (after_space u (x + 1)) ≢ closing kind
  filled_down is (at_key k f q) = absurd cc
  filled_down is (at_value (Err s) z f q) = absurd cc
  filled_down is (at_value (Ok e) z y q) = items_not_empty (items_down is z)

  -- an item of the part has a value that begins there
  item_inside : {kind : Kind} {n h v : ℕ} {l : Option (List ℕ)} → ItemsFit m u kind x n h → ItemHead m u kind h v l → v < length u
  item_inside is y =
      let w = item_whole value_down is y in
      omega (arith, has.within, value-longer has.value, value-longer w.1, item_before_end is y w.1 value_down)

  -- and so it does itself
  item_starts : {kind : Kind} {n h : ℕ} → ItemsFit m u kind x n h → h < length u
  item_starts {kind} {h = h} is = elim (head_some m u kind h) [
    | inl (v, l, y) ↦ omega (arith, head-later y, item_inside is y)
    | inr (s, k, f) ↦ absurd (value_never_both value_down (in_key (rw k at is) f))
  ]

  -- the bytes of the part are in the text
  back : Shared u t 0 d (d + length u)
  back = shared_back (d + length u) (omega arith) has.part

  -- and so are its items
  pub items_up : {kind : Kind} {n h : ℕ} → ItemsFit m u kind x n h → ItemsFit m t kind (d + x) n (d + h)
  items_up {h = h} is = let l = item_starts is in items_same (agree_at back h (d + h) (omega arith) (omega arith)) (omega arith) is

  -- and what comes before the value of one
  pub head_up : {kind : Kind} {n h v : ℕ} {l : Option (List ℕ)} → ItemsFit m u kind x n h → ItemHead m u kind h v l → ItemHead m t kind (d + h) (d + v) l
  head_up {v = v} is y = let l = item_inside is y in head_same (agree_at back v (d + v) (omega arith) (omega arith)) (omega arith) y
