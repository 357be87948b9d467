-- What comes before and after the items of a whole container.
use Rattle.std.proofs.Common.{◌≡◌, ◌⊎◌, inl, inr, ℕ, sym, arith, Ok, Err}
use Rattle.std.proofs.lemmas.Bool.{cases_order}
use Rattle.std.specs.Prelude.{Bool, List, Option}
use Rattle.sonic_text.specs.declared.kind.Kind.{Kind}
use Rattle.sonic_text.specs.declared.kind.Kind.TheVariants.{Object}
use Rattle.sonic_text.specs.Places.{byte, after_space}
use Rattle.sonic_text.specs.Values.{closing, ItemHead, IsKey, IsValue, ItemsFit}
use Rattle.sonic_text.specs.Values.ItemHead.{key_head}
use Rattle.sonic_text.proofs.Insides.{comma_after, not_past_byte}
use Rattle.sonic_text.proofs.Items.{at_key, at_value, head_one, closing_no_comma}
use Rattle.sonic_text.proofs.Values.{ContainerOutcome, no_item, at_last, container_outcome, items_open, items_not_empty, items_before, items_one, value_end_one}

-- the key of a member's head
key_of_head : {m : Bool} {t : List ℕ} {h v : ℕ} {l : Option (List ℕ)} → ItemHead m t Object h v l → (w : ℕ) × (b : List ℕ) × IsKey m t h w b
key_of_head (key_head k) = (_, _, k)

-- before the value of a member of an object that ends somewhere a key with a colon is
has_key_in : {m : Bool} {t : List ℕ} {i n h j : ℕ} → ItemsFit m t Object i n h → ContainerOutcome m t Object i (Ok j)
    → (v : ℕ) × (b : List ℕ) × IsKey m t h v b
has_key_in is (no_item c q) = absurd (items_not_empty is c)
has_key_in is (at_last fs (at_key k d q)) = absurd cc
has_key_in is (at_last fs (at_value (Err s) z d q)) = absurd cc
has_key_in is (at_last fs (at_value (Ok f) z r (inr (c, q)))) = absurd cc
has_key_in {m} {t} {i} {n} {h} is (at_last {n = p} {h = g} fs (at_value {v = w} {l = k} (Ok f) z r (inl (c, q)))) = elim (cases_order n p) [
  | inl o ↦
      let gs : ItemsFit m t Object i n g = rw (sym o) at fs in
      let head : ItemHead m t Object h w k = rw (items_one gs is) at z in
      key_of_head head
  | inr (inl o) ↦ (let x = items_before fs o in let head : ItemHead m t Object h x.v x.key = rw (items_one x.before is) at x.head in key_of_head head)
  | inr (inr o) ↦ absurd (not_past_byte fs o z r (λ d. closing_no_comma Object (omega (arith, c))) is)
]

-- after an item of a container that ends somewhere a comma or the closing bracket comes
goes_on_in : {m : Bool} {t : List ℕ} {kind : Kind} {i n h v e j : ℕ} {l : Option (List ℕ)} → ItemsFit m t kind i n h → ItemHead m t kind h v l
    → IsValue m t v e → ContainerOutcome m t kind i (Ok j) → (byte t (after_space t e) ≡ 44) ⊎ (byte t (after_space t e) ≡ closing kind)
goes_on_in is y x (no_item c q) = absurd (items_not_empty is c)
goes_on_in is y x (at_last fs (at_key k d q)) = absurd cc
goes_on_in is y x (at_last fs (at_value (Err s) z d q)) = absurd cc
goes_on_in is y x (at_last fs (at_value (Ok f) z r (inr (c, q)))) = absurd cc
goes_on_in {m} {t} {kind} {i} {n} {h} {v} {e} is y x (at_last {n = p} {h = g} fs (at_value {v = w} {l = k} (Ok f) z r (inl (c, q)))) = elim (cases_order n p) [
  | inl o ↦
      let gs : ItemsFit m t kind i n g = rw (sym o) at fs in
      let head : ItemHead m t kind h w k = rw (items_one gs is) at z in
      let own : IsValue m t v f = rw (head_one head y).0 at r in
      inr (rw (value_end_one x own) c)
  | inr (inl o) ↦ (let later = comma_after is o y fs in inl (rw (value_end_one x later.1) later.2))
  | inr (inr o) ↦ absurd (not_past_byte fs o z r (λ d. closing_no_comma kind (omega (arith, c))) is)
]

-- so it is of an item of a whole container
pub item_goes_on : {m : Bool} {t : List ℕ} {kind : Kind} {i n h v e j : ℕ} {l : Option (List ℕ)} → IsValue m t i j → ItemsFit m t kind i n h
    → ItemHead m t kind h v l → IsValue m t v e → (byte t (after_space t e) ≡ 44) ⊎ (byte t (after_space t e) ≡ closing kind)
item_goes_on {j = j} z is y x = goes_on_in is y x (container_outcome (Ok j) (items_open is) z)

-- and before the value of one of its members a key with a colon is
pub member_has_key : {m : Bool} {t : List ℕ} {i n h j : ℕ} → IsValue m t i j → ItemsFit m t Object i n h → (v : ℕ) × (b : List ℕ) × IsKey m t h v b
member_has_key {j = j} z is = has_key_in is (container_outcome (Ok j) (items_open is) z)
