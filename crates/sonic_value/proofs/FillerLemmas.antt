-- How a schema is filled, one member of the data after the other.
use Rattle.std.proofs.Common.{◌≡◌, ◌∙◌, ap, refl, sym, arith, inl, inr, ℕ, ◌+◌, ◌<◌, List, Some}
use Rattle.std.proofs.lemmas.Bool.{cases_order}
use Rattle.sonic_parser.specs.Containers.{IsEnd, IsSeparated, IsSeparatorFault}
use Rattle.sonic_text.proofs.Insides.{not_past_byte, not_past_key, not_past_value, comma_after, items_after}
use Rattle.sonic_text.proofs.Items.{key_one, key-longer, key_never_both, closing_no_comma}
use Rattle.sonic_text.proofs.TreeLemmas.{value_of}
use Rattle.sonic_text.proofs.Values.{items_open, items_not_empty, items_one}
use Rattle.sonic_text.specs.Faults.{IsKeyFault, in_key, in_value, after_item}
use Rattle.sonic_text.specs.Places.{byte}
use Rattle.sonic_text.specs.Strings.{strict}
use Rattle.sonic_text.specs.Trees.{Tree, container, Items, no_item}
use Rattle.sonic_text.specs.Trees.ItemsMean.{last_item}
use Rattle.sonic_text.specs.Trees.Means.{means_empty}
use Rattle.sonic_text.specs.Values.{key_head, IsKey, ItemsFit}
use Rattle.sonic_text.specs.declared.kind.Kind.TheVariants.{Object}
use Rattle.sonic_text.specs.declared.stop.Stop.{Stop}
use Rattle.sonic_value.proofs.DepthLemmas.{inside-later, inside_before_end}
use Rattle.sonic_value.proofs.FillingLemmas.{object_fill}
use Rattle.sonic_value.proofs.SchemaLemmas.{filled_fit, deep_nested, replaced_shallow, replaced_too_deep, filled_one, rest_fills, deep_member}
use Rattle.sonic_value.specs.Internal.Fillers.{IsUnfillable, is_too_deep, has_fault, IsMemberFilled, IsMemberStopped, member_too_deep, member_fault, AreMembersFilled}
use Rattle.sonic_value.specs.Filling.{last_of}
use Rattle.sonic_value.specs.Internal.Readers.{IsUnreadValue, too_deep, at_fault}
use Rattle.sonic_value.specs.Schemas.{HasMembers, AreFilled, none_filled, one_more_filled, meets_member, IsReplaced, IsDeepIn, IsTooDeepIn, IsShallowIn, IsFilledBy}

-- what isn't read takes no schema's place
pub replaced_unread : {t : List ℕ} {n : ℕ} {w : Tree} {i : ℕ} (s : Stop) → IsUnreadValue t n i s → IsReplaced t w i → IsUnfillable t n w i s
replaced_unread s (too_deep x e) r = is_too_deep (replaced_too_deep r x) e
replaced_unread s (at_fault shallow f) r = has_fault (replaced_shallow r shallow) f

some_one : {A : Type 0} {x y : A} → Some x ≡ Some y → x ≡ y
some_one e = cc

module _ {t : List ℕ} {n : ℕ} {xs : Items} {i : ℕ} (has : HasMembers (container Object xs)) where
  -- an object with members begins to be filled
  pub first_filled : {h : ℕ} → ItemsFit strict t Object i 0 h → AreMembersFilled t n xs i 0 h xs
  first_filled fit = record { filled = none_filled fit refl refl; shallow = λ p g v c u zs less. absurd (omega (arith, less)) }

  -- or from an empty one nothing comes
  pub empty_filled : {j : ℕ} → byte t i ≡ 123 → IsEnd t Object (i + 1) j → IsFilledBy t n (container Object xs) (container Object xs) i j
  empty_filled b end = record {
    data_tree = container Object no_item;
    means = means_empty b end.0 end.1;
    filled = sym (object_fill xs no_item has);
    shallow = λ p x. items_not_empty (filled_fit (deep_member has b x).filled) end.0;
  }

module _ {t : List ℕ} {n : ℕ} {xs ys : Items} {i count h v : ℕ} {b : List ℕ} (has : HasMembers (container Object xs)) (is : AreMembersFilled t n xs i count h ys)
    (y : IsKey strict t h v b) where
  fit : ItemsFit strict t Object i count h
  fit = filled_fit is.filled

  -- a depth that counts in the member that is expected is in the value that it fills
  own_deep : {p g w : ℕ} {c : List ℕ} {u : Tree} {zs : Items} → AreFilled t i xs count g zs → IsKey strict t g w c → last_of c zs ≡ Some u → IsDeepIn t n u w p
      → (last_of b ys ≡ Some u) × IsDeepIn t n u v p
  own_deep {p} {g} {w} {c} {u} {zs} f z last deep =
      let place : g ≡ h = items_one (filled_fit f) fit in
      let key : IsKey strict t h w c = rw place at z in
      let keys = key_one key y in
      let same : zs ≡ ys = filled_one f is.filled in
      let own : last_of b ys ≡ Some u = rw (keys.1, same) at last in
      (own, rw keys.0 at deep)

  -- in no member up to this one a depth counts
  more_shallow : ((u : Tree) → last_of b ys ≡ Some u → IsShallowIn t n u v) → (p g w : ℕ) (c : List ℕ) (u : Tree) (zs : Items) → p < count + 1
      → AreFilled t i xs p g zs → IsKey strict t g w c → last_of c zs ≡ Some u → IsShallowIn t n u w
  more_shallow shallow p g w c u zs less f z last = elim (cases_order p count) [
    | inl e ↦ (λ q x. let f2 : AreFilled t i xs count g zs = rw e at f in let o = own_deep f2 z last x in shallow u o.0 q o.1)
    | inr (inl l) ↦ is.shallow p g w c u zs l f z last
    | inr (inr l) ↦ absurd (omega (arith, less, l))
  ]

  -- nor in the object, where no further one fits
  last_shallow : ((u : Tree) → last_of b ys ≡ Some u → IsShallowIn t n u v) → ((p g : ℕ) → count < p → ¬ ItemsFit strict t Object i p g)
      → IsShallowIn t n (container Object xs) i
  last_shallow shallow last q x =
      let m = deep_member has (items_open fit) x in
      elim (cases_order m.count count) [
        | inl e ↦ (let f : AreFilled t i xs count m.h m.ys = rw e at m.filled in let o = own_deep f m.key m.last m.deep in shallow m.u o.0 q o.1)
        | inr (inl l) ↦ is.shallow m.count m.h m.v m.b m.u m.ys l m.filled m.key m.last q m.deep
        | inr (inr l) ↦ last m.count m.h l (filled_fit m.filled)
      ]

  -- what is too deep in the member is so in the object
  deep_object : {u : Tree} {p : ℕ} → last_of b ys ≡ Some u → IsTooDeepIn t n u v p → IsTooDeepIn t n (container Object xs) i p
  deep_object {u} {p} last x =
      let nested = (deep_nested x.deep).1 in
      record {
        deep = record {
          w = x.deep.w;
          k = x.deep.k;
          meets = meets_member refl has (items_open fit) is.filled y last x.deep.meets;
          replaced = x.deep.replaced;
          nested = x.deep.nested;
        };
        first = λ q z.
            let m = deep_member has (items_open fit) z in
            elim (cases_order m.count count) [
              | inl e ↦
                  let f : AreFilled t i xs count m.h m.ys = rw e at m.filled in
                  let o = own_deep f m.key m.last m.deep in
                  let same : m.u ≡ u = some_one (sym o.0 ∙ last) in
                  x.first q (rw same at o.1)
              | inr (inl l) ↦ absurd (is.shallow m.count m.h m.v m.b m.u m.ys l m.filled m.key m.last q m.deep)
              | inr (inr l) ↦
                  let fs = filled_fit m.filled in
                  let ends = comma_after fit l (key_head y) fs in
                  let before = inside_before_end nested.inside ends.1 in
                  let after = items_after fit (key_head y) ends.1 fs l in
                  let inside = inside-later (deep_nested m.deep).1.inside in
                  omega (arith, before, after, inside, key-longer m.key)
            ];
      }

  -- a member that stops stops the object
  pub member_stops : (s : Stop) → IsMemberStopped t n b v ys s → IsUnfillable t n (container Object xs) i s
  member_stops s (member_too_deep last x e) = is_too_deep (deep_object last x) e
  member_stops s (member_fault shallow f) =
      has_fault (last_shallow shallow (λ p g l. not_past_value fit l (key_head y) f)) (in_value fit (key_head y) f)

  module _ {e : ℕ} {zs : Items} (m : IsMemberFilled t n b v e ys zs) where
    -- after the member another one is expected
    pub next_filled : {g : ℕ} → IsSeparated t e g → AreMembersFilled t n xs i (count + 1) g zs
    next_filled comma = record { filled = one_more_filled is.filled y m.means comma.0 comma.1 refl m.filled; shallow = more_shallow m.shallow }

    -- or the object ends
    pub end_filled : {j : ℕ} → IsEnd t Object e j → IsFilledBy t n (container Object xs) (container Object zs) i j
    end_filled {j} end =
        let rest = rest_fills is.filled (last_item (key_head y) m.means end.0 end.1) in
        record {
          data_tree = container Object rest.0;
          means = rest.1;
          filled = ap (container Object) (m.filled ∙ sym rest.2) ∙ sym (object_fill xs rest.0 has);
          shallow = last_shallow m.shallow (λ p g l. not_past_byte fit l (key_head y) (value_of m.means) (λ z. closing_no_comma Object (omega (arith, z, end.0))));
        }

    -- or neither follows
    pub separator_stops : {s : Stop} → IsSeparatorFault t Object e s → IsUnfillable t n (container Object xs) i s
    separator_stops f =
        has_fault (last_shallow m.shallow (λ p g l. not_past_byte fit l (key_head y) (value_of m.means) f.0.0))
        (after_item fit (key_head y) (value_of m.means) f.0 f.1)

-- a key that isn't there stops the object
pub key_stops : {t : List ℕ} {n : ℕ} {xs ys : Items} {i count h : ℕ} (s : Stop) → HasMembers (container Object xs) → AreMembersFilled t n xs i count h ys
    → IsKeyFault strict t h s → IsUnfillable t n (container Object xs) i s
key_stops {t} {n} {xs} {ys} {i} {count} {h} s has is f =
    let fit = filled_fit is.filled in
    let shallow : IsShallowIn t n (container Object xs) i = λ q x.
    let m = deep_member has (items_open fit) x in
    elim (cases_order m.count count) [
      | inl e ↦
          let fs : ItemsFit strict t Object i count m.h = rw e at (filled_fit m.filled) in
          let key : IsKey strict t h m.v m.b = rw (items_one fs fit) at m.key in
          key_never_both key f
      | inr (inl l) ↦ is.shallow m.count m.h m.v m.b m.u m.ys l m.filled m.key m.last q m.deep
      | inr (inr l) ↦ not_past_key refl fit l f (filled_fit m.filled)
    ] in
    has_fault shallow (in_key fit f)
