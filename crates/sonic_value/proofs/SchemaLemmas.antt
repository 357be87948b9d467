-- What is met while a schema is filled, and where a depth counts.
use Rattle.std.proofs.Common.{◌≡◌, ◌∙◌, ap, refl, sym, arith, ℕ, ◌+◌, List, Some}
use Rattle.sonic_text.proofs.Items.{key_one}
use Rattle.sonic_text.proofs.TreeLemmas.{value_of, means_one}
use Rattle.sonic_text.proofs.Values.{items_one}
use Rattle.sonic_text.specs.Places.{byte}
use Rattle.sonic_text.specs.Strings.{strict}
use Rattle.sonic_text.specs.Trees.{Tree, container, Items, Means, ItemsMean}
use Rattle.sonic_text.specs.Trees.Means.{means_filled}
use Rattle.sonic_text.specs.Trees.ItemsMean.{more_items}
use Rattle.sonic_text.specs.Values.{key_head, IsKey, ItemsFit, first_item, next_item}
use Rattle.sonic_text.specs.declared.kind.Kind.TheVariants.{Object}
use Rattle.sonic_value.specs.Depths.{IsInside, at_the_value, inside_an_item, IsNested, IsTooDeep, IsShallow}
use Rattle.sonic_value.specs.Filling.{fill_members, last_of}
use Rattle.sonic_value.specs.Schemas.{HasMembers, AreFilled, none_filled, one_more_filled, Meets, meets_whole, meets_member, IsReplaced, no_object_met, no_members, IsDeepIn, IsTooDeepIn, IsShallowIn}

-- a place inside a value that is inside another
inside_more : {t : List ℕ} {i k p m n : ℕ} → IsInside t i k m → IsInside t k p n → IsInside t i p (m + n)
inside_more {t} {i} {p = p} {m} {n} (at_the_value e z) y =
    let own : IsInside t i p n = rw e at y in
    let same : m + n ≡ n = omega (arith, z) in
    rw same own
inside_more (inside_an_item is y inside e) z = inside_an_item is y (inside_more inside z) (omega (arith, e))

-- members that fill fit
pub filled_fit : {t : List ℕ} {i : ℕ} {xs : Items} {n h : ℕ} {ys : Items} → AreFilled t i xs n h ys → ItemsFit strict t Object i n h
filled_fit (none_filled is z e) = is
filled_fit (one_more_filled f y x c q o e) = next_item (filled_fit f) (key_head y) (value_of x) c q o

-- so what meets a schema's value is inside
meets_inside : {t : List ℕ} {s w : Tree} {i k : ℕ} → Meets t s i w k → (m : ℕ) × IsInside t i k m
meets_inside (meets_whole e f) = (0, at_the_value f refl)
meets_inside (meets_member e has b f y l m) = let x = meets_inside m in (x.0 + 1, inside_an_item (filled_fit f) (key_head y) x.1 refl)

-- and where a depth counts a container is nested
pub deep_nested : {t : List ℕ} {n : ℕ} {s : Tree} {i p : ℕ} → IsDeepIn t n s i p → (m : ℕ) × IsNested t (m + n) i p
deep_nested x =
    let a = meets_inside x.meets in
    (a.0, record { kind = x.nested.kind; inside = inside_more a.1 x.nested.inside; bracket = x.nested.bracket })

-- where a value takes the place of a schema, that alone is met
replaced_meets : {t : List ℕ} {s w : Tree} {i k : ℕ} → IsReplaced t s i → Meets t s i w k → k ≡ i
replaced_meets r (meets_whole e f) = f
replaced_meets (no_object_met n) (meets_member e has b f y l m) = absurd (n b)
replaced_meets (no_members n) (meets_member e has b f y l m) = absurd (n has)

pub replaced_shallow : {t : List ℕ} {n : ℕ} {s : Tree} {i : ℕ} → IsReplaced t s i → IsShallow t n i → IsShallowIn t n s i
replaced_shallow r none p x = none p (rw (replaced_meets r x.meets) at x.nested)

pub replaced_too_deep : {t : List ℕ} {n : ℕ} {s : Tree} {i p : ℕ} → IsReplaced t s i → IsTooDeep t n i p → IsTooDeepIn t n s i p
replaced_too_deep {s = s} {i} r x = record {
  deep = record { w = s; k = i; meets = meets_whole refl refl; replaced = r; nested = x.nested };
  first = λ q z. x.first q (rw (replaced_meets r z.meets) at z.nested);
}

-- members fill to one list
filled_same : {t : List ℕ} {i : ℕ} {xs : Items} {n m h g : ℕ} {ys zs : Items} → n ≡ m → AreFilled t i xs n h ys → AreFilled t i xs m g zs → ys ≡ zs
filled_same same (none_filled is z e) (none_filled fs y f) = e ∙ sym f
filled_same same (none_filled is z e) (one_more_filled f y x c q o r) = absurd (omega (arith, same, z, o))
filled_same same (one_more_filled f y x c q o r) (none_filled is z e) = absurd (omega (arith, same, z, o))
filled_same {t} {i} same (one_more_filled {p = a} {u = u} {v = v} {k = k} {d = d} {ys = ys} f y x c q o r)
    (one_more_filled {p = b} {u = w} {v = z} {e = e} {k = l} {d = g} {ys = zs} f2 y2 x2 c2 q2 o2 r2) =
    let before : a ≡ b = omega (arith, same, o, o2) in
    let lists : ys ≡ zs = filled_same before f f2 in
    let fit : ItemsFit strict t Object i b u = rw before at (filled_fit f) in
    let place : w ≡ u = items_one (filled_fit f2) fit in
    let key : IsKey strict t u z l = rw place at y2 in
    let keys = key_one y key in
    let start : z ≡ v = sym keys.0 in
    let own : Means t v e g = rw start at x2 in
    let trees : d ≡ g = means_one x own in
    rw (r, r2, keys.1, trees, lists) refl

pub filled_one : {t : List ℕ} {i n h g : ℕ} {xs ys zs : Items} → AreFilled t i xs n h ys → AreFilled t i xs n g zs → ys ≡ zs
filled_one f g = filled_same refl f g

-- with members that mean more the object means a tree, whose further members fill what came of the first
pub rest_fills : {t : List ℕ} {i : ℕ} {xs : Items} {n h j : ℕ} {ys rest : Items} → AreFilled t i xs n h ys → ItemsMean t Object h j rest
    → (ds : Items) × Means t i j (container Object ds) × (fill_members xs ds ≡ fill_members ys rest)
rest_fills {rest = rest} (none_filled (first_item b q d o) z e) r = (rest, means_filled b q d r, ap (λ l. fill_members l rest) (sym e))
rest_fills (none_filled (next_item is y x c q o) z e) r = absurd (omega (arith, z, o))
rest_fills {rest = rest} (one_more_filled f y x c q o e) r =
    let a = rest_fills f (more_items (key_head y) x c q r) in
    (a.0, a.1, a.2 ∙ ap (λ l. fill_members l rest) (sym e))

-- where a depth counts in a member of the object at i
pub record IsDeepMember (t : List ℕ) (n : ℕ) (xs : Items) (i p : ℕ) : Type 0 where
  pub count : ℕ
  pub h : ℕ
  pub v : ℕ
  pub b : List ℕ
  pub u : Tree
  pub ys : Items
  pub filled : AreFilled t i xs count h ys
  pub key : IsKey strict t h v b
  pub last : last_of b ys ≡ Some u
  pub deep : IsDeepIn t n u v p

deep_by : {t : List ℕ} {n : ℕ} {s w : Tree} {i k p : ℕ} (xs : Items) → s ≡ container Object xs → Meets t s i w k → IsReplaced t w k → IsNested t n k p
    → HasMembers (container Object xs) → byte t i ≡ 123 → IsDeepMember t n xs i p
deep_by xs is (meets_whole e f) (no_object_met n) x has b = absurd (n (rw f b))
deep_by xs is (meets_whole e f) (no_members n) x has b = absurd (n (rw (e, is) has))
deep_by {t} {w = w} {i} {k} xs is (meets_member {u = s} {xs = zs} {ys} {n = n} {h} e own c f y l m) r x has b =
    let same : zs ≡ xs = cc in
    let filled : AreFilled t i xs n h ys = rw same at f in
    record {
      count = n;
      h = h;
      v = _;
      b = _;
      u = s;
      ys = ys;
      filled = filled;
      key = y;
      last = l;
      deep = record { w = w; k = k; meets = m; replaced = r; nested = x };
    }

-- where one counts in an object that is filled, it is in one of the members
pub deep_member : {t : List ℕ} {n : ℕ} {xs : Items} {i p : ℕ} → HasMembers (container Object xs) → byte t i ≡ 123 → IsDeepIn t n (container Object xs) i p
    → IsDeepMember t n xs i p
deep_member {xs = xs} has b x = deep_by xs refl x.meets x.replaced x.nested has b
