-- What is put into a form is determined, can be put where the path leads in the tree, and leaves it sound.
use Rattle.std.proofs.Common.{◌≡◌, ◌∙◌, sym, refl, ℕ, zero, suc, List, [], ◌∷◌, Some, None, inl, inr, nat_eq}
use Rattle.std.proofs.lemmas.Bool.{cases_Bool}
use Rattle.std.proofs.lemmas.Option.{same_Some}
use Rattle.std.specs.Cmp.Lexicographic.{pointwise}
use Rattle.sonic_owned.proofs.Lists.{none_not_some}
use Rattle.sonic_owned.proofs.MeantPathLemmas.{both_mean, neither}
use Rattle.sonic_owned.proofs.OpenedLemmas.{opened_one, opened_some, opened_item, opened_sound}
use Rattle.sonic_owned.proofs.OpeningLemmas.{opened_means}
use Rattle.sonic_owned.specs.Forms.{Form, Members, IsSound, raw_sound, level_sound, AreSound, none_sound, item_sound, FormMeans}
use Rattle.sonic_owned.specs.Leading.{item_at, item_of, item_in}
use Rattle.sonic_owned.specs.Puts.{put_at, put_of, put_in, IsPut, put_here, put_on}
use Rattle.sonic_text.specs.Paths.{Node, key, index, Path}
use Rattle.sonic_text.specs.TreePaths.{leads}
use Rattle.sonic_text.specs.Trees.{Tree}
use Rattle.sonic_text.specs.declared.kind.Kind.{Kind}
use Rattle.sonic_text.specs.declared.kind.Kind.TheVariants.{Array, Object}

-- the part is determined, and by what is put so is the form
pub put_one : {path : Path} {f m g h n k j : Form} → IsPut path f m g h → IsPut path f n k j → (m ≡ n) × (g ≡ k → h ≡ j)
put_one put_here put_here = (refl, λ e. e)
put_one {n = n} {k} (put_on {node} {rest} {i = i} o e p is) (put_on {j = below} q d r are) =
    let opened = opened_one q o in
    let item = same_Some _ _ (rw opened at (sym d) ∙ e) in
    let own : IsPut rest i n k below = rw item at r in
    let same = put_one p own in
    (same.0, λ x. rw (is, are, opened, same.1 x) refl)

-- where the path leads in the tree there is a part, and anything can be put there
pub put_some : {path : Path} {f : Form} {v u : Tree} → FormMeans f v → leads v path ≡ Some u
    → (m : Form) × FormMeans m u × ((g : Form) → (h : Form) × IsPut path f m g h)
put_some {path = []} {f} m e = (f, rw (same_Some _ _ e) at m, λ g. (g, put_here))
put_some {path = node ∷ rest} m e =
    let (o, opened) = opened_some m in
    elim (opened_item node opened (opened_means opened m)) [
      | both_mean is at there ↦
          let (part, means, put) = put_some {path = rest} there (rw at at e) in
          (part, means, λ g. let (h, below) = put g in (_, put_on opened is below refl))
      | neither none at ↦ absurd (none_not_some (rw at at e))
    ]

-- an item of a sound level is sound, and so is the level with another sound one in its place
pub record StaysSound (i : Form) (Put : Form → Type 0) : Type 0 where
  pub item : IsSound i
  pub put : (j : Form) → IsSound j → Put j

element_sound : (n : ℕ) {kind : Kind} {ms : Members} {i : Form} → AreSound kind ms → item_at n ms ≡ Some i → StaysSound i (λ j. AreSound kind (put_at n j ms))
element_sound n none_sound e = absurd (none_not_some e)
element_sound zero (item_sound l f ms) e = record { item = rw (same_Some _ _ e) at f; put = λ j s. item_sound l s ms }
element_sound (suc n) (item_sound l f ms) e = let r = element_sound n ms e in record { item = r.item; put = λ j s. item_sound l f (r.put j s) }

first_sound : (k : List ℕ) {kind : Kind} {ms : Members} {i : Form} → AreSound kind ms → item_of k ms ≡ Some i
    → StaysSound i (λ j. AreSound kind (put_of k j ms))
first_sound k none_sound e = absurd (none_not_some e)
first_sound k (item_sound {l = None} l f ms) e = let r = first_sound k ms e in record { item = r.item; put = λ j s. item_sound l f (r.put j s) }
first_sound k (item_sound {l = Some l} label f ms) e = elim (cases_Bool (pointwise nat_eq l k)) [
  | inl same ↦ rw same (record { item = rw (same_Some _ _ (rw same at e)) at f; put = λ j s. item_sound label s ms })
  | inr other ↦ let r = first_sound k ms (rw other at e) in rw other (record { item = r.item; put = λ j s. item_sound label f (r.put j s) })
]

pub item_stays : (node : Node) {o i : Form} → IsSound o → item_in node o ≡ Some i → StaysSound i (λ j. IsSound (put_in node j o))
item_stays node (raw_sound x u) e = absurd (none_not_some e)
item_stays (index n) (level_sound {kind = Array} ms) e = let r = element_sound n ms e in record { item = r.item; put = λ j s. level_sound (r.put j s) }
item_stays (index n) (level_sound {kind = Object} ms) e = absurd (none_not_some e)
item_stays (key k) (level_sound {kind = Array} ms) e = absurd (none_not_some e)
item_stays (key k) (level_sound {kind = Object} ms) e = let r = first_sound k ms e in record { item = r.item; put = λ j s. level_sound (r.put j s) }

-- so a part of a sound form is sound, and so is the form with another sound one in its place
pub put_sound : {path : Path} {f m g h : Form} → IsPut path f m g h → IsSound f → IsSound m × (IsSound g → IsSound h)
put_sound put_here s = (s, λ g. g)
put_sound (put_on {node} o e p is) s =
    let r = item_stays node (opened_sound o s) e in
    let below = put_sound p r.item in
    (below.0, λ g. rw is (r.put _ (below.1 g)))
