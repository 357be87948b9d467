-- A form means the same with its first level opened.
use Rattle.std.proofs.Common.{◌≡◌, ◌∙◌, ap, sym, refl, ℕ, ◌+◌, List, [], ◌∷◌, ◌++◌, false, length}
use Rattle.std.proofs.lemmas.List.{append_assoc}
use Rattle.std.specs.Prelude.{Option, slice_range}
use Rattle.sonic_lazy.proofs.ListingLemmas.{listing_one}
use Rattle.sonic_lazy.proofs.ScalarLemmas.{scalar_means}
use Rattle.sonic_lazy.specs.Items.{Item, closed, Listing, ItemsReach, IsItemAt, AreClosed, closed_empty, closed_after, at_bracket, AreItems, no_items, one_more_item, IsListing}
use Rattle.sonic_lazy.specs.Scalars.{container, scalar_of, scalar_of_tree}
use Rattle.sonic_text.proofs.PlacedLemmas.{slice_means}
use Rattle.sonic_owned.specs.Forms.{Form, raw, level, Members, FormMeans, raw_means, level_means, MembersMean, no_member_means, member_means}
use Rattle.sonic_owned.specs.Opened.{raw_members, AreAllMembers, IsOpened, as_it_was, level_opened}
use Rattle.sonic_text.proofs.TreeLemmas.{value_of}
use Rattle.sonic_text.proofs.Values.{value_starts}
use Rattle.sonic_text.proofs.Within.{value_within}
use Rattle.sonic_text.specs.Places.{byte, after_space}
use Rattle.sonic_text.specs.Strings.{strict}
use Rattle.sonic_text.specs.Trees.{Tree, null, truth, numeral, text, container as a_container, Items, Means, ItemsMean}
use Rattle.sonic_text.specs.Trees.Means.{means_empty, means_filled}
use Rattle.sonic_text.specs.Trees.ItemsMean.{last_item, more_items}
use Rattle.sonic_text.specs.Values.{opening, closing, ItemHead, first_item, next_item}
use Rattle.sonic_text.specs.declared.kind.Kind.{Kind}

-- a closed container has one list of items
pub closed_one : {t : List ℕ} {kind : Kind} {n p : ℕ} {xs ys : List Item} → AreItems t kind n xs → AreClosed t kind n → AreItems t kind p ys
    → AreClosed t kind p → xs ≡ ys
closed_one {t} {kind} {xs = xs} {ys} x c y d =
    let a : Listing = record { items = xs; ending = closed } in
    let b : Listing = record { items = ys; ending = closed } in
    let is : IsListing t false kind a = record { count = _; items = x; ending = at_bracket (λ e. absurd cc) c refl } in
    let are : IsListing t false kind b = record { count = _; items = y; ending = at_bracket (λ e. absurd cc) d refl } in
    ap (λ (l : Listing). l.items) ((listing_one t false kind).one a b is are)

-- after these items come the others, up to the closing bracket, and with their own texts they mean the trees
record Rest (t : List ℕ) (kind : Kind) (before : List Item) (xs : Items) : Type 0 where
  count : ℕ
  rest : List Item
  are : AreItems t kind count (before ++ rest)
  closes : AreClosed t kind count
  mean : MembersMean (raw_members t rest) xs

-- the text of a value is a form that means its tree
own_text : {t : List ℕ} {i j : ℕ} {v : Tree} → Means t i j v → FormMeans (raw (slice_range t i j)) v
own_text x = raw_means (slice_means x (value_within (value_of x)))

-- an item where one is expected
item_here : {t : List ℕ} {kind : Kind} {n h v e : ℕ} {l : Option (List ℕ)} {x : Tree} → ItemsReach t kind n h → ItemHead strict t kind h v l → Means t v e x
    → IsItemAt t kind n (record { label = l; span = (v, e) })
item_here r y x = record { place = _; before = r; head = y; value = value_of x }

-- the items that come from h on
rest_of : {t : List ℕ} {kind : Kind} {n h j : ℕ} {before : List Item} {xs : Items} → ItemsReach t kind n h → AreItems t kind n before → ItemsMean t kind h j xs
    → Rest t kind before xs
rest_of {n = n} r are (last_item {v} {e} {l = l} y x c q) =
    let item : Item = record { label = l; span = (v, e) } in
    let is = item_here r y x in
    record {
      count = n + 1;
      rest = item ∷ [];
      are = one_more_item are is refl refl;
      closes = closed_after is refl c;
      mean = member_means (own_text x) no_member_means;
    }
rest_of {before = before} r are (more_items {v} {e} {l = l} y x c q xs) =
    let item : Item = record { label = l; span = (v, e) } in
    let then = rest_of (next_item r y (value_of x) c q refl) (one_more_item are (item_here r y x) refl refl) xs in
    record {
      count = then.count;
      rest = item ∷ then.rest;
      are = rw (append_assoc before (item ∷ []) then.rest) at then.are;
      closes = then.closes;
      mean = member_means (own_text x) then.mean;
    }

-- all items of a container that begins the text
all_of : {t : List ℕ} {kind : Kind} {j : ℕ} {xs : Items} → after_space t 0 ≡ 0 → Means t 0 j (a_container kind xs) → Rest t kind [] xs
all_of {t} {kind} start (means_empty b c q) =
    let opens : byte t (after_space t 0) ≡ opening kind = rw start b in
    let ends : byte t (after_space t (after_space t 0 + 1)) ≡ closing kind = rw start c in
    record { count = 0; rest = []; are = no_items refl refl; closes = closed_empty refl opens ends; mean = no_member_means }
all_of {t} {kind} start (means_filled {h = h} b q d xs) =
    let reach : ItemsReach t kind 0 h = rw start (first_item b q d refl) in
    rest_of reach (no_items refl refl) xs

-- so a text that means a container has all its items
pub all_members : {b : List ℕ} {kind : Kind} {xs : Items} → Means b 0 (length b) (a_container kind xs) → (ms : Members) × AreAllMembers b kind ms
all_members {b} x =
    let y = all_of (value_starts (value_of x)) x in
    (raw_members b y.rest, record { count = y.count; items = y.rest; are = y.are; closed = y.closes; shown = refl })

-- what is a container by its first byte means one
container_tree : {kind : Kind} (v : Tree) → scalar_of_tree v ≡ container kind → (xs : Items) × (v ≡ a_container kind xs)
container_tree null e = absurd cc
container_tree (truth b) e = absurd cc
container_tree (numeral b) e = absurd cc
container_tree (text b) e = absurd cc
container_tree (a_container kind xs) e = (xs, cc)

-- all items of a container, each with its own text, mean the container's items
items_mean : {b : List ℕ} {kind : Kind} {ms : Members} {v : Tree} → scalar_of b ≡ container kind → AreAllMembers b kind ms → FormMeans (raw b) v
    → FormMeans (level kind ms) v
items_mean {b} {kind} {ms} {v} k all (raw_means x) =
    let tree = container_tree v (sym (scalar_means refl x) ∙ k) in
    let own : Means b 0 (length b) (a_container kind tree.0) = rw tree.1 at x in
    let y = all_of (value_starts (value_of x)) own in
    let same : ms ≡ raw_members b y.rest = all.shown ∙ ap (raw_members b) (closed_one all.are all.closed y.are y.closes) in
    rw (tree.1, same) (level_means y.mean)

-- a form means the same with its first level opened
pub opened_means : {f g : Form} {v : Tree} → IsOpened f g → FormMeans f v → FormMeans g v
opened_means (as_it_was shut e) m = rw e m
opened_means {v = v} (level_opened {b} {kind} e k all is) m =
    let own : FormMeans (raw b) v = rw e at m in
    rw is (items_mean k all own)
