-- What edits make of forms is what they make of the trees that the forms mean.
use Rattle.std.proofs.Common.{◌≡◌, ◌⊎◌, ◌+◌, ◌∙◌, sym, refl, ap, nat_eq, ℕ, zero, suc, List, [], ◌∷◌, length, Option, Some, None, IfSome, option_map, subst, inl, inr, arith, codes}
use Rattle.std.proofs.lemmas.Bool.{cases_Bool}
use Rattle.std.specs.Cmp.Lexicographic.{pointwise}
use Rattle.std.specs.Prelude.{◌↔◌}
use Rattle.sonic_lazy.proofs.WholeLemmas.{null_is_whole}
use Rattle.sonic_owned.proofs.Lists.{none_not_some, some_or_none}
use Rattle.sonic_owned.proofs.OpenedLemmas.{opened_one, level_some, opened_sound}
use Rattle.sonic_owned.proofs.OpeningLemmas.{opened_means}
use Rattle.sonic_owned.proofs.PutLawLemmas.{put_one, put_some, put_sound}
use Rattle.sonic_owned.proofs.PutLemmas.{put_part}
use Rattle.sonic_owned.proofs.ValueLemmas.{sound_means}
use Rattle.sonic_owned.specs.Edits.{append_member, insert_member, members_without_at, members_without_of, members_without, IsChange, is_set, is_pushed, is_paired, is_taken, is_inserted, is_removed, IsEdit, IsRefused, AreEdits, no_edit, one_more_edit, IsFirstRefused, refused_here, refused_later, IsSoundChange, ChangeMeans, set_means, push_means, pair_means, take_means, insert_means, remove_means, EditMeans, EditsMean, no_edit_means, edit_means, AreSoundEdits}
use Rattle.sonic_owned.specs.Forms.{Form, level, Members, member, IsLabel, IsSound, raw_sound, level_sound, AreSound, none_sound, item_sound, FormMeans, raw_means, level_means, MembersMean, no_member_means, member_means}
use Rattle.sonic_owned.specs.Opened.{IsOpened}
use Rattle.sonic_owned.specs.TreeEdits.{Change, set, push, pair, take, insert, remove, Edit, append_item, insert_item, without_at, without_of, change_tree, edit_tree, edit_tree_all}
use Rattle.sonic_owned.specs.TreePuts.{put}
use Rattle.sonic_text.specs.Literals.{IsLiteral}
use Rattle.sonic_text.specs.Paths.{Node, key, index}
use Rattle.sonic_text.specs.TreePaths.{leads}
use Rattle.sonic_text.specs.Trees.{Tree, container, Items, item}
use Rattle.sonic_text.specs.Trees.Means.{means_null}
use Rattle.sonic_text.specs.declared.kind.Kind.{Kind}
use Rattle.sonic_text.specs.declared.kind.Kind.TheVariants.{Array, Object}

-- one level comes of a form
level_one : {f g : Form} {kind : Kind} {ms ns : Members} → f ≡ g → IsOpened f (level kind ms) → IsOpened g (level kind ns) → ms ≡ ns
level_one {f} {g} {kind} {ms} {ns} e o d =
    let own : IsOpened f (level kind ns) = rw e d in
    let same : level kind ms ≡ level kind ns = opened_one o own in
    cc

level_same : {f g : Form} {kind other : Kind} {ms ns : Members} → f ≡ g → IsOpened f (level kind ms) → IsOpened g (level other ns)
    → level kind ms ≡ level other ns
level_same {f} {g} {kind} {other} {ms} {ns} e o d = let own : IsOpened f (level other ns) = rw e d in opened_one o own

-- a change makes one form
change_one : {m n g h : Form} {c : Change Form} → m ≡ n → IsChange m g c → IsChange n h c → g ≡ h
change_one same (is_set e) (is_set d) = e ∙ sym d
change_one same (is_pushed o e) (is_pushed p d) = rw (e, d, level_one same o p) refl
change_one same (is_paired o e) (is_paired p d) = rw (e, d, level_one same o p) refl
change_one same (is_taken e) (is_taken d) = e ∙ sym d
change_one same (is_inserted {n} {w} {ns = ns} o b e) (is_inserted {ns = ks} p c d) =
    let both : ◌≡◌ {A = Option Members} (Some ns) (Some ks) = sym b ∙ ap (insert_member n w) (level_one same o p) ∙ c in
    let one : ns ≡ ks = cc in
    rw (e, d, one) refl
change_one same (is_removed {node} {kind} {ms} {ns} o b e) (is_removed {kind = other} {ms = ls} {ns = ks} p c d) =
    let levels = level_same same o p in
    let kinds : kind ≡ other = cc in
    let members : ms ≡ ls = cc in
    let both : ◌≡◌ {A = Option Members} (Some ns) (Some ks) = sym b ∙ ap (λ (z : Kind). members_without node z ms) kinds ∙ ap (members_without node other) members ∙ c in
    let one : ns ≡ ks = cc in
    rw (e, d, kinds, one) refl

-- and so does an edit
pub edit_one : {e : Edit Form} {f g h : Form} → IsEdit e f g → IsEdit e f h → g ≡ h
edit_one x y = let same = put_one x.put y.put in same.1 (change_one same.0 x.change y.change)

-- an item more of a level is one more of the tree
append_means : (l : Option (List ℕ)) {ms : Members} {xs : Items} {f : Form} {v : Tree} → MembersMean ms xs → FormMeans f v
    → MembersMean (append_member ms l f) (append_item xs l v)
append_means l no_member_means x = member_means x no_member_means
append_means l (member_means y ys) x = member_means y (append_means l ys x)

-- one item more, or one less, in the form and in the tree: there is one in both or in neither, and what is made means the same
abbrev AreAlike : Option Members → Option Items → Type 0
AreAlike (Some ms) (Some xs) = MembersMean ms xs
AreAlike (Some ms) None = ⊥
AreAlike None (Some xs) = ⊥
AreAlike None None = Unit {0}

alike_after : (l : Option (List ℕ)) {f : Form} {v : Tree} (o : Option Members) (p : Option Items) → FormMeans f v → AreAlike o p
    → AreAlike (option_map (member l f) o) (option_map (item l v) p)
alike_after l (Some ms) (Some xs) y alike = member_means y alike
alike_after l (Some ms) None y alike = absurd alike
alike_after l None (Some xs) y alike = absurd alike
alike_after l None None y alike = tt

insert_alike : (n : ℕ) {ms : Members} {xs : Items} {f : Form} {v : Tree} → MembersMean ms xs → FormMeans f v → AreAlike (insert_member n f ms) (insert_item n v xs)
insert_alike zero y x = member_means x y
insert_alike (suc n) no_member_means x = tt
insert_alike (suc n) (member_means {l} y ys) x = alike_after l _ _ y (insert_alike n ys x)

without_at_alike : (n : ℕ) {ms : Members} {xs : Items} → MembersMean ms xs → AreAlike (members_without_at n ms) (without_at n xs)
without_at_alike n no_member_means = tt
without_at_alike zero (member_means y ys) = ys
without_at_alike (suc n) (member_means {l} y ys) = alike_after l _ _ y (without_at_alike n ys)

without_of_alike : (k : List ℕ) {ms : Members} {xs : Items} → MembersMean ms xs → AreAlike (members_without_of k ms) (without_of k xs)
without_of_alike k no_member_means = tt
without_of_alike k (member_means {l = None} y ys) = alike_after None _ _ y (without_of_alike k ys)
without_of_alike k (member_means {l = Some l} y ys) = elim (cases_Bool (pointwise nat_eq l k)) [
  | inl same ↦ rw same ys
  | inr other ↦ rw other (alike_after (Some l) _ _ y (without_of_alike k ys))
]

-- so what is made of the form is made of the tree, and the other way round
data MakesItems (ns : Members) (o : Option Items) : Type 0 where
  makes_items : (ys : Items) → o ≡ Some ys → MembersMean ns ys → MakesItems ns o

items_made : (o : Option Members) (p : Option Items) {ns : Members} → AreAlike o p → o ≡ Some ns → MakesItems ns p
items_made (Some ms) (Some xs) {ns} alike e = let q : ns ≡ ms = cc in makes_items xs refl (rw q alike)
items_made (Some ms) None alike e = absurd alike
items_made None p alike e = absurd (none_not_some e)

members_made : (o : Option Members) (p : Option Items) {ys : Items} → AreAlike o p → p ≡ Some ys → (ns : Members) × (o ≡ Some ns)
members_made (Some ms) p alike e = (ms, refl)
members_made None (Some xs) alike e = absurd alike
members_made None None alike e = absurd (none_not_some e)

-- null stands in its own text
null_stands : IsLiteral (codes "null") (codes "null") 0 (length (codes "null"))
null_stands = ((omega arith, λ k l. let same : 0 + k ≡ k = omega arith in rw same refl), refl)

-- what is made of the tree is something, and the form means it
abbrev Makes : Option Tree → Form → Type 0
Makes o h = (w : Tree) × (o ≡ Some w) × FormMeans h w

-- the items of a level mean those of its tree
members_of : {kind other : Kind} {ms : Members} {xs : Items} → FormMeans (level kind ms) (container other xs) → MembersMean ms xs
members_of (level_means xs) = xs

-- so a changed form means the changed tree
pushed_makes : {ms : Members} {w : Form} {u x : Tree} → FormMeans (level Array ms) u → FormMeans w x
    → Makes (change_tree (push x) u) (level Array (append_member ms None w))
pushed_makes (level_means xs) x = (_, refl, level_means (append_means None xs x))

paired_makes : (k : List ℕ) {ms : Members} {w : Form} {u x : Tree} → FormMeans (level Object ms) u → FormMeans w x
    → Makes (change_tree (pair k x) u) (level Object (append_member ms (Some k) w))
paired_makes k (level_means xs) x = (_, refl, level_means (append_means (Some k) xs x))

inserted_makes : (n : ℕ) {ms ns : Members} {w : Form} {u x : Tree} → FormMeans (level Array ms) u → FormMeans w x → insert_member n w ms ≡ Some ns
    → Makes (change_tree (insert n x) u) (level Array ns)
inserted_makes n (level_means xs) x e = elim (items_made _ _ (insert_alike n xs x) e) [ makes_items ys o means ↦ (container Array ys, rw o refl, level_means means) ]

removed_makes : (node : Node) (kind : Kind) {ms ns : Members} {u : Tree} → FormMeans (level kind ms) u → members_without node kind ms ≡ Some ns
    → Makes (change_tree (remove node) u) (level kind ns)
removed_makes (index n) Array (level_means xs) e = elim (items_made _ _ (without_at_alike n xs) e) [ makes_items ys o means ↦ (container Array ys, rw o refl, level_means means) ]
removed_makes (index n) Object (level_means xs) e = absurd (none_not_some e)
removed_makes (key k) Array (level_means xs) e = absurd (none_not_some e)
removed_makes (key k) Object (level_means xs) e = elim (items_made _ _ (without_of_alike k xs) e) [ makes_items ys o means ↦ (container Object ys, rw o refl, level_means means) ]

change_makes : {c : Change Form} {d : Change Tree} {m g : Form} {u : Tree} → ChangeMeans c d → FormMeans m u → IsChange m g c → Makes (change_tree d u) g
change_makes (set_means x) there (is_set e) = (_, refl, rw e x)
change_makes (push_means x) there (is_pushed o e) = rw e (pushed_makes (opened_means o there) x)
change_makes (pair_means {k = k} x) there (is_paired o e) = rw e (paired_makes k (opened_means o there) x)
change_makes (insert_means {n} x) there (is_inserted o b e) = rw e (inserted_makes n (opened_means o there) x b)
change_makes (remove_means {node}) there (is_removed {kind = kind} o b e) = rw e (removed_makes node kind (opened_means o there) b)
change_makes take_means there (is_taken e) = (_, refl, rw e (raw_means (means_null null_stands)))

-- and an edited form the edited tree
pub edit_makes : {e : Edit Form} {d : Edit Tree} {f h : Form} {v : Tree} → EditMeans e d → FormMeans f v → IsEdit e f h
    → (w : Tree) × (edit_tree d v ≡ Some w) × FormMeans h w
edit_makes {e} {v = v} alike f x =
    let (u, lead, there, with) = put_part x.put f in
    let (w, is, own) = change_makes alike.change there x.change in
    (put e.path w v, rw (alike.path, lead, is) refl, with w own)

-- what an item is appended to in the tree is a container of the kind
array_pushed : (x u : Tree) {y : Tree} → change_tree (push x) u ≡ Some y → (xs : Items) × (u ≡ container Array xs)
array_pushed x (container Array xs) e = (xs, refl)
array_pushed x u e = absurd (none_not_some e)

object_paired : (k : List ℕ) (x u : Tree) {y : Tree} → change_tree (pair k x) u ≡ Some y → (xs : Items) × (u ≡ container Object xs)
object_paired k x (container Object xs) e = (xs, refl)
object_paired k x u e = absurd (none_not_some e)

array_inserted : (n : ℕ) (x u : Tree) {y : Tree} → change_tree (insert n x) u ≡ Some y → (xs : Items) × (ys : Items) × (u ≡ container Array xs) × (insert_item n x xs ≡ Some ys)
array_inserted n x (container Array xs) e = elim (some_or_none (insert_item n x xs)) [
  | inl none ↦ absurd (none_not_some (rw none at e))
  | inr (ys, is) ↦ (xs, ys, refl, is)
]
array_inserted n x u e = absurd (none_not_some e)

-- so with what an item is removed from
some_removed : (node : Node) {m : Form} (u : Tree) {y : Tree} → FormMeans m u → change_tree (remove node) u ≡ Some y → (g : Form) × IsChange m g (remove node)
some_removed (index n) (container Array xs) there e = elim (some_or_none (without_at n xs)) [
  | inl none ↦ absurd (none_not_some (rw none at e))
  | inr (ys, is) ↦
      let (ms, o) = level_some there in
      let (ns, made) = members_made _ _ (without_at_alike n (members_of (opened_means o there))) is in
      (_, is_removed o made refl)
]
some_removed (key k) (container Object xs) there e = elim (some_or_none (without_of k xs)) [
  | inl none ↦ absurd (none_not_some (rw none at e))
  | inr (ys, is) ↦
      let (ms, o) = level_some there in
      let (ns, made) = members_made _ _ (without_of_alike k (members_of (opened_means o there))) is in
      (_, is_removed o made refl)
]
some_removed node u there e = absurd (none_not_some e)

-- where the tree can be changed, so can the form
change_some : {c : Change Form} {d : Change Tree} {m : Form} {u y : Tree} → ChangeMeans c d → FormMeans m u → change_tree d u ≡ Some y
    → (g : Form) × IsChange m g c
change_some (set_means x) there e = (_, is_set refl)
change_some {u = u} (push_means {v = x} p) there e = let (ms, o) = level_some (rw (array_pushed x u e).1 at there) in (_, is_pushed o refl)
change_some {u = u} (pair_means {k} {v = x} p) there e = let (ms, o) = level_some (rw (object_paired k x u e).1 at there) in (_, is_paired o refl)
change_some {u = u} (insert_means {n} {v = x} p) there e =
    let (xs, ys, is, made) = array_inserted n x u e in
    let own = rw is at there in
    let (ms, o) = level_some own in
    let (ns, b) = members_made _ _ (insert_alike n (members_of (opened_means o own)) p) made in
    (_, is_inserted o b refl)
change_some {u = u} (remove_means {node}) there e = some_removed node u there e
change_some take_means there e = (_, is_taken refl)

-- where the tree can be edited, so can the form
pub edit_some : {e : Edit Form} {d : Edit Tree} {f : Form} {v w : Tree} → EditMeans e d → FormMeans f v → edit_tree d v ≡ Some w → (h : Form) × IsEdit e f h
edit_some {e} {d} {v = v} alike f is = elim (some_or_none (leads v d.path)) [
  | inl none ↦ absurd (none_not_some (rw none at is))
  | inr (u, lead) ↦ elim (some_or_none (change_tree d.change u)) [
    | inl none ↦ absurd (none_not_some (rw (lead, none) at is))
    | inr (y, made) ↦
        let (m, there, all) = put_some f (rw alike.path at lead) in
        let (g, change) = change_some alike.change there made in
        let (h, at) = all g in
        (h, record { part = m; changed = g; change = change; put = at })
  ]
]

-- so it is refused where the tree's is
pub refused_alike : {e : Edit Form} {d : Edit Tree} {f : Form} {v : Tree} → EditMeans e d → FormMeans f v → (IsRefused e f ↔ (edit_tree d v ≡ None))
refused_alike {d = d} {v = v} alike f = (
  λ refused. elim (some_or_none (edit_tree d v)) [
    | inl none ↦ none
    | inr (w, is) ↦ let (h, x) = edit_some alike f is in absurd (refused h x)
  ],
  λ none h x. none_not_some (sym none ∙ (edit_makes alike f x).1),
)

-- what is appended to a sound level leaves it sound
append_sound : (l : Option (List ℕ)) {kind : Kind} {ms : Members} {f : Form} → AreSound kind ms → IsLabel kind l → IsSound f
    → AreSound kind (append_member ms l f)
append_sound l none_sound label s = item_sound label s none_sound
append_sound l (item_sound k g ms) label s = item_sound k g (append_sound l ms label s)

level_appends : (l : Option (List ℕ)) {kind : Kind} {ms : Members} {f : Form} → IsSound (level kind ms) → IsLabel kind l → IsSound f
    → IsSound (level kind (append_member ms l f))
level_appends l (level_sound ms) label s = level_sound (append_sound l ms label s)

-- and so it is with one item more at a place, or one less
sound_after : (l : Option (List ℕ)) (kind : Kind) {f : Form} (o : Option Members) → IsLabel kind l → IsSound f → IfSome o (AreSound kind)
    → IfSome (option_map (member l f) o) (AreSound kind)
sound_after l kind (Some ms) label y s = item_sound label y s
sound_after l kind None label y s = tt

insert_sound : (n : ℕ) {ms : Members} {f : Form} → AreSound Array ms → IsSound f → IfSome (insert_member n f ms) (AreSound Array)
insert_sound zero s x = item_sound refl x s
insert_sound (suc n) none_sound x = tt
insert_sound (suc n) (item_sound {l = l} label y s) x = sound_after l _ _ label y (insert_sound n s x)

without_at_sound : (n : ℕ) {kind : Kind} {ms : Members} → AreSound kind ms → IfSome (members_without_at n ms) (AreSound kind)
without_at_sound n none_sound = tt
without_at_sound zero (item_sound label y s) = s
without_at_sound (suc n) (item_sound {l = l} label y s) = sound_after l _ _ label y (without_at_sound n s)

without_of_sound : (k : List ℕ) {kind : Kind} {ms : Members} → AreSound kind ms → IfSome (members_without_of k ms) (AreSound kind)
without_of_sound k none_sound = tt
without_of_sound k (item_sound {l = None} label y s) = sound_after None _ _ label y (without_of_sound k s)
without_of_sound k (item_sound {l = Some l} label y s) = elim (cases_Bool (pointwise nat_eq l k)) [
  | inl same ↦ rw same s
  | inr other ↦ rw other (sound_after (Some l) _ _ label y (without_of_sound k s))
]

level_made : {kind : Kind} {ns : Members} (o : Option Members) → IfSome o (AreSound kind) → o ≡ Some ns → IsSound (level kind ns)
level_made {kind} o s e = level_sound (subst (λ o. IfSome o (AreSound kind)) e s)

inserted_sound : (n : ℕ) {ms ns : Members} {f : Form} → IsSound (level Array ms) → IsSound f → insert_member n f ms ≡ Some ns → IsSound (level Array ns)
inserted_sound n (level_sound s) x e = level_made _ (insert_sound n s x) e

removed_sound : (node : Node) (kind : Kind) {ms ns : Members} → IsSound (level kind ms) → members_without node kind ms ≡ Some ns → IsSound (level kind ns)
removed_sound (index n) Array (level_sound s) e = level_made _ (without_at_sound n s) e
removed_sound (index n) Object s e = absurd (none_not_some e)
removed_sound (key k) Array s e = absurd (none_not_some e)
removed_sound (key k) Object (level_sound s) e = level_made _ (without_of_sound k s) e

-- so do changes, and edits
change_sound : {c : Change Form} {m g : Form} → IsChange m g c → IsSoundChange c → IsSound m → IsSound g
change_sound (is_set e) c s = rw e c
change_sound (is_pushed o e) c s = rw e (level_appends None (opened_sound o s) refl c)
change_sound (is_paired {k} o e) c s = rw e (level_appends (Some k) (opened_sound o s) (_, refl, c.0) c.1)
change_sound (is_inserted {n} o b e) c s = rw e (inserted_sound n (opened_sound o s) c b)
change_sound (is_removed {node} {kind} o b e) c s = rw e (removed_sound node kind (opened_sound o s) b)
change_sound (is_taken e) c s = rw e (raw_sound null_is_whole.value null_is_whole.utf8)

pub edit_sound : {e : Edit Form} {f h : Form} → IsEdit e f h → IsSoundChange e.change → IsSound f → IsSound h
edit_sound x c s = let keeps = put_sound x.put s in keeps.1 (change_sound x.change c keeps.0)

-- a sound change means one of a tree
pub change_means : {c : Change Form} → IsSoundChange c → (d : Change Tree) × ChangeMeans c d
change_means {c = set w} s = let (v, means) = sound_means s in (set v, set_means means)
change_means {c = push w} s = let (v, means) = sound_means s in (push v, push_means means)
change_means {c = pair k w} s = let (v, means) = sound_means s.1 in (pair k v, pair_means means)
change_means {c = take} s = (take, take_means)
change_means {c = insert n w} s = let (v, means) = sound_means s in (insert n v, insert_means means)
change_means {c = remove node} s = (remove node, remove_means)

-- edits in order make one form, or one of them is the first that is refused
pub edits_one : {es : List (Edit Form)} {f g h : Form} → AreEdits es f g → AreEdits es f h → g ≡ h
edits_one (no_edit e) (no_edit d) = e ∙ sym d
edits_one {h = h} (one_more_edit {es = es} {g = g} x xs) (one_more_edit y ys) =
    let rest : AreEdits es g h = rw (edit_one y x) at ys in
    edits_one xs rest

pub refused_one : {es : List (Edit Form)} {f : Form} {n m : ℕ} → IsFirstRefused es f n → IsFirstRefused es f m → n ≡ m
refused_one (refused_here r e) (refused_here s d) = e ∙ sym d
refused_one (refused_here r e) (refused_later x s d) = absurd (r _ x)
refused_one (refused_later x r e) (refused_here s d) = absurd (s _ x)
refused_one (refused_later {es = es} {g = g} x r e) (refused_later {m = m} y s d) =
    let rest : IsFirstRefused es g m = rw (edit_one y x) at s in
    let same = refused_one r rest in
    omega arith

pub edits_not_refused : {es : List (Edit Form)} {f h : Form} {n : ℕ} → AreEdits es f h → ¬ IsFirstRefused es f n
edits_not_refused (no_edit e) r = elim r [ ]
edits_not_refused (one_more_edit x xs) (refused_here r e) = r _ x
edits_not_refused (one_more_edit {es = es} {g = g} x xs) (refused_later {m = m} y r e) =
    let rest : IsFirstRefused es g m = rw (edit_one y x) at r in
    edits_not_refused xs rest

-- what they make means what they make of the tree
pub edits_make : {es : List (Edit Form)} {ds : List (Edit Tree)} {f h : Form} {v : Tree} → EditsMean es ds → FormMeans f v → AreEdits es f h
    → (w : Tree) × (edit_tree_all ds v ≡ Some w) × FormMeans h w
edits_make no_edit_means f (no_edit e) = (_, refl, rw e f)
edits_make (edit_means a rest) f (one_more_edit x xs) =
    let (u, first, own) = edit_makes a f x in
    let (w, is, means) = edits_make rest own xs in
    (w, rw (first, is) refl, means)

pub edits_refused : {es : List (Edit Form)} {ds : List (Edit Tree)} {f : Form} {n : ℕ} {v : Tree} → EditsMean es ds → FormMeans f v → IsFirstRefused es f n
    → edit_tree_all ds v ≡ None
edits_refused no_edit_means f r = elim r [ ]
edits_refused (edit_means a rest) f (refused_here r e) = rw ((refused_alike a f).0 r) refl
edits_refused (edit_means a rest) f (refused_later x r e) =
    let (u, first, own) = edit_makes a f x in
    rw (first, edits_refused rest own r) refl

pub edits_or_refused : {es : List (Edit Form)} {ds : List (Edit Tree)} {f : Form} {v : Tree} → EditsMean es ds → FormMeans f v
    → ((h : Form) × AreEdits es f h) ⊎ ((n : ℕ) × IsFirstRefused es f n)
edits_or_refused no_edit_means f = inl (_, no_edit refl)
edits_or_refused {v = v} (edit_means {d = d} a rest) f = elim (some_or_none (edit_tree d v)) [
  | inl none ↦ inr (1, refused_here ((refused_alike a f).1 none) refl)
  | inr (w, is) ↦
      let (g, x) = edit_some a f is in
      let own = edit_makes a f x in
      elim (edits_or_refused rest own.2) [
        | inl (h, xs) ↦ inl (h, one_more_edit x xs)
        | inr (n, r) ↦ inr (n + 1, refused_later x r refl)
      ]
]

-- sound edits are the first and the others
first_edit : (e : Edit Form) (es : List (Edit Form)) → AreSoundEdits (e ∷ es) → IsSoundChange e.change
first_edit e es sound = sound 0 e (omega arith)

other_edits : (e : Edit Form) (es : List (Edit Form)) → AreSoundEdits (e ∷ es) → AreSoundEdits es
other_edits e es sound k d l = sound (suc k) d (omega arith)

-- they leave a sound form sound, and mean edits of a tree
pub edits_sound : {es : List (Edit Form)} {f h : Form} → AreSoundEdits es → AreEdits es f h → IsSound f → IsSound h
edits_sound sound (no_edit e) s = rw e s
edits_sound sound (one_more_edit {e} {es} x xs) s = edits_sound (other_edits e es sound) xs (edit_sound x (first_edit e es sound) s)

pub edits_mean : {es : List (Edit Form)} → AreSoundEdits es → (ds : List (Edit Tree)) × EditsMean es ds
edits_mean {es = []} sound = ([], no_edit_means)
edits_mean {es = e ∷ es} sound =
    let (c, means) = change_means (first_edit e es sound) in
    let (ds, all) = edits_mean (other_edits e es sound) in
    (record { path = e.path; change = c } ∷ ds, edit_means (record { path = refl; change = means }) all)
