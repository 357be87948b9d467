-- What follows for a value where an item of it is changed.
use Rattle.std.proofs.Common.{◌≡◌, ◌≢◌, ◌∙◌, sym, ap, refl, ℕ, zero, suc, List, [], ◌∷◌, ◌++◌, Option, Some, None, inl, inr, nat_eq, true, arith, Result, Ok, Err}
use Rattle.std.proofs.lemmas.Bool.{cases_Bool}
use Rattle.std.proofs.lemmas.Option.{same_Some}
use Rattle.std.specs.Cmp.Lexicographic.{pointwise, nat_list_eq_equiv}
use Rattle.std.specs.List.{slice_set}
use Rattle.sonic_owned.proofs.KeptTextLemmas.{opened_alike}
use Rattle.sonic_owned.proofs.LeadingLemmas.{no_key_first, item_of_none, level_nowhere}
use Rattle.sonic_owned.proofs.Lists.{none_not_some}
use Rattle.sonic_owned.proofs.OpeningLemmas.{opened_means}
use Rattle.sonic_owned.specs.Forms.{Form, raw, level, Members, member, unnamed, named, scalar_of_form, FormMeans, raw_means, level_means, MembersMean, no_member_means, member_means}
use Rattle.sonic_owned.specs.Leading.{item_at, item_of, item_in}
use Rattle.sonic_find.specs.Paths.{kind_of}
use Rattle.sonic_lazy.specs.Scalars.{container as container_of}
use Rattle.sonic_owned.specs.Opened.{IsClosedContainer, IsClosedOf, IsOpened}
use Rattle.sonic_owned.specs.Owned.{HasKeyAt, IsFirstOfKey}
use Rattle.sonic_owned.specs.Puts.{put_at, put_of, put_in, IsPut, put_here, put_on, with_value}
use Rattle.sonic_owned.specs.Reached.{IsOpenedAlong, as_before, opened_at, opened_below, IsKeptAlong, MeansStill, LeadsNowhere}
use Rattle.std.specs.Prelude.{IfOk, IfSome, OnErr, OnSome}
use Rattle.sonic_text.specs.Paths.{Node, key, index, Path}
use Rattle.sonic_text.specs.Trees.{Tree, Items}
use Rattle.sonic_text.specs.declared.kind.Kind.{Kind}
use Rattle.sonic_text.specs.declared.kind.Kind.TheVariants.{Array, Object}

-- a list with another value at a position, as the items of a level
pub put_unnamed : (fs : List Form) (n : ℕ) (w : Form) → put_at n w (unnamed fs) ≡ unnamed (slice_set fs n w)
put_unnamed [] n w = refl
put_unnamed (f ∷ fs) zero w = refl
put_unnamed (f ∷ fs) (suc n) w = ap (λ ms. member None f ms) (put_unnamed fs n w)

pub put_named : (ms : List (List ℕ × Form)) (k : List ℕ) (i : ℕ) (w : Form) → IsFirstOfKey ms k i → put_of k w (named ms) ≡ named (with_value i w ms)
put_named [] k i w first = refl
put_named (m ∷ ms) k zero w first =
    let key : m.0 ≡ k = ap (λ t. t.0) (same_Some _ _ first.here.1) in
    let same : pointwise nat_eq m.0 k ≡ true = rw key (nat_list_eq_equiv.refl k) in
    rw same refl
put_named (m ∷ ms) k (suc i) w first =
    let other = no_key_first m ms k (first.first 0 (omega arith)) in
    rw other (ap (λ l. member (Some m.0) m.1 l) (put_named ms k i w (record { here = first.here; first = λ q l h. first.first (suc q) (omega arith) h })))

-- a container that isn't opened is one of the kind that it is
pub closed_of : (f : Form) {kind : Kind} → IsClosedContainer f → scalar_of_form f ≡ container_of kind → IsClosedOf kind f
closed_of (raw b) shut is = is
closed_of (level kind ms) shut is = absurd shut

-- items of which one means what it meant
at_still : (n : ℕ) {ms : Members} {xs : Items} {k w : Form} → MembersMean ms xs → item_at n ms ≡ Some k → MeansStill k w → MembersMean (put_at n w ms) xs
at_still n no_member_means e same = absurd (none_not_some e)
at_still zero (member_means {v = x} m ms) e same = member_means (same x (rw (same_Some _ _ e) at m)) ms
at_still (suc n) (member_means m ms) e same = member_means m (at_still n ms e same)

of_still : (name : List ℕ) {ms : Members} {xs : Items} {k w : Form} → MembersMean ms xs → item_of name ms ≡ Some k → MeansStill k w
    → MembersMean (put_of name w ms) xs
of_still name no_member_means e same = absurd (none_not_some e)
of_still name (member_means {l = None} m ms) e same = member_means m (of_still name ms e same)
of_still name {w = w} (member_means {l = Some l} {v = x} m ms) e same = elim (cases_Bool (pointwise nat_eq l name)) [
  | inl is ↦ rw is (member_means (same x (rw (same_Some _ _ (rw is at e)) at m)) ms)
  | inr other ↦ rw other (member_means m (of_still name ms (rw other at e) same))
]

pub item_still : (node : Node) {o k w : Form} {x : Tree} → FormMeans o x → item_in node o ≡ Some k → MeansStill k w → FormMeans (put_in node w o) x
item_still node (raw_means m) e same = absurd (none_not_some e)
item_still (index n) (level_means {kind = Array} ms) e same = level_means (at_still n ms e same)
item_still (index n) (level_means {kind = Object} ms) e same = absurd (none_not_some e)
item_still (key k) (level_means {kind = Array} ms) e same = absurd (none_not_some e)
item_still (key k) (level_means {kind = Object} ms) e same = level_means (of_still k ms e same)

-- where only levels on the way of a path are opened, the value means what it meant
along_still : {path : Path} {f h : Form} → IsOpenedAlong path f h → MeansStill f h
along_still (as_before e) x m = rw e m
along_still (opened_at kind opened) x m = opened_means opened m
along_still (opened_below {node} opened item along is) x m = rw is (item_still node (opened_means opened m) item (along_still along))

pub kept_along : {path : Path} {f h : Form} → IsOpenedAlong path f h → IsKeptAlong path f h
kept_along along = (along_still along, along)

pub kept_as_before : {path : Path} {f h : Form} → h ≡ f → IsKeptAlong path f h
kept_as_before same = kept_along (as_before same)

-- they are on the way of a longer path too
pub longer : {path : Path} {f h : Form} (more : Path) → IsOpenedAlong path f h → IsOpenedAlong (path ++ more) f h
longer more (as_before e) = as_before e
longer more (opened_at kind opened) = opened_at kind opened
longer more (opened_below opened item along is) = opened_below opened item (longer more along) is

pub kept_longer : {path : Path} {f h : Form} (more : Path) → IsKeptAlong path f h → IsKeptAlong (path ++ more) f h
kept_longer more kept = (kept.0, longer more kept.1)

-- where its level is opened alone, it is opened on the way
pub level_along : {node : Node} {rest : Path} {f o h : Form} → scalar_of_form f ≡ container_of (kind_of node) → IsOpened f o → h ≡ o
    → IsOpenedAlong (node ∷ rest) f h
level_along kind opened same = opened_at kind (rw same opened)

-- a level whose list is as it was
pub array_same : {o h : Form} {fs gs : List Form} → o ≡ level Array (unnamed fs) → gs ≡ fs → h ≡ level Array (unnamed gs) → h ≡ o
array_same is same all = all ∙ ap (λ l. level Array (unnamed l)) same ∙ sym is

pub object_same : {o h : Form} {ms ns : List (List ℕ × Form)} → o ≡ level Object (named ms) → ns ≡ ms → h ≡ level Object (named ns) → h ≡ o
object_same is same all = all ∙ ap (λ l. level Object (named l)) same ∙ sym is

-- a level that lacks the item leads nowhere by it
lacks : {f o : Form} {node : Node} {path rest : Path} → path ≡ node ∷ rest → IsOpened f o → item_in node o ≡ None → ((b : List ℕ) → o ≢ raw b)
    → LeadsNowhere path f
lacks {node = node} {rest = rest} is opened none shut g l = level_nowhere node none shut rest g ((opened_alike opened).on g (rw is at l))

pub object_lacks : {f o : Form} (ms : List (List ℕ × Form)) {k : List ℕ} {path rest : Path} → path ≡ key k ∷ rest → IsOpened f o → o ≡ level Object (named ms)
    → ((p : ℕ) → ¬ HasKeyAt ms k p) → LeadsNowhere path f
object_lacks ms {k} path opened is none = lacks path opened (rw is (item_of_none ms k none)) (λ b e. absurd cc)

-- where a part is as it was, levels on its way alone are opened, and where levels on a way in it are opened, those too
pub put_same : {path : Path} {f m g h : Form} → IsPut path f m g h → g ≡ m → IsOpenedAlong path f h
put_same put_here same = as_before same
put_same (put_on opened item p is) same = opened_below opened item (put_same p same) is

pub put_along : {path more : Path} {f m g h : Form} → IsPut path f m g h → IsOpenedAlong more m g → IsOpenedAlong (path ++ more) f h
put_along put_here along = along
put_along (put_on opened item p is) along = opened_below opened item (put_along p along) is

pub on_err : {A E : Type 0} (r : Result A E) {P : Type 0} → P → OnErr r P
on_err (Ok a) p = tt
on_err (Err e) p = p

pub if_some_then : {A E : Type 0} (r : Result (Option A) E) {P Q : A → Type 0} → ((a : A) → P a → Q a) → IfOk r (λ o. IfSome o P) → IfOk r (λ o. IfSome o Q)
if_some_then (Ok (Some a)) step p = step a p
if_some_then (Ok None) step p = tt
if_some_then (Err e) step p = tt

-- what holds where there is some
pub on_some : {A : Type 0} {o : Option A} {a : A} {P : Type 0} → o ≡ Some a → OnSome o P → P
on_some {P = P} is p = rw is at p
