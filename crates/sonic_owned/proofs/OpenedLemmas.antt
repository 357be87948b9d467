-- The first level of a form is opened in one way, and what is opened of a sound form is sound.
use Rattle.std.proofs.Common.{◌≡◌, ◌∙◌, sym, refl, ℕ, List, [], ◌∷◌, ◌++◌, length, arith}
use Rattle.std.proofs.lemmas.List.{append_assoc, append-nil, take_all}
use Rattle.std.specs.Prelude.{Option, slice_range}
use Rattle.std.specs.Str.{IsUtf8}
use Rattle.sonic_lazy.proofs.ScalarLemmas.{scalar_means}
use Rattle.sonic_find.proofs.Utf8Lemmas.{utf8_of_span}
use Rattle.sonic_lazy.specs.Items.{Item, AreItems, no_items, one_more_item}
use Rattle.sonic_lazy.specs.Scalars.{container, scalar_of}
use Rattle.sonic_owned.proofs.MeantPathLemmas.{BothMean, neither, item_means, child_none}
use Rattle.sonic_owned.proofs.OpeningLemmas.{closed_one, all_members}
use Rattle.sonic_owned.specs.Forms.{Form, raw, level, Members, IsLabel, IsSound, raw_sound, level_sound, AreSound, none_sound, item_sound, FormMeans, raw_means, level_means}
use Rattle.sonic_owned.specs.Leading.{item_in}
use Rattle.sonic_owned.specs.Opened.{raw_members, AreAllMembers, IsOpened, as_it_was, level_opened}
use Rattle.sonic_text.proofs.StringTexts.{string_utf8}
use Rattle.sonic_text.proofs.ValueParts.{value_of_part}
use Rattle.sonic_text.proofs.Within.{value_within}
use Rattle.sonic_text.specs.Paths.{Node}
use Rattle.sonic_text.specs.Strings.{strict}
use Rattle.sonic_text.specs.TreePaths.{child}
use Rattle.sonic_text.specs.Trees.{Tree, container as a_container, Items, Means}
use Rattle.sonic_text.specs.Values.{ItemHead, no_head, key_head, IsValue}
use Rattle.sonic_text.specs.declared.kind.Kind.{Kind}

-- a container has one list of all its items
members_one : {b c : List ℕ} {kind other : Kind} {ms ns : Members} → b ≡ c → kind ≡ other → AreAllMembers b kind ms → AreAllMembers c other ns → ms ≡ ns
members_one {b} {kind = kind} {ns = ns} e k x y =
    let own : AreAllMembers b kind ns = rw (e, k) y in
    x.shown ∙ rw (closed_one x.are x.closed own.are own.closed) (sym own.shown)

-- a form is opened to one
pub opened_one : {f g h : Form} → IsOpened f g → IsOpened f h → g ≡ h
opened_one (as_it_was shut e) (as_it_was closed d) = e ∙ sym d
opened_one (as_it_was shut e) (level_opened {kind} d k all is) = absurd (shut (rw d (kind, k)))
opened_one (level_opened {kind} e k all is) (as_it_was shut d) = absurd (shut (rw e (kind, k)))
opened_one (level_opened {b} {kind} e k x is) (level_opened {b = c} {kind = other} d j y are) =
    let text : b ≡ c = cc in
    let same : kind ≡ other = cc in
    rw (is, are, same, members_one text same x y) refl

-- one that means a container to the level of all its items
pub level_some : {f : Form} {kind : Kind} {xs : Items} → FormMeans f (a_container kind xs) → (ms : Members) × IsOpened f (level kind ms)
level_some (level_means {ms = ms} xs) = (ms, as_it_was (λ c. c) refl)
level_some (raw_means x) = let (ms, all) = all_members x in (ms, level_opened refl (scalar_means refl x) all refl)

-- and one that means another value stays as it is
other_stays : {b : List ℕ} (v : Tree) → Means b 0 (length b) v → (g : Form) × IsOpened (raw b) g
other_stays (a_container kind xs) x = let (ms, o) = level_some (raw_means x) in (level kind ms, o)
other_stays v x = let s = scalar_means refl x in (_, as_it_was (λ c. let e = c.1 in absurd cc) refl)

pub opened_some : {f : Form} {v : Tree} → FormMeans f v → (g : Form) × IsOpened f g
opened_some (level_means xs) = (_, as_it_was (λ c. c) refl)
opened_some (raw_means {v = v} x) = other_stays v x

-- what is opened is no container that isn't
never_shut : {f : Form} {b : List ℕ} {kind : Kind} → IsOpened f (raw b) → scalar_of b ≡ container kind → ⊥
never_shut {kind = kind} (as_it_was shut e) k = shut (rw (sym e) (kind, k))
never_shut (level_opened e j all is) k = absurd cc

-- so a node names an item of it that means the one that it names in the tree, or none in either
pub opened_item : {f o : Form} {v : Tree} (node : Node) → IsOpened f o → FormMeans o v → BothMean (item_in node o) (child node v)
opened_item node o (level_means {kind} xs) = item_means node kind xs
opened_item node o (raw_means {b} {v} x) = neither refl (child_none node v (λ xs e. never_shut o (scalar_means refl (rw e at x))))

-- the keys of items in UTF-8 text are UTF-8
label_sound : {t : List ℕ} {kind : Kind} {h v : ℕ} {l : Option (List ℕ)} → IsUtf8 t → ItemHead strict t kind h v l → IsLabel kind l
label_sound utf8 (no_head e) = refl
label_sound utf8 (key_head y) = (_, refl, string_utf8 utf8 y.string)

-- and each value is sound in its own text
pub span_sound : {t : List ℕ} {i j : ℕ} → IsUtf8 t → IsValue strict t i j → IsSound (raw (slice_range t i j))
span_sound {t} utf8 x =
    let within = value_within x in
    raw_sound (value_of_part x within) (utf8_of_span (length t) (rw (take_all (length t) t (omega arith)) utf8) x within within)

-- so the items are
items_sound : {t : List ℕ} {kind : Kind} {n : ℕ} {xs : List Item} (ys : List Item) → IsUtf8 t → AreItems t kind n xs → AreSound kind (raw_members t ys)
    → AreSound kind (raw_members t (xs ++ ys))
items_sound ys utf8 (no_items z is) sound = rw is sound
items_sound ys utf8 (one_more_item {before = before} {item = x} are at z is) sound =
    rw (is, append_assoc before (x ∷ []) ys) (items_sound (x ∷ ys) utf8 are (item_sound (label_sound utf8 at.head) (span_sound utf8 at.value) sound))

all_sound : {t : List ℕ} {kind : Kind} {ms : Members} → IsSound (raw t) → AreAllMembers t kind ms → IsSound (level kind ms)
all_sound (raw_sound x utf8) all = rw all.shown (level_sound (rw (append-nil all.items) at (items_sound [] utf8 all.are none_sound)))

-- a sound form is sound with its first level opened
pub opened_sound : {f g : Form} → IsOpened f g → IsSound f → IsSound g
opened_sound (as_it_was shut e) s = rw e s
opened_sound (level_opened {b} e k all is) s =
    let own : IsSound (raw b) = rw e at s in
    rw is (all_sound own all)
