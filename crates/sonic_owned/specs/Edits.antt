-- What edits make of a form.
use Rattle.std.specs.Prelude.{◌≡◌, ◌+◌, ℕ, zero, suc, nat_eq, if◌then◌else◌, List, [], ◌∷◌, Option, Some, None, option_map, codes, ⊤}
use Rattle.std.specs.Cmp.Lexicographic.{pointwise}
use Rattle.std.specs.List.{All}
use Rattle.std.specs.Str.{IsUtf8}
use Rattle.sonic_owned.specs.Forms.{Form, raw, level, Members, no_member, member, IsSound, FormMeans}
use Rattle.sonic_owned.specs.Opened.{IsOpened}
use Rattle.sonic_owned.specs.Puts.{IsPut}
use Rattle.sonic_owned.specs.TreeEdits.{Change, set, push, pair, take, insert, remove, Edit}
use Rattle.sonic_text.specs.Paths.{Node, key, index}
use Rattle.sonic_text.specs.Trees.{Tree}
use Rattle.sonic_text.specs.declared.kind.Kind.{Kind}
use Rattle.sonic_text.specs.declared.kind.Kind.TheVariants.{Array, Object}

-- the items of a level, and one more after them
abbrev pub append_member : Members → Option (List ℕ) → Form → Members
append_member no_member l f = member l f no_member
append_member (member k g ms) l f = member k g (append_member ms l f)

-- the items with one more before the one at a position, or after the last
abbrev pub insert_member : ℕ → Form → Members → Option Members
insert_member zero f ms = Some (member None f ms)
insert_member (suc n) f no_member = None
insert_member (suc n) f (member l g ms) = option_map (member l g) (insert_member n f ms)

-- the items without the one at a position, and without the first with a key
abbrev pub members_without_at : ℕ → Members → Option Members
members_without_at n no_member = None
members_without_at zero (member l f ms) = Some ms
members_without_at (suc n) (member l f ms) = option_map (member l f) (members_without_at n ms)

abbrev pub members_without_of : List ℕ → Members → Option Members
members_without_of k no_member = None
members_without_of k (member None f ms) = option_map (member None f) (members_without_of k ms)
members_without_of k (member (Some l) f ms) = if pointwise nat_eq l k then Some ms else option_map (member (Some l) f) (members_without_of k ms)

-- the items of a level of this kind without the one that a node names
abbrev pub members_without : Node → Kind → Members → Option Members
members_without (index n) Array ms = members_without_at n ms
members_without (index n) Object ms = None
members_without (key k) Array ms = None
members_without (key k) Object ms = members_without_of k ms

-- the change makes g of the form f: a form that isn't opened is opened before an item is appended, inserted or removed
pub data IsChange (f g : Form) : Change Form → Type 0 where
  is_set : {w : Form} → g ≡ w → IsChange f g (set w)
  is_pushed : {w : Form} {ms : Members} → IsOpened f (level Array ms) → g ≡ level Array (append_member ms None w) → IsChange f g (push w)
  is_paired : {k : List ℕ} {w : Form} {ms : Members} → IsOpened f (level Object ms) → g ≡ level Object (append_member ms (Some k) w) → IsChange f g (pair k w)
  is_taken : g ≡ raw (codes "null") → IsChange f g take
  is_inserted : {n : ℕ} {w : Form} {ms ns : Members} → IsOpened f (level Array ms) → insert_member n w ms ≡ Some ns → g ≡ level Array ns → IsChange f g (insert n w)
  is_removed : {node : Node} {kind : Kind} {ms ns : Members} → IsOpened f (level kind ms) → members_without node kind ms ≡ Some ns → g ≡ level kind ns
      → IsChange f g (remove node)

-- the edit makes h of the form f: what is changed is the part to which its path leads, and all else is as it was
pub record IsEdit (e : Edit Form) (f h : Form) : Type 0 where
  pub part : Form
  pub changed : Form
  pub change : IsChange part changed e.change
  pub put : IsPut e.path f part changed h

-- the edit makes nothing of the form
abbrev pub IsRefused : Edit Form → Form → Type 0
IsRefused e f = (h : Form) → ¬ IsEdit e f h

-- the edits in order make h of f
pub data AreEdits : List (Edit Form) → (f h : Form) → Type 0 where
  no_edit : {f h : Form} → h ≡ f → AreEdits [] f h
  one_more_edit : {e : Edit Form} {es : List (Edit Form)} {f g h : Form} → IsEdit e f g → AreEdits es g h → AreEdits (e ∷ es) f h

-- edit n, counted from 1, is the first that is refused
pub data IsFirstRefused : List (Edit Form) → Form → ℕ → Type 0 where
  refused_here : {e : Edit Form} {es : List (Edit Form)} {f : Form} {n : ℕ} → IsRefused e f → n ≡ 1 → IsFirstRefused (e ∷ es) f n
  refused_later : {e : Edit Form} {es : List (Edit Form)} {f g : Form} {n m : ℕ} → IsEdit e f g → IsFirstRefused es g m → n ≡ m + 1 → IsFirstRefused (e ∷ es) f n

-- what the change puts is sound
abbrev pub IsSoundChange : Change Form → Type 0
IsSoundChange (set w) = IsSound w
IsSoundChange (push w) = IsSound w
IsSoundChange (pair k w) = IsUtf8 k × IsSound w
IsSoundChange take = ⊤
IsSoundChange (insert n w) = IsSound w
IsSoundChange (remove node) = ⊤

-- what each edit of a list puts is sound
abbrev pub AreSoundEdits : List (Edit Form) → Type 0
AreSoundEdits es = All (λ (e : Edit Form). IsSoundChange e.change) es

-- the change of a form means the change of a tree: what it puts means what is put there
pub data ChangeMeans : Change Form → Change Tree → Type 0 where
  set_means : {w : Form} {v : Tree} → FormMeans w v → ChangeMeans (set w) (set v)
  push_means : {w : Form} {v : Tree} → FormMeans w v → ChangeMeans (push w) (push v)
  pair_means : {k : List ℕ} {w : Form} {v : Tree} → FormMeans w v → ChangeMeans (pair k w) (pair k v)
  take_means : ChangeMeans take take
  insert_means : {n : ℕ} {w : Form} {v : Tree} → FormMeans w v → ChangeMeans (insert n w) (insert n v)
  remove_means : {node : Node} → ChangeMeans (remove node) (remove node)

-- so with an edit, along the same path
pub record EditMeans (e : Edit Form) (d : Edit Tree) : Type 0 where
  pub path : d.path ≡ e.path
  pub change : ChangeMeans e.change d.change

-- and with the edits of a list, one by one
pub data EditsMean : List (Edit Form) → List (Edit Tree) → Type 0 where
  no_edit_means : EditsMean [] []
  edit_means : {e : Edit Form} {d : Edit Tree} {es : List (Edit Form)} {ds : List (Edit Tree)} → EditMeans e d → EditsMean es ds → EditsMean (e ∷ es) (d ∷ ds)
