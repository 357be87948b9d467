-- What holds of a value holds along a path, a node further.
use Rattle.std.proofs.Common.{◌≡◌, ◌∷◌, refl, ℕ, ◌-◌, ◌≤◌, ◌<◌, List, [], length, None, Err, arith}
use Rattle.std.proofs.lemmas.List.{drop_all}
use Rattle.sonic_owned.proofs.KeptTextLemmas.{opened_alike}
use Rattle.sonic_owned.proofs.LeadingLemmas.{goes_in, kind_nowhere, level_nowhere, scalar_nowhere}
use Rattle.sonic_owned.proofs.Lent.{found_by}
use Rattle.sonic_owned.proofs.ReachLemmas.{longer}
use Rattle.sonic_find.specs.Paths.{kind_of}
use Rattle.sonic_lazy.specs.Scalars.{container, scalar_of}
use Rattle.sonic_owned.specs.Forms.{Form, raw, level, Members, IsSound, raw_sound, level_sound}
use Rattle.sonic_owned.specs.Internal.Seen.{Nowhere}
use Rattle.sonic_owned.specs.Leading.{item_in}
use Rattle.sonic_owned.specs.Internal.Lends.{AtNode, HasItem, HasNoItem, lacks_item, other_kind, IfAtNode, IsLent, IsItemPut, IsLeft, Lending, last_nodes}
use Rattle.sonic_owned.specs.Opened.{IsClosedContainer, IsClosedOf, IsOpened, as_it_was, level_opened}
use Rattle.sonic_owned.specs.Puts.{put_in, IsPartOf, IsPut, put_here, put_on}
use Rattle.sonic_owned.specs.Reached.{IsOpenedOn, opened_here, opened_further, IsOpenedAlong, as_before, opened_below, LeadsNowhere}
use Rattle.sonic_owned.specs.declared.value.lend.Stop.{Stop}
use Rattle.sonic_owned.specs.declared.value.lend.Stop.TheVariants.{Nowhere as Lost, NoMemory, TooDeep}
use Rattle.sonic_pointer.specs.declared.node.PointerNode.{PointerNode}
use Rattle.sonic_text.proofs.Values.{value_starts}
use Rattle.sonic_text.specs.Paths.{Node, key, index}
use Rattle.sonic_text.specs.Places.{byte}
use Rattle.sonic_text.specs.Values.{opening}
use Rattle.sonic_text.specs.declared.kind.Kind.{Kind}
use Rattle.sonic_text.specs.declared.kind.Kind.TheVariants.{Array, Object}

-- no node is left
pub no_nodes : (path : List PointerNode) → last_nodes 0 path ≡ []
no_nodes path = let all : length path ≤ length path - 0 = omega arith in rw (drop_all (length path - 0) path all) refl

pub put_none : (path : List PointerNode) (f g : Form) → IsPut (last_nodes 0 path) f f g g
put_none path f g = rw (no_nodes path) put_here

-- a node further
pub put_further : {left : ℕ} {path : List PointerNode} {f i m g j h : Form} → AtNode left path (λ node. IsItemPut node f i j h) → IsPut
    (last_nodes (left - 1) path) i m g j
    → IsPut (last_nodes left path) f m g h
put_further at p = rw at.first (put_on at.holds.opened at.holds.item p at.holds.put)

part_further : {left : ℕ} {path : List PointerNode} {f i : Form} → AtNode left path (λ node. HasItem node f i) → (m : Form)
    → IsPartOf (last_nodes (left - 1) path) i m
    → IsPartOf (last_nodes left path) f m
part_further at m p = rw at.first (put_in at.node p.0 at.holds.level, put_on at.holds.opened at.holds.item p.1 refl)

-- a level is to be opened on the way of the last nodes, if the path has so many
abbrev OpensFor : ℕ → List PointerNode → Form → Type 0
OpensFor left path f = left ≤ length path → IsOpenedOn (last_nodes left path) f

-- the path leads nowhere where it leads nowhere from the item
lost_further : {left : ℕ} {path : List PointerNode} {f i : Form} → AtNode left path (λ node. HasItem node f i) → LeadsNowhere (last_nodes (left - 1) path) i
    → LeadsNowhere (last_nodes left path) f
lost_further at lost g l = lost g (goes_in at.holds.item ((opened_alike at.holds.opened).on g (rw at.first at l)))

-- and a level is to be opened where one is from the item on
opened_later : {left : ℕ} {path : List PointerNode} {f i : Form} → AtNode left path (λ node. HasItem node f i) → OpensFor (left - 1) path i
    → OpensFor left path f
opened_later at later fits = rw at.first (opened_further at.holds.opened at.holds.item (later (omega (arith, fits))))

-- what is said of the part along the nodes that are left
abbrev pub IsWalked : ℕ → List PointerNode → Form → Lending → Type 0
IsWalked left path f r = IsLent (IsPartOf (last_nodes left path) f) (LeadsNowhere (last_nodes left path) f) (OpensFor left path f) r

pub found_further : {left : ℕ} {path : List PointerNode} {f i : Form} (r : Lending) → AtNode left path (λ node. HasItem node f i)
    → IsWalked (left - 1) path i r → IsWalked left path f r
found_further r at = found_by r _ _ _ _ _ _ (part_further at) (lost_further at) (opened_later at)

-- a sound text that is no container has no item
no_bracket : (b : List ℕ) → ¬ IsClosedContainer (raw b) → (kind : Kind) → ¬ (byte b 0 ≡ opening kind)
no_bracket b shut Array e = shut (Array, rw e refl)
no_bracket b shut Object e = shut (Object, rw e refl)

open_nowhere : {node : Node} {f : Form} → IsSound f → ¬ IsClosedContainer f → item_in node f ≡ None → Nowhere node f
open_nowhere {node} (raw_sound {b} value u) shut none = scalar_nowhere node (λ kind e. no_bracket b shut kind (rw (value_starts value) at e))
open_nowhere {node} (level_sound s) shut none = level_nowhere node none (λ b e. absurd cc)

pub no_item_nowhere : {node : Node} {f o : Form} → IsSound f → IsOpened f o → item_in node o ≡ None → Nowhere node f
no_item_nowhere sound (as_it_was shut e) none = open_nowhere sound shut (rw e at none)
no_item_nowhere {node} sound (level_opened {kind = kind} {ms} e k all is) none = λ rest g l.
    level_nowhere node (rw is at none) (λ b e. absurd cc) rest g ((opened_alike (level_opened e k all refl)).on g l)

-- nor has a form of another kind
bracket_kind : (b : List ℕ) (kind : Kind) → byte b 0 ≡ opening kind → scalar_of b ≡ container kind
bracket_kind b Array e = rw e refl
bracket_kind b Object e = rw e refl

kinds_apart : (node : Node) (kind : Kind) (ms : Members) → ¬ (container kind ≡ container (kind_of node)) → item_in node (level kind ms) ≡ None
kinds_apart (key k) Array ms other = refl
kinds_apart (key k) Object ms other = absurd (other refl)
kinds_apart (index n) Array ms other = absurd (other refl)
kinds_apart (index n) Object ms other = refl

pub lost_nowhere : {node : Node} {f : Form} → IsSound f → HasNoItem node f → Nowhere node f
lost_nowhere sound (lacks_item opened none) = no_item_nowhere sound opened none
lost_nowhere {node} (raw_sound {b} value u) (other_kind other) =
    kind_nowhere node (λ e. other (bracket_kind b (kind_of node) (rw (value_starts value) at e)))
lost_nowhere {node} (level_sound {kind} {ms} s) (other_kind other) = level_nowhere node (kinds_apart node kind ms other) (λ b e. absurd cc)

-- where nothing is lent the path leads nowhere, or a level is to be opened, if it is said so
pub found_stop : (left : ℕ) (path : List PointerNode) {f : Form} (stop : Stop) (P : Form → Type 0) → IsSound f → 0 < left
    → IsLent P (AtNode left path (λ node. HasNoItem node f)) (IfAtNode left path (λ node. IsClosedOf (kind_of node) f)) (Err stop)
    → IsWalked left path f (Err stop)
found_stop left path Lost P sound some at = λ g l. lost_nowhere sound at.holds _ g (rw at.first at l)
found_stop left path {f} NoMemory P sound some opens = λ fits. let at = opens some fits in rw at.first (opened_here at.holds)
found_stop left path TooDeep P sound some at = at

-- where nothing is lent, only levels on the way of the last nodes are opened
pub left_along : (left : ℕ) (path : List PointerNode) (stop : Stop) (f h : Form) → IsLeft (AtNode left path (λ node. IsOpenedAlong (node ∷ []) f h)) (Err stop) f h
    → IsOpenedAlong (last_nodes left path) f h
left_along left path Lost f h at = rw at.first (longer {path = at.node ∷ []} (last_nodes (left - 1) path) at.holds)
left_along left path NoMemory f h e = as_before e
left_along left path TooDeep f h e = absurd e

-- and so it is where it is so of the item
pub along_further : {left : ℕ} {path : List PointerNode} {f i j h : Form} → AtNode left path (λ node. IsItemPut node f i j h)
    → IsOpenedAlong (last_nodes (left - 1) path) i j → IsOpenedAlong (last_nodes left path) f h
along_further at along = rw at.first (opened_below at.holds.opened at.holds.item along at.holds.put)
