-- What is decided for a form is what is decided for the tree that it means.
use Rattle.std.proofs.Common.{◌≡◌, ◌∙◌, sym, refl, ap, Bool, true, false, if◌then◌else◌, List, [], ◌∷◌, Option, Some, None, option_map, nat_eq}
use Rattle.std.proofs.lemmas.Option.{same_Some}
use Rattle.std.specs.Cmp.Lexicographic.{pointwise}
use Rattle.std.specs.Option.{option_and_then}
use Rattle.std.specs.Prelude.{codes}
use Rattle.std.specs.Str.{IsUtf8}
use Rattle.sonic_owned.proofs.EditLemmas.{edit_one, edit_makes, edit_some, edit_sound, refused_alike}
use Rattle.sonic_owned.proofs.MeaningLemmas.{form_means_one}
use Rattle.sonic_owned.specs.Edits.{IsEdit, IsSoundChange, EditMeans, set_means, push_means, pair_means, take_means, insert_means, remove_means}
use Rattle.sonic_owned.specs.Forms.{Form, IsSound, FormMeans}
use Rattle.sonic_owned.specs.TreeEdits.{Edit, edit_at, edit_tree, set, push, insert, remove}
use Rattle.sonic_patch.specs.Patches.{AreKeys, IsDecided, is_decided}
use Rattle.sonic_patch.specs.Patching.{below, at_last, into_object, into_array, into, out_of, addition, removal, replacement, edited}
use Rattle.sonic_patch.specs.Pointers.{Token}
use Rattle.sonic_patch.specs.Resolution.{index_of, node_in, path_in}
use Rattle.sonic_text.specs.Paths.{Node}
use Rattle.sonic_text.specs.TreePaths.{child, member_of}
use Rattle.sonic_text.specs.Trees.{Tree, container}
use Rattle.sonic_text.specs.declared.kind.Kind.TheVariants.{Array, Object}
use Rattle.std.proofs.lemmas.List.Elements.{All-head, All-tail}

-- an edit of a form is decided where one of a tree is, which it means
pub data AreAlike : Option (Edit Form) → Option (Edit Tree) → Type 0 where
  both_decided : {e : Edit Form} {d : Edit Tree} → EditMeans e d → AreAlike (Some e) (Some d)
  none_decided : AreAlike None None

-- so it is with what follows from something that both have, and with one of two
then_alike : {X : Type 0} (o : Option X) {f : X → Option (Edit Form)} {g : X → Option (Edit Tree)} → ((x : X) → AreAlike (f x) (g x))
    → AreAlike (option_and_then f o) (option_and_then g o)
then_alike None h = none_decided
then_alike (Some x) h = h x

mapped_alike : {X : Type 0} (o : Option X) {f : X → Edit Form} {g : X → Edit Tree} → ((x : X) → EditMeans (f x) (g x))
    → AreAlike (option_map f o) (option_map g o)
mapped_alike None h = none_decided
mapped_alike (Some x) h = both_decided (h x)

chosen_alike : (b : Bool) {o p : Option (Edit Form)} {q r : Option (Edit Tree)} → AreAlike o q → AreAlike p r → AreAlike (if b then o else p) (if b then q else r)
chosen_alike true x y = x
chosen_alike false x y = y

below_alike : (node : Node) {o : Option (Edit Form)} {p : Option (Edit Tree)} → AreAlike o p → AreAlike (option_map (below node) o) (option_map (below node) p)
below_alike node (both_decided m) = both_decided (record { path = ap (λ p. node ∷ p) m.path; change = m.change })
below_alike node none_decided = none_decided

at_last_alike : {f : Tree → Token → Option (Edit Form)} {g : Tree → Token → Option (Edit Tree)} → ((v : Tree) (t : Token) → AreAlike (f v t) (g v t))
    → (ts : List Token) (v : Tree) → AreAlike (at_last f ts v) (at_last g ts v)
at_last_alike h [] v = none_decided
at_last_alike h (t ∷ []) v = h v t
at_last_alike h (t ∷ u ∷ us) v = then_alike (node_in v t) (λ node. then_alike (child node v) (λ x. below_alike node (at_last_alike h (u ∷ us) x)))

-- how a value comes into a container
object_alike : {w : Form} {x : Tree} → FormMeans w x → (o : Option Tree) (t : Token) → AreAlike (Some (into_object w o t)) (Some (into_object x o t))
object_alike m None t = both_decided (record { path = refl; change = pair_means m })
object_alike m (Some y) t = both_decided (record { path = refl; change = set_means m })

array_alike : {w : Form} {x : Tree} → FormMeans w x → (t : Token) → AreAlike (into_array w t) (into_array x t)
array_alike m t =
    let last : EditMeans (edit_at [] (push _)) (edit_at [] (push _)) = record { path = refl; change = push_means m } in
    chosen_alike (pointwise nat_eq t (codes "-")) (both_decided last) (mapped_alike (index_of t) (λ n. record { path = refl; change = insert_means m }))

into_alike : {w : Form} {x : Tree} → FormMeans w x → (v : Tree) (t : Token) → AreAlike (into w v t) (into x v t)
into_alike m (container Array xs) t = array_alike m t
into_alike m (container Object xs) t = object_alike m (member_of t xs) t
into_alike m v t = none_decided

-- so with each decision
pub addition_alike : (ts : List Token) {w : Form} {x : Tree} → FormMeans w x → (v : Tree) → AreAlike (addition ts w v) (addition ts x v)
addition_alike [] m v = both_decided (record { path = refl; change = set_means m })
addition_alike (t ∷ ts) m v = at_last_alike (into_alike m) (t ∷ ts) v

pub removal_alike : (ts : List Token) (v : Tree) → AreAlike (removal ts v) (removal ts v)
removal_alike [] v = both_decided (record { path = refl; change = take_means })
removal_alike (t ∷ ts) v = at_last_alike out_alike (t ∷ ts) v
  where
    remove_alike : (node : Node) → EditMeans (edit_at [] (remove node)) (edit_at [] (remove node))
    remove_alike node = record { path = refl; change = remove_means }

    out_alike : (u : Tree) (s : Token) → AreAlike (out_of u s) (out_of u s)
    out_alike u s = mapped_alike (node_in u s) remove_alike

pub replacement_alike : (ts : List Token) {w : Form} {x : Tree} → FormMeans w x → (v : Tree) → AreAlike (replacement ts w v) (replacement ts x v)
replacement_alike ts m v = mapped_alike (path_in ts v) (λ path. record { path = refl; change = set_means m })

-- an edit is sound, if one is decided
pub data IsSoundDecision : Option (Edit Form) → Type 0 where
  nothing_sound : IsSoundDecision None
  edit_is_sound : {e : Edit Form} → IsSoundChange e.change → IsSoundDecision (Some e)

then_sound : {X : Type 0} (o : Option X) {f : X → Option (Edit Form)} → ((x : X) → IsSoundDecision (f x)) → IsSoundDecision (option_and_then f o)
then_sound None h = nothing_sound
then_sound (Some x) h = h x

mapped_sound : {X : Type 0} (o : Option X) (f : X → Edit Form) → ((x : X) → IsSoundChange (f x).change) → IsSoundDecision (option_map f o)
mapped_sound None f h = nothing_sound
mapped_sound (Some x) f h = edit_is_sound (h x)

chosen_sound : (b : Bool) {o p : Option (Edit Form)} → IsSoundDecision o → IsSoundDecision p → IsSoundDecision (if b then o else p)
chosen_sound true x y = x
chosen_sound false x y = y

below_sound : (node : Node) {o : Option (Edit Form)} → IsSoundDecision o → IsSoundDecision (option_map (below node) o)
below_sound node nothing_sound = nothing_sound
below_sound node (edit_is_sound s) = edit_is_sound s

at_last_sound : {f : Tree → Token → Option (Edit Form)} → ((v : Tree) (t : Token) → IsUtf8 t → IsSoundDecision (f v t))
    → (ts : List Token) (v : Tree) → AreKeys ts → IsSoundDecision (at_last f ts v)
at_last_sound h [] v keys = nothing_sound
at_last_sound h (t ∷ []) v keys = h v t (All-head IsUtf8 t [] keys)
at_last_sound h (t ∷ u ∷ us) v keys =
    let rest : AreKeys (u ∷ us) = All-tail IsUtf8 t (u ∷ us) keys in
    then_sound (node_in v t) (λ node. then_sound (child node v) (λ x. below_sound node (at_last_sound h (u ∷ us) x rest)))

object_sound : {w : Form} (o : Option Tree) (t : Token) → IsUtf8 t → IsSound w → IsSoundDecision (Some (into_object w o t))
object_sound None t utf8 s = edit_is_sound (utf8, s)
object_sound (Some y) t utf8 s = edit_is_sound s

array_sound : {w : Form} (t : Token) → IsSound w → IsSoundDecision (into_array w t)
array_sound {w} t s = chosen_sound (pointwise nat_eq t (codes "-")) (edit_is_sound s) (mapped_sound (index_of t) (λ n. edit_at [] (insert n w)) (λ n. s))

into_sound : {w : Form} → IsSound w → (v : Tree) (t : Token) → IsUtf8 t → IsSoundDecision (into w v t)
into_sound s (container Array xs) t utf8 = array_sound t s
into_sound s (container Object xs) t utf8 = object_sound (member_of t xs) t utf8 s
into_sound s v t utf8 = nothing_sound

addition_sound : (ts : List Token) {w : Form} → AreKeys ts → IsSound w → (v : Tree) → IsSoundDecision (addition ts w v)
addition_sound [] keys s v = edit_is_sound s
addition_sound (t ∷ ts) keys s v = at_last_sound (into_sound s) (t ∷ ts) v keys

-- what is removed needs no key
out_sound : (v : Tree) (t : Token) → IsSoundDecision (out_of v t)
out_sound v t = mapped_sound (node_in v t) (λ node. edit_at [] (remove node)) (λ node. tt)

at_last_removes : (ts : List Token) (v : Tree) → IsSoundDecision (at_last out_of ts v)
at_last_removes [] v = nothing_sound
at_last_removes (t ∷ []) v = out_sound v t
at_last_removes (t ∷ u ∷ us) v = then_sound (node_in v t) (λ node. then_sound (child node v) (λ x. below_sound node (at_last_removes (u ∷ us) x)))

removal_sound : (ts : List Token) (v : Tree) → IsSoundDecision (removal ts v)
removal_sound [] v = edit_is_sound tt
removal_sound (t ∷ ts) v = at_last_removes (t ∷ ts) v

replacement_sound : (ts : List Token) {w : Form} → IsSound w → (v : Tree) → IsSoundDecision (replacement ts w v)
replacement_sound ts {w} s v = mapped_sound (path_in ts v) (λ path. edit_at path (set w)) (λ path. s)

sound_edit : {e : Edit Form} → IsSoundDecision (Some e) → IsSoundChange e.change
sound_edit (edit_is_sound s) = s

-- the form that is edited by a decision is one
pub decided_one : {decide : Tree → Option (Edit Form)} {f g h : Form} → IsDecided decide f g → IsDecided decide f h → g ≡ h
decided_one {decide} {f} {g} {h} (is_decided {v} {e} m i x) (is_decided {v = w} {e = d} n j y) =
    let trees : v ≡ w = form_means_one m n in
    let both : ◌≡◌ {A = Option (Edit Form)} (Some e) (Some d) = sym i ∙ ap decide trees ∙ j in
    let own : IsEdit e f h = rw (same_Some _ _ both) y in
    edit_one x own

decided_sound : {decide : Tree → Option (Edit Form)} {f h : Form} → ((v : Tree) → IsSoundDecision (decide v)) → IsDecided decide f h → IsSound f → IsSound h
decided_sound sound (is_decided {v} m i x) s = edit_sound x (sound_edit (rw i at (sound v))) s

-- an edit of a form and what is decided for its tree
pub edit_alike : {e : Edit Form} {o : Option (Edit Tree)} {f h : Form} {v : Tree} → AreAlike (Some e) o → FormMeans f v → IsEdit e f h
    → (w : Tree) × (option_and_then (λ d. edit_tree d v) o ≡ Some w) × FormMeans h w
edit_alike (both_decided same) means x = edit_makes same means x

pub none_alike : {o : Option (Edit Form)} {p : Option (Edit Tree)} {f : Form} {v : Tree} → AreAlike o p → FormMeans f v
    → ((e : Edit Form) (h : Form) → o ≡ Some e → ¬ IsEdit e f h) → option_and_then (λ d. edit_tree d v) p ≡ None
none_alike none_decided means none = refl
none_alike (both_decided same) means none = (refused_alike same means).0 (λ h x. none _ h refl x)

some_alike : {o : Option (Edit Form)} {p : Option (Edit Tree)} {f : Form} {v w : Tree} → AreAlike o p → FormMeans f v
    → option_and_then (λ d. edit_tree d v) p ≡ Some w → (e : Edit Form) × (h : Form) × (o ≡ Some e) × IsEdit e f h
some_alike none_decided means is = absurd cc
some_alike (both_decided same) means is = let (h, x) = edit_some same means is in (_, h, refl, x)

-- where both decide alike, the form means the edited tree
pub decided_makes : {decide : Tree → Option (Edit Form)} (other : Tree → Option (Edit Tree)) {f h : Form} {v : Tree} → AreAlike (decide v) (other v) → FormMeans f v
    → IsDecided decide f h → (w : Tree) × (edited other v ≡ Some w) × FormMeans h w
decided_makes {decide} other {v = v} alike means (is_decided {v = u} {e} m i x) =
    let is : decide v ≡ Some e = sym (ap decide (form_means_one m means)) ∙ i in
    let own : AreAlike (Some e) (other v) = rw is at alike in
    edit_alike own means x

-- and it is refused where that is
pub undecided : {decide : Tree → Option (Edit Form)} (other : Tree → Option (Edit Tree)) {f : Form} {v : Tree} → AreAlike (decide v) (other v) → FormMeans f v
    → ((h : Form) → ¬ IsDecided decide f h) → edited other v ≡ None
undecided other alike means none = none_alike alike means (λ e h is x. none h (is_decided means is x))

pub decided_some : {decide : Tree → Option (Edit Form)} (other : Tree → Option (Edit Tree)) {f : Form} {v w : Tree} → AreAlike (decide v) (other v) → FormMeans f v
    → edited other v ≡ Some w → (h : Form) × IsDecided decide f h
decided_some other alike means is = let (e, h, decided, x) = some_alike alike means is in (h, is_decided means decided x)

-- what is added, removed or replaced leaves a sound form sound
pub added_sound : (ts : List Token) {w f h : Form} → AreKeys ts → IsSound w → IsDecided (addition ts w) f h → IsSound f → IsSound h
added_sound ts keys s = decided_sound (addition_sound ts keys s)

pub removed_sound : (ts : List Token) {f h : Form} → IsDecided (removal ts) f h → IsSound f → IsSound h
removed_sound ts = decided_sound (removal_sound ts)

pub replaced_sound : (ts : List Token) {w f h : Form} → IsSound w → IsDecided (replacement ts w) f h → IsSound f → IsSound h
replaced_sound ts s = decided_sound (replacement_sound ts s)
