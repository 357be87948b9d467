-- Copies that are being made.
use Rattle.std.proofs.Common.{◌≡◌, ◌∙◌, ap, sym, refl, arith, ℕ, ◌+◌, ◌<◌, List, [], ◌∷◌, ◌++◌, map, true, Some, None, Result, Ok, Err}
use Rattle.std.proofs.lemmas.List.{append-nil}
use Rattle.std.specs.List.{slice_get}
use Rattle.std.specs.Result.{is_ok, result_or}
use Rattle.std.specs.declared.alloc.Global.{Global}
use Rattle.std.specs.declared.vec.Vec.{Vec}
use Rattle.sonic_owned.proofs.Folds.{elements-out, elements-roll, members-out, members-roll, form-array, form-node, form-object, form-roll}
use Rattle.sonic_owned.specs.Forms.{Form, level, unnamed, named}
use Rattle.sonic_owned.specs.Internal.Bulks.{node_form}
use Rattle.sonic_owned.specs.Internal.Copies.{copied_form, copying_bulk, next_form, waiting_bulk, waiting_bulks, AreOpen}
use Rattle.sonic_owned.specs.Internal.Levels.{elements_of, members_of}
use Rattle.sonic_owned.specs.Views.{form, elements, members}
use Rattle.sonic_owned.specs.declared.made.MadeText.{MadeText}
use Rattle.sonic_owned.specs.declared.value.LazyArray.{LazyArray, out-LazyArray, roll-LazyArray}
use Rattle.sonic_owned.specs.declared.value.LazyObject.{LazyObject, out-LazyObject, roll-LazyObject}
use Rattle.sonic_owned.specs.declared.value.Node as node
use Rattle.sonic_owned.specs.declared.value.OwnedLazyValue.{OwnedLazyValue, roll-OwnedLazyValue}
use Rattle.sonic_owned.specs.declared.value.copy.Copying.{Copying}
use Rattle.sonic_owned.specs.declared.value.copy.Copying.TheVariants.{Whole, Array, Object}
use Rattle.sonic_text.specs.declared.kind.Kind.TheVariants as kind

-- memory for one more level was found
pub pushed : {T E D : Type 0} (r : Result T E) (e : D) (x : T) → result_or r (Err e) ≡ Ok x → is_ok r ≡ true
pushed (Ok y) e x ok = refl
pushed (Err z) e x ok = absurd cc

-- one more level is opened
pub open_more : (f g : Form) (us : List Copying) (u : Copying) → AreOpen f us (copied_form u) → next_form u ≡ Some g → AreOpen f (us ++ u ∷ []) g
open_more f g [] u same next = (sym same, (g, next, refl))
open_more f g (o ∷ us) u (same, (h, here, rest)) next = (same, (h, here, open_more h g us u rest next))

-- and is the one in hand again
pub open_less : (f g : Form) (us : List Copying) (u : Copying) → AreOpen f (us ++ u ∷ []) g → AreOpen f us (copied_form u) × (next_form u ≡ Some g)
open_less f g [] u a = (sym a.0, a.1.1 ∙ ap (λ x. Some x) a.1.2)
open_less f g (o ∷ us) u a = let more = open_less a.1.0 g us u a.1.2 in ((a.0, (a.1.0, a.1.1, more.0)), more.1)

-- what waits holds something more
pub waiting_more : (us : List Copying) (u : Copying) → waiting_bulks (us ++ u ∷ []) ≡ waiting_bulks us + waiting_bulk u
waiting_more [] u = omega arith
waiting_more (o ∷ us) u = omega (arith, waiting_more us u)

pub some_copying : (u : Copying) → 0 < copying_bulk u
some_copying (Whole v) = omega arith
some_copying (Array vs made) = omega arith
some_copying (Object ms made) = omega arith

-- a level none of whose items is left
none_left : {X : Type 0} (fs : List X) → slice_get fs 0 ≡ None → fs ≡ []
none_left [] none = refl
none_left (f ∷ fs) none = absurd cc

pub array_closed : (vs : List OwnedLazyValue) (made : Vec OwnedLazyValue Global) → slice_get (elements_of vs) 0 ≡ None
    → form (roll-OwnedLazyValue (record { node = node.Array (roll-LazyArray (record { elements = made })) })) ≡ level kind.Array (unnamed (elements_of made.items ++ elements_of vs))
array_closed vs made none =
    let end : elements_of made.items ≡ elements_of made.items ++ elements_of vs = rw (none_left (elements_of vs) none) (sym (append-nil (elements_of made.items))) in
    form-roll _ ∙ form-array _ ∙ ap (λ fs. level kind.Array (unnamed fs)) (elements-roll _ ∙ end)

pub object_closed : (ms : List (MadeText × OwnedLazyValue)) (made : Vec (MadeText × OwnedLazyValue) Global) → slice_get (map (λ (m : List ℕ × Form). m.1) (members_of ms)) 0 ≡ None
    → form (roll-OwnedLazyValue (record { node = node.Object (roll-LazyObject (record { members = made })) })) ≡ level kind.Object (named (members_of made.items ++ members_of ms))
object_closed [] made none = form-roll _ ∙ form-object _ ∙ ap (λ ms. level kind.Object (named ms)) (members-roll _ ∙ sym (append-nil (members_of made.items)))
object_closed (m ∷ ms) made none = absurd cc

-- a level none of whose items is copied yet
pub array_begun : (v : OwnedLazyValue) (a : LazyArray) (made vs : List OwnedLazyValue) → v.node ≡ node.Array a → made ≡ [] → vs ≡ (out-LazyArray a).elements.items
    → level kind.Array (unnamed (elements_of made ++ elements_of vs)) ≡ form v
array_begun v a made vs is none items =
    let all : elements_of made ++ elements_of vs ≡ elements a = rw (none, items) (sym (elements-out a)) in
    sym (form-node v ∙ ap node_form is ∙ form-array a ∙ ap (λ fs. level kind.Array (unnamed fs)) (sym all))

pub object_begun : (v : OwnedLazyValue) (o : LazyObject) (made ms : List (MadeText × OwnedLazyValue)) → v.node ≡ node.Object o → made ≡ [] → ms ≡ (out-LazyObject o).members.items
    → level kind.Object (named (members_of made ++ members_of ms)) ≡ form v
object_begun v o made ms is none items =
    let all : members_of made ++ members_of ms ≡ members o = rw (none, items) (sym (members-out o)) in
    sym (form-node v ∙ ap node_form is ∙ form-object o ∙ ap (λ ms. level kind.Object (named ms)) (sym all))
