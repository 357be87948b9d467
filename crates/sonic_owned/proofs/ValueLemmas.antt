-- The form of each value is sound, and means a tree.
use Rattle.std.proofs.Common.{◌≡◌, refl, subst, ℕ, ◌+◌, Bool, List, [], ◌∷◌, length, map, true, false, codes, arith}
use Rattle.std.proofs.lemmas.List.{append-nil}
use Rattle.std.specs.Str.{IsUtf8}
use Rattle.sonic_lazy.proofs.RawNumberLemmas.{whole_utf8}
use Rattle.sonic_lazy.proofs.WholeLemmas.{null_is_whole, whole_had, false_not_true}
use Rattle.sonic_lazy.specs.Wholes.{IsWholeValue}
use Rattle.sonic_owned.proofs.Folds.{elements_of, elements-roll, members_of, members-roll, node-roll, form-node, form-roll}
use Rattle.sonic_owned.specs.Internal.Bulks.{node_form}
use Rattle.sonic_owned.proofs.IntegerLemmas.{integer_number}
use Rattle.sonic_owned.specs.Forms.{Form, raw, level, Members, IsSound, raw_sound, level_sound, AreSound, none_sound, item_sound, text, FormMeans, raw_means, level_means, MembersMean, no_member_means, member_means, unnamed, named}
use Rattle.sonic_owned.specs.Integers.{value as integer}
use Rattle.sonic_owned.specs.Views.{form, elements, members}
use Rattle.sonic_owned.specs.declared.made.MadeText.{MadeText}
use Rattle.sonic_owned.specs.declared.value.LazyArray.{LazyArray}
use Rattle.sonic_owned.specs.declared.value.LazyObject.{LazyObject}
use Rattle.sonic_owned.specs.declared.value.Node.{Node, roll-Node, map-Node, ind-Node}
use Rattle.sonic_owned.specs.declared.value.Node.TheOpen.{Node-F}
use Rattle.sonic_owned.specs.declared.value.OwnedLazyValue.{OwnedLazyValue}
use Rattle.sonic_find.specs.Documents.{IsValidDocument}
use Rattle.sonic_owned.proofs.Utf8Lemmas.{quoted_utf8, text_utf8}
use Rattle.sonic_owned.proofs.TextLemmas.{text_means}
use Rattle.sonic_text.proofs.Places.{after_space_later}
use Rattle.sonic_text.proofs.Values.{value_starts}
use Rattle.sonic_text.proofs.Within.{after_space_within}
use Rattle.sonic_text.specs.Places.{byte, after_space}
use Rattle.sonic_text.specs.Values.{IsValue}
use Rattle.sonic_text.proofs.TreeLemmas.{tree_of, value_of}
use Rattle.sonic_text.proofs.WrittenLemmas.{string_stands}
use Rattle.sonic_text.specs.Quoting.{quoted}
use Rattle.sonic_text.specs.Strings.{strict, IsString}
use Rattle.sonic_text.specs.Trees.{Tree, container, Items, no_item, item}
use Rattle.sonic_text.specs.Values.IsValue.{true_literal, false_literal, number, string}
use Rattle.sonic_text.specs.declared.kind.Kind.{Kind}
use Rattle.sonic_text.specs.declared.kind.Kind.TheVariants.{Array, Object}

-- items of which each is sound
elements_sound : {S : Type 0} (value : S → OwnedLazyValue) → ((s : S) → IsSound (form (value s))) → (ys : List S) → AreSound Array (unnamed (elements_of (map value ys)))
elements_sound value each [] = none_sound
elements_sound value each (y ∷ ys) = item_sound refl (each y) (elements_sound value each ys)

members_sound : {S : Type 0} (value : S → OwnedLazyValue) → ((s : S) → IsSound (form (value s))) → (ys : List (MadeText × S))
    → AreSound Object (named (members_of (map (λ m. (m.0, value m.1)) ys)))
members_sound value each [] = none_sound
members_sound value each (y ∷ ys) = item_sound (y.0.text, refl, y.0.utf8) (each y.1) (members_sound value each ys)

-- a whole value
whole_sound : {b : List ℕ} {m : Bool} → IsWholeValue b m → IsSound (raw b)
whole_sound is = raw_sound is.value is.utf8

-- a text that is quoted
quoted_sound : (b : List ℕ) → IsUtf8 b → IsSound (raw (quoted b))
quoted_sound b utf8 =
    let end : 0 + length (quoted b) ≡ length (quoted b) = omega arith in
    let is : IsString strict (quoted b) 0 (length (quoted b)) b = rw (append-nil (quoted b), end) at (string_stands [] b []) in
    raw_sound (string is) (quoted_utf8 utf8)

-- the words
true_sound : IsSound (raw (codes "true"))
unfolding lib.Utf8.encode
true_sound = raw_sound (true_literal ((omega arith, λ k l. let e : 0 + k ≡ k = omega arith in rw e refl), refl)) (codes "true", (refl, refl))

false_sound : IsSound (raw (codes "false"))
unfolding lib.Utf8.encode
false_sound = raw_sound (false_literal ((omega arith, λ k l. let e : 0 + k ≡ k = omega arith in rw e refl), refl)) (codes "false", (refl, refl))

-- what a value is kept as is sound, where what is in it is
module _ {N A O V : Type 0} (node : N → Node) (array : A → LazyArray) (object : O → LazyObject) (value : V → OwnedLazyValue) where
  kept_sound : ((a : A) → AreSound Array (unnamed (elements (array a)))) → ((o : O) → AreSound Object (named (members (object o))))
      → (y : Node-F N A O V) → IsSound (node_form (roll-Node (map-Node N A O V Node LazyArray LazyObject OwnedLazyValue node array object value y)))
  unfolding Rattle.sonic_owned.specs.declared.value.Node.TheViews.roll-Node denote.Hole.Carrier.roll
  kept_sound arrays objects Node-F.Null = rw (node-roll Node-F.Null) (whole_sound null_is_whole)
  kept_sound arrays objects (Node-F.Bool true) = rw (node-roll (Node-F.Bool true)) true_sound
  kept_sound arrays objects (Node-F.Bool false) = rw (node-roll (Node-F.Bool false)) false_sound
  kept_sound arrays objects (Node-F.Integer z) =
      let n = integer_number (integer z.kept) z.short in
      rw (node-roll (Node-F.Integer z)) (raw_sound (number n) (whole_utf8 n refl))
  kept_sound arrays objects (Node-F.Text t) = rw (node-roll (Node-F.Text t)) (quoted_sound t.text t.utf8)
  kept_sound arrays objects (Node-F.Raw r) = rw (node-roll (Node-F.Raw r)) (whole_sound (whole_had r.text r.has_escaped r.whole))
  kept_sound arrays objects (Node-F.Array a) = rw (node-roll (Node-F.Array (array a))) (level_sound (arrays a))
  kept_sound arrays objects (Node-F.Object o) = rw (node-roll (Node-F.Object (object o))) (level_sound (objects o))

node_sound : (n : Node) → IsSound (node_form n)
node_sound = ind-Node (λ n. IsSound (node_form n)) (λ a. AreSound Array (unnamed (elements a))) (λ o. AreSound Object (named (members o))) (λ v. IsSound (form v))
    (λ x y is. subst (λ z. IsSound (node_form (roll-Node z))) is (kept_sound (λ e. e.0) (λ e. e.0) (λ e. e.0) (λ e. e.0) (λ a. a.1) (λ o. o.1) y))
    (λ x y is. rw elements-roll (subst (λ z. AreSound Array (unnamed (elements_of z.elements.items))) is (elements_sound (λ e. e.0) (λ e. e.1) y.elements.items)))
    (λ x y is. rw members-roll (subst (λ z. AreSound Object (named (members_of z.members.items))) is (members_sound (λ e. e.0) (λ e. e.1) y.members.items)))
    (λ x y is. rw form-roll (subst (λ z. IsSound (node_form z.node)) is y.node.1))

pub value_sound : (v : OwnedLazyValue) → IsSound (form v)
value_sound v = rw (form-node v) (node_sound v.node)

mutual
  -- a sound form means a tree
  pub sound_means : {f : Form} → IsSound f → (x : Tree) × FormMeans f x
  sound_means (raw_sound value utf8) = let x = tree_of value in (x.0, raw_means x.1)
  sound_means (level_sound {kind} ms) = let xs = sound_mean ms in (container kind xs.0, level_means xs.1)

  sound_mean : {kind : Kind} {ms : Members} → AreSound kind ms → (xs : Items) × MembersMean ms xs
  sound_mean none_sound = (no_item, no_member_means)
  sound_mean (item_sound {l} label f ms) = let x = sound_means f in let xs = sound_mean ms in (item l x.0 xs.0, member_means x.1 xs.1)

-- and its text is one value, which isn't opened and means the same
text_value : {f : Form} → IsSound f → IsValue strict (text f) 0 (length (text f))
text_value is = value_of (text_means is (sound_means is).1)

pub closed_sound : {f : Form} → IsSound f → IsSound (raw (text f))
closed_sound is = raw_sound (text_value is) (text_utf8 is)

pub closed_means : {f : Form} → IsSound f → (x : Tree) → FormMeans f x → FormMeans (raw (text f)) x
closed_means is x means = raw_means (text_means is means)

-- and of a level no string
no_quote : (kind : Kind) (ms : Members) → byte (text (level kind ms)) 0 ≡ 34 → ⊥
no_quote Array ms e = omega (arith, e)
no_quote Object ms e = omega (arith, e)

pub level_whole : {f : Form} {kind : Kind} {ms : Members} → f ≡ level kind ms → IsSound f → IsWholeValue (text f) false
level_whole {f} {kind} {ms} shape is = record {
  value = text_value is;
  utf8 = text_utf8 is;
  escapes = (λ e. absurd (false_not_true e), λ escaped. absurd (no_quote kind ms (rw shape at escaped.0)));
}

-- and so a valid document
pub sound_valid : {f : Form} → IsSound f → IsValidDocument (text f)
sound_valid {f} is =
    let t = text f in
    let value : IsValue strict t 0 (length t) = text_value is in
    let start : after_space t 0 ≡ 0 = value_starts value in
    let end : after_space t (length t) ≡ length t = omega (arith, after_space_later t (length t), after_space_within t (length t) (omega arith)) in
    record { alone = record { end = length t; root = rw start value; place = end }; utf8 = text_utf8 is }
