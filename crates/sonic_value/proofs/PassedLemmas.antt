-- What is kept of a schema while it is filled from a text, one member of an object after the other.
use Rattle.std.proofs.Common.{◌≡◌, ◌≢◌, ◌∙◌, ap, refl, sym, arith, ℕ, ◌+◌, ◌-◌, ◌<◌, List, Option, Some, None, Bool, true, false, length, option_map, subst}
use Rattle.sonic_parser.specs.Containers.{IsEnd, IsSeparated, IsSeparatorFault}
use Rattle.sonic_text.proofs.Items.{key-longer}
use Rattle.sonic_text.proofs.Places.{after_space_later}
use Rattle.sonic_text.proofs.TreeLemmas.{tree_of}
use Rattle.sonic_text.proofs.Values.{value-longer}
use Rattle.sonic_text.proofs.Within.{value_within, items_within}
use Rattle.sonic_text.specs.Faults.{IsFault, IsKeyFault}
use Rattle.sonic_text.specs.Places.{byte, after_space}
use Rattle.sonic_text.specs.Strings.{strict}
use Rattle.sonic_text.specs.Trees.{Tree, container, Items}
use Rattle.sonic_text.specs.Trees.Items.{no_item, item}
use Rattle.sonic_text.specs.Values.{closing, ItemHead, key_head, IsKey, IsValue, first_item, next_item}
use Rattle.sonic_text.specs.Values.IsValue.{empty as an_empty, filled as a_filled}
use Rattle.sonic_text.specs.declared.kind.Kind.TheVariants.{Object}
use Rattle.sonic_text.specs.declared.stop.Stop.{Stop}
use Rattle.sonic_value.proofs.FillerLemmas.{replaced_unread, first_filled, empty_filled, next_filled, end_filled, key_stops, member_stops, separator_stops}
use Rattle.sonic_value.proofs.FillingLemmas.{replaced_fill, none_with, change_same}
use Rattle.sonic_value.proofs.KeepingLemmas.{kept_has, kept_last, kept_change, kept_members, kept_object}
use Rattle.sonic_value.proofs.ReaderLemmas.{value_read}
use Rattle.sonic_value.proofs.SchemaLemmas.{replaced_shallow}
use Rattle.sonic_value.specs.Internal.Fillers.{IsMemberFilled, IsMemberStopped, member_too_deep, member_fault, IsUnfillable, is_too_deep, has_fault, IsFillRead, IsFillStopped, IsObjectRead, IsObjectStopped, IsMemberRead, IsMemberUnread, AreMembersRead, IsObjectPassed}
use Rattle.sonic_value.specs.Filling.{has_key, last_of, change_last, fill}
use Rattle.sonic_value.specs.Internal.Keeping.{kept_text, kept_label, kept, kept_items}
use Rattle.sonic_value.specs.Internal.Readers.{Source, IsHeadRead, IsValueRead, IsUnreadValue}
use Rattle.sonic_value.specs.Schemas.{HasMembers, IsReplaced, IsShallowIn, IsFilledBy}

-- a schema has members where something is kept of some
own_members : (u : Bool) (ws : Items) → HasMembers (container Object (kept_items u ws)) → HasMembers (container Object ws)
own_members u no_item has = absurd has
own_members u (item l x xs) has = tt

pub lacks_members : (u : Bool) (w : Tree) {x : Tree} → ¬ HasMembers x → x ≡ kept u w → ¬ HasMembers w
lacks_members u w none e has = none (subst HasMembers (sym e) (kept_members u w has))

some_kept : (u : Bool) (o : Option Tree) (x : Tree) → option_map (kept u) o ≡ Some x → (w : Tree) × (o ≡ Some w) × (x ≡ kept u w)
some_kept u None x e = absurd cc
some_kept u (Some w) x e = (w, refl, cc)

same_last : (b : List ℕ) (ws : Items) {w u : Tree} → last_of b ws ≡ Some w → last_of b ws ≡ Some u → u ≡ w
same_last b ws x y = let e = sym x ∙ y in cc

-- from a text, of whose values that take another's place so many containers may be open
module _ (s : Source) (n : ℕ) where
  -- the key that was passed
  key_by : {h v : ℕ} {c : List ℕ} {l : Option (List ℕ)} → ItemHead strict s.text Object h v l → Some c ≡ kept_label s.is_utf8 l
      → (b : List ℕ) × IsKey strict s.text h v b × (c ≡ kept_text s.is_utf8 b)
  key_by (key_head y) e = (_, y, cc)

  head_key : {h v : ℕ} {c : List ℕ} → IsHeadRead s Object h v (Some c) → (b : List ℕ) × IsKey strict s.text h v b × (c ≡ kept_text s.is_utf8 b)
  head_key x = key_by x.head x.is

  -- a value takes the place of what it replaces
  pub replaced_read : {i j : ℕ} {x y : Tree} → IsValueRead s n i j y → ((w : Tree) → x ≡ kept s.is_utf8 w → IsReplaced s.text w i) → IsFillRead s n x y i j
  replaced_read read replaced = record {
    value = value_read read;
    fills = λ w e.
        let r = replaced w e in (
          read.kept.meant,
          read.kept.is,
          record {
            data_tree = read.kept.meant;
            means = read.kept.means;
            filled = sym (replaced_fill r read.kept.means);
            shallow = replaced_shallow r read.shallow;
          },
        );
  }

  pub replaced_stopped : {i : ℕ} {x : Tree} (stop : Stop) → IsUnreadValue s.text n i stop → ((w : Tree) → x ≡ kept s.is_utf8 w → IsReplaced s.text w i)
      → IsFillStopped s n x i stop
  replaced_stopped stop f replaced = λ w e. replaced_unread stop f (replaced w e)

  -- an object is filled by its members
  pub object_read : {i j : ℕ} {xs ys : Items} → IsObjectRead s n xs ys i j → IsFillRead s n (container Object xs) (container Object ys) i j
  object_read {i} {j} {xs} read = record {
    value = read.value;
    fills = λ w e.
        let o = kept_object s.is_utf8 w xs e in
        let f = read.fills o.0 o.2 in
        (container Object f.0, ap (container Object) f.1, subst (λ t. IsFilledBy s.text n t (container Object f.0) i j) (sym o.1) f.2);
  }

  pub object_stopped : {i : ℕ} {xs : Items} (stop : Stop) → IsObjectStopped s n xs i stop → IsFillStopped s n (container Object xs) i stop
  object_stopped {i} {xs} stop f = λ w e.
      let o = kept_object s.is_utf8 w xs e in
      subst (λ t. IsUnfillable s.text n t i stop) (sym o.1) (f o.0 o.2)

  -- a key that no member of the schema has
  none_has : {c : List ℕ} {xs : Items} (b : List ℕ) (ws : Items) → has_key c xs ≡ false → c ≡ kept_text s.is_utf8 b → xs ≡ kept_items s.is_utf8 ws
      → (last_of b ws ≡ None) × ((c : Tree → Tree) → change_last b c ws ≡ ws)
  none_has b ws none c_is xs_is = none_with b ws (sym (kept_has s.is_utf8 b ws) ∙ rw (c_is, xs_is) at none)

  -- a member that fills none is skipped
  pub member_skipped : {v e : ℕ} {c : List ℕ} {xs : Items} → has_key c xs ≡ false → IsValue strict s.text v e → IsMemberRead s n c xs xs v e
  member_skipped none value = record {
    value = value;
    fills = λ b ws c_is xs_is.
        let without = none_has b ws none c_is xs_is in
        let x = tree_of value in (
          ws,
          xs_is,
          record {
            data_tree = x.0;
            means = x.1;
            filled = sym (without.1 (λ w. fill w x.0));
            shallow = λ u e. absurd (let clash = sym without.0 ∙ e in cc);
          },
        );
  }

  pub member_unskipped : {v : ℕ} {c : List ℕ} {xs : Items} (stop : Stop) → has_key c xs ≡ false → IsFault strict s.text v stop → IsMemberUnread s n c xs v stop
  member_unskipped stop none f = λ b ws c_is xs_is.
      member_fault (λ u e. absurd (let clash = sym (none_has b ws none c_is xs_is).0 ∙ e in cc)) f

  -- the schema that it fills else
  filled_last : (c : List ℕ) (xs : Items) (x : Tree) → last_of c xs ≡ Some x → (b : List ℕ) (ws : Items) → c ≡ kept_text s.is_utf8 b → xs ≡ kept_items s.is_utf8 ws
      → (w : Tree) × (last_of b ws ≡ Some w) × (x ≡ kept s.is_utf8 w)
  filled_last c xs x last b ws c_is xs_is = some_kept s.is_utf8 (last_of b ws) x (sym (kept_last s.is_utf8 b ws) ∙ rw (c_is, xs_is) at last)

  member_by : {v e : ℕ} {w z : Tree} (b : List ℕ) (ws : Items) → last_of b ws ≡ Some w → IsFilledBy s.text n w z v e
      → IsMemberFilled s.text n b v e ws (change_last b (λ u. z) ws)
  member_by {v} {z = z} b ws last by = record {
    data_tree = by.data_tree;
    means = by.means;
    filled = change_same b (λ u. z) (λ u. fill u by.data_tree) ws (λ u e. by.filled ∙ ap (λ t. fill t by.data_tree) (sym (same_last b ws last e)));
    shallow = λ u e. subst (λ t. IsShallowIn s.text n t v) (sym (same_last b ws last e)) by.shallow;
  }

  pub member_read : {v e : ℕ} {x y : Tree} (c : List ℕ) (xs : Items) {ys : Items} → last_of c xs ≡ Some x → IsFillRead s n x y v e
      → ys ≡ change_last c (λ w. y) xs → IsMemberRead s n c xs ys v e
  member_read {x = x} {y} c xs last read changed = record {
    value = read.value;
    fills = λ b ws c_is xs_is.
        let own = filled_last c xs x last b ws c_is xs_is in
        let f = read.fills own.0 own.2 in
        let kept = kept_change s.is_utf8 b (λ w. f.0) (λ w. y) ws (λ w e. f.1) in
        (change_last b (λ w. f.0) ws, rw (c_is, xs_is) at changed ∙ kept, member_by b ws own.1 f.2);
  }

  stopped_by : {v : ℕ} {w : Tree} {stop : Stop} (b : List ℕ) (ws : Items) → last_of b ws ≡ Some w → IsUnfillable s.text n w v stop
      → IsMemberStopped s.text n b v ws stop
  stopped_by b ws is (is_too_deep d e) = member_too_deep is d e
  stopped_by {v} b ws is (has_fault shallow g) = member_fault (λ u e. subst (λ t. IsShallowIn s.text n t v) (sym (same_last b ws is e)) shallow) g

  pub member_unread : {v : ℕ} {x : Tree} (c : List ℕ) (xs : Items) (stop : Stop) → last_of c xs ≡ Some x → IsFillStopped s n x v stop
      → IsMemberUnread s n c xs v stop
  member_unread {x = x} c xs stop last f = λ b ws c_is xs_is.
      let own = filled_last c xs x last b ws c_is xs_is in
      stopped_by b ws own.1 (f own.0 own.2)

  module _ (xs : Items) (i : ℕ) (has : HasMembers (container Object xs)) where
    own_has : (ws : Items) → xs ≡ kept_items s.is_utf8 ws → HasMembers (container Object ws)
    own_has ws e = own_members s.is_utf8 ws (rw e at has)

    -- the object begins with a member that is expected, or ends
    pub object_starts : {h : ℕ} (more : Bool) → byte s.text i ≡ 123 → (more ≡ true → (h ≡ after_space s.text (i + 1)) × (byte s.text h ≢ closing Object))
        → (more ≡ false → IsEnd s.text Object (i + 1) h) → IsObjectPassed s n xs i h xs more
    object_starts true b first close =
        let x = first refl in
        let fit = first_item b x.0 x.1 refl in
        record { count = 0; fit = fit; fills = λ ws e. (ws, e, first_filled (own_has ws e) fit) }
    object_starts false b first close =
        let end = close refl in
        record { value = an_empty Object b end.0 end.1; fills = λ ws e. (ws, e, empty_filled (own_has ws e) b end) }

    module _ {h : ℕ} {ys : Items} (read : AreMembersRead s n xs i h ys) where
      -- a key that isn't there stops it
      pub key_stopped : (stop : Stop) → IsKeyFault strict s.text h stop → IsObjectStopped s n xs i stop
      key_stopped stop f = λ ws e. let a = read.fills ws e in key_stops stop (own_has ws e) a.2 f

      module _ {v : ℕ} {c : List ℕ} (head : IsHeadRead s Object h v (Some c)) where
        -- and so does a member that stops
        pub member_stopped : (stop : Stop) → IsMemberUnread s n c ys v stop → IsObjectStopped s n xs i stop
        member_stopped stop f = λ ws e.
            let y = head_key head in
            let a = read.fills ws e in
            member_stops (own_has ws e) a.2 y.1 stop (f y.0 a.0 y.2 a.1)

        module _ {e : ℕ} {zs : Items} (member : IsMemberRead s n c ys zs v e) where
          -- or what follows it
          pub separator_stopped : {stop : Stop} → IsSeparatorFault s.text Object e stop → IsObjectStopped s n xs i stop
          separator_stopped f = λ ws is.
              let y = head_key head in
              let a = read.fills ws is in
              let m = member.fills y.0 a.0 y.2 a.1 in
              separator_stops (own_has ws is) a.2 y.1 m.2 f

          -- else another member is expected, or the object ends
          pub object_goes_on : {g : ℕ} (more : Bool) → (more ≡ true → IsSeparated s.text e g) → (more ≡ false → IsEnd s.text Object e g)
              → IsObjectPassed s n xs i g zs more
          object_goes_on true comma close =
              let y = head_key head in
              let c = comma refl in
              record {
                count = read.count + 1;
                fit = next_item read.fit (key_head y.1) member.value c.0 c.1 refl;
                fills = λ ws is.
                    let a = read.fills ws is in
                    let m = member.fills y.0 a.0 y.2 a.1 in
                    (m.0, m.1, next_filled (own_has ws is) a.2 y.1 m.2 c);
              }
          object_goes_on false comma close =
              let y = head_key head in
              let c = close refl in
              record {
                value = a_filled read.fit (key_head y.1) member.value c.0 c.1;
                fills = λ ws is.
                    let a = read.fills ws is in
                    let m = member.fills y.0 a.0 y.2 a.1 in
                    (m.0, m.1, end_filled (own_has ws is) a.2 y.1 m.2 c);
              }

          -- and less of the text is left
          pub less_to_fill : {g : ℕ} (more : Bool) → (more ≡ true → IsSeparated s.text e g) → (more ≡ false → IsEnd s.text Object e g)
              → length s.text - g < length s.text - h
          less_to_fill {g} true comma close =
              let y = head_key head in
              let c = comma refl in
              let within = items_within (next_item read.fit (key_head y.1) member.value c.0 c.1 refl) in
              omega (arith, within, c.1, after_space_later s.text e, after_space_later s.text (after_space s.text e + 1), key-longer y.1, value-longer member.value)
          less_to_fill {g} false comma close =
              let y = head_key head in
              let c = close refl in
              let within = value_within (a_filled read.fit (key_head y.1) member.value c.0 c.1) in
              omega (arith, within, c.1, after_space_later s.text e, key-longer y.1, value-longer member.value)
