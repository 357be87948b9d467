-- What comes of a schema some of whose objects are open, when a member of the data is passed.
use Rattle.std.proofs.Common.{◌≡◌, ◌∙◌, ap, refl, sym, arith, ℕ, ◌≤◌, List, [], ◌∷◌, ◌++◌, Some, true, false, length, set, get_or}
use Rattle.std.proofs.lemmas.List.{length-append}
use Rattle.std.specs.Prelude.{Bool}
use Rattle.std.specs.declared.alloc.Global.{Global}
use Rattle.std.specs.declared.string.String.{String}
use Rattle.sonic_parser.specs.Containers.{IsEnd, IsSeparated, IsSeparatorFault}
use Rattle.sonic_text.proofs.Within.{items_within}
use Rattle.sonic_text.specs.Faults.{IsFault, IsKeyFault}
use Rattle.sonic_text.specs.Strings.{strict}
use Rattle.sonic_text.specs.Trees.{Tree, container, Items}
use Rattle.sonic_text.specs.Values.{IsValue}
use Rattle.sonic_text.specs.declared.kind.Kind.TheVariants.{Object}
use Rattle.sonic_text.specs.declared.stop.Stop.{Stop}
use Rattle.sonic_value.proofs.FillingLemmas.{taken_value, put_changed}
use Rattle.sonic_value.proofs.PassedLemmas.{lacks_members, object_read, object_stopped, key_stopped, member_stopped, member_skipped, member_unskipped, member_read, member_unread, separator_stopped, object_goes_on}
use Rattle.sonic_value.specs.Filling.{change_last, has_key}
use Rattle.sonic_value.specs.Internal.Fillers.{items_of, IsFillRead, IsFillStopped, IsLastWith, IsObjectStopped}
use Rattle.sonic_value.specs.Internal.OpenSchemas.{IsMemberTaken, IsFillable, IsFillingBegun, IsFilling, IsFillOpen, fills_whole, fills_member, IsMemberExpected, IsMemberEnded}
use Rattle.sonic_value.specs.Internal.Readers.{Source, IsHeadRead}
use Rattle.sonic_value.specs.Internal.Keeping.{kept}
use Rattle.sonic_value.specs.Schemas.{IsReplaced, no_object_met, no_members}
use Rattle.sonic_value.specs.Views.{tree}
use Rattle.sonic_value.specs.declared.fill.Begun.{Begun}
use Rattle.sonic_value.specs.declared.fill.Begun.TheVariants.{Filled, Open}
use Rattle.sonic_value.specs.declared.fill.level.Level.{Level}
use Rattle.sonic_value.specs.declared.value.Value.{Value}

-- one more isn't none
not_none : (outer : List Level) (level : Level) → outer ++ level ∷ [] ≡ [] → ⊥
not_none outer level e = omega (arith, length-append outer (level ∷ []), ap length e)

-- the last of the levels, and those before it
last_one : (outer left : List Level) (a b : Level) → outer ++ a ∷ [] ≡ left ++ b ∷ [] → (outer ≡ left) × (a ≡ b)
last_one [] [] a b e = (refl, cc)
last_one [] (l ∷ left) a b e = absurd (omega (arith, length-append left (b ∷ []), ap length e))
last_one (o ∷ outer) [] a b e = absurd (omega (arith, length-append outer (a ∷ []), ap length e))
last_one (o ∷ outer) (l ∷ left) a b e =
    let first : o ≡ l = cc in
    let others : outer ++ a ∷ [] ≡ left ++ b ∷ [] = cc in
    let more = last_one outer left a b others in
    (rw (first, more.0) refl, more.1)

-- a value that takes the place of what is kept of a schema takes the schema's
pub kept_replaced : (u : Bool) (w : Tree) {x : Tree} {t : List ℕ} {k : ℕ} → IsReplaced t x k → x ≡ kept u w → IsReplaced t w k
kept_replaced u w (no_object_met b) e = no_object_met b
kept_replaced u w (no_members lacks) e = no_members (lacks_members u w lacks e)

-- the last value with a key was taken
pub taken_of : {key : List ℕ} {ms : List (String Global × Value)} {k : ℕ} (m : String Global × Value) (level : Level) (value left : Value) → IsLastWith key ms k
    → m ≡ get_or ms k m → value ≡ m.1 → level.members.items ≡ set ms k (m.0, left) → level.index ≡ k → IsMemberTaken key (items_of ms) level (tree value)
taken_of {key} {ms} {k} m level value left last at own items index = record {
  last = rw own (taken_value m last at);
  put = λ r made there.
      let read : r ≡ get_or (set ms k (m.0, left)) k r = rw (items, index) at there in
      let changed = put_changed m r left made last at read (λ w. tree made) refl in
      rw (items, index) (sym changed);
}

-- what began is open
pub begun_filling : (s : Source) (n : ℕ) (x : Tree) (i j : ℕ) {levels : List Level} (begun : Begun) → levels ≡ [] → IsFillingBegun s n x begun i j → IsFilling s n x i levels begun j
begun_filling s n x i j (Filled made) none read = read
begun_filling s n x i j (Open ms) none b = record { w = x; k = i; xs = b.xs; around = fills_whole none refl refl; object = b.object; read = b.read }

-- what stops the members of an object stops it
object_stops : (s : Source) (n : ℕ) {w : Tree} {xs : Items} {k : ℕ} (stop : Stop) → IsFillable w xs → IsObjectStopped s n xs k stop → IsFillStopped s n w k stop
object_stops s n stop object f = rw object.is (object_stopped s n stop f)

module _ {s : Source} {n : ℕ} {x : Tree} {i : ℕ} where
  -- and all that is around it
  pub open_stops : {levels : List Level} {w : Tree} {k : ℕ} (stop : Stop) → IsFillOpen s n x i levels w k → IsFillStopped s n w k stop → IsFillStopped s n x i stop
  open_stops stop (fills_whole a e f) g = rw (e, f) at g
  open_stops stop (fills_member {xs = xs} {ys} {k} {key = key} around object read head taken is) g =
      let unread = member_unread s n key ys stop taken.last g in
      open_stops stop around (object_stops s n stop object (member_stopped s n xs k object.has read head stop unread))

  module _ {levels : List Level} {ys : Items} {h : ℕ} (expected : IsMemberExpected s n x i levels ys h) where
    -- a key that isn't there stops it
    pub expected_key_stops : (stop : Stop) → IsKeyFault strict s.text h stop → IsFillStopped s n x i stop
    expected_key_stops stop f = open_stops stop expected.around (object_stops s n stop expected.object (key_stopped s n expected.xs expected.k expected.object.has expected.read stop f))

    -- the place is inside the text
    pub expected_within : h ≤ length s.text
    expected_within = items_within expected.read.fit

    module _ {v : ℕ} {key : List ℕ} (head : IsHeadRead s Object h v (Some key)) where
      -- a member that fills none is skipped
      pub expected_skipped : {e : ℕ} → has_key key ys ≡ false → IsValue strict s.text v e → IsMemberEnded s n x i levels ys e
      expected_skipped none value = record { ys = ys; h = h; v = v; key = key; expected = expected; head = head; member = member_skipped s n none value }

      pub expected_unskipped : (stop : Stop) → has_key key ys ≡ false → IsFault strict s.text v stop → IsFillStopped s n x i stop
      expected_unskipped stop none f =
          let unread = member_unskipped s n stop none f in
          open_stops stop expected.around (object_stops s n stop expected.object (member_stopped s n expected.xs expected.k expected.object.has expected.read head stop unread))

      module _ {level : Level} {y : Tree} (taken : IsMemberTaken key ys level y) where
        -- another one fills a value
        pub expected_opens : IsFillOpen s n x i (levels ++ level ∷ []) y v
        expected_opens = fills_member expected.around expected.object expected.read head taken refl

        pub expected_stops : (stop : Stop) → IsFillStopped s n y v stop → IsFillStopped s n x i stop
        expected_stops stop f = open_stops stop expected_opens f

        pub expected_filled : {z : Tree} {zs : Items} {e : ℕ} → IsFillRead s n y z v e → zs ≡ change_last key (λ w. z) ys → IsMemberEnded s n x i levels zs e
        expected_filled read changed = record { ys = ys; h = h; v = v; key = key; expected = expected; head = head; member = member_read s n key ys taken.last read changed }

  module _ {levels : List Level} {zs : Items} {e : ℕ} (m : IsMemberEnded s n x i levels zs e) where
    -- what follows a member stops it
    pub ended_stops : (stop : Stop) → IsSeparatorFault s.text Object e stop → IsFillStopped s n x i stop
    ended_stops stop f =
        let expected = m.expected in
        open_stops stop expected.around (object_stops s n stop expected.object (separator_stopped s n expected.xs expected.k expected.object.has expected.read m.head m.member f))

    -- or another member is expected
    pub ended_goes_on : {g : ℕ} → IsSeparated s.text e g → IsMemberExpected s n x i levels zs g
    ended_goes_on comma =
        let expected = m.expected in
        record {
          w = expected.w;
          k = expected.k;
          xs = expected.xs;
          around = expected.around;
          object = expected.object;
          read = object_goes_on s n expected.xs expected.k expected.object.has expected.read m.head m.member true (λ q. comma) (λ q. absurd cc);
        }

    -- or the object ends
    ended_object : {g : ℕ} → IsEnd s.text Object e g → IsFillRead s n m.expected.w (container Object zs) m.expected.k g
    ended_object end =
        let expected = m.expected in
        rw expected.object.is (object_read s n (object_goes_on s n expected.xs expected.k expected.object.has expected.read m.head m.member false (λ q. absurd cc) (λ q. end)))

    -- and with it all
    whole_by : {w z : Tree} {k g : ℕ} → IsFillOpen s n x i levels w k → levels ≡ [] → IsFillRead s n w z k g → IsFillRead s n x z i g
    whole_by (fills_whole a b c) none read = rw (b, c) at read
    whole_by (fills_member {outer = outer} {level = level} around object read head taken is) none r = absurd (not_none outer level (sym is ∙ none))

    pub ended_whole : {g : ℕ} → levels ≡ [] → IsEnd s.text Object e g → IsFillRead s n x (container Object zs) i g
    ended_whole none end = whole_by m.expected.around none (ended_object end)

    -- or the member of the object around it
    level_by : {left : List Level} {level : Level} {w : Tree} {k g : ℕ} {us : Items} (value : Value) → IsFillOpen s n x i levels w k → levels ≡ left ++ level ∷ []
        → IsFillRead s n w (tree value) k g
        → ((key : List ℕ) (schema : Tree) (ts : Items) → IsMemberTaken key ts level schema → us ≡ change_last key (λ w. tree value) ts) → IsMemberEnded s n x i left us g
    level_by {left} {level} value (fills_whole a b c) is read put = absurd (not_none left level (sym is ∙ a))
    level_by {left} {level} {us = us} value (fills_member {outer = outer} {level = own} {w} {y} {xs} {ys} {k} {h} {v} {key} around object inside head taken same) is read put =
        let parts = last_one outer left own level (sym same ∙ is) in
        let there : IsMemberTaken key ys level y = rw parts.1 at taken in
        let before : IsFillOpen s n x i left w k = rw parts.0 at around in
        expected_filled (record { w = w; k = k; xs = xs; around = before; object = object; read = inside }) head there read (put key y ys there)

    pub ended_level : {left : List Level} {level : Level} {g : ℕ} {us : Items} (value : Value) → tree value ≡ container Object zs → levels ≡ left ++ level ∷ [] → IsEnd s.text Object e g
        → ((key : List ℕ) (schema : Tree) (ts : Items) → IsMemberTaken key ts level schema → us ≡ change_last key (λ w. tree value) ts) → IsMemberEnded s n x i left us g
    ended_level value made is end put = level_by value m.expected.around is (rw made (ended_object end)) put
