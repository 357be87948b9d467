-- How the values of a text are read, one item of a container after the other.
use Rattle.std.proofs.Common.{◌≡◌, ◌≢◌, ◌∙◌, ap, ℕ, ◌+◌, ◌-◌, ◌<◌, List, [], ◌∷◌, ◌++◌, map, Bool, true, false, length, arith, refl}
use Rattle.std.proofs.lemmas.List.{map-append}
use Rattle.std.specs.Prelude.{Option, None}
use Rattle.sonic_parser.specs.Containers.{IsEnd, IsSeparated, IsSeparatorFault}
use Rattle.sonic_text.proofs.Items.{closing_no_comma}
use Rattle.sonic_text.proofs.Places.{after_space_later}
use Rattle.sonic_text.proofs.TreeLemmas.{value_of}
use Rattle.sonic_text.proofs.Values.{head-later, value-longer, items_open, items_not_empty}
use Rattle.sonic_text.proofs.Within.{value_within, items_within}
use Rattle.sonic_text.specs.Faults.{IsKeyFault, in_key, in_value, after_item}
use Rattle.sonic_text.specs.Places.{byte, after_space}
use Rattle.sonic_text.specs.Strings.{strict}
use Rattle.sonic_text.specs.Trees.{Tree, container, Items, no_item, item}
use Rattle.sonic_text.specs.Trees.Means.{means_empty, means_filled}
use Rattle.sonic_text.specs.Trees.ItemsMean.{last_item, more_items}
use Rattle.sonic_text.specs.Values.{opening, closing, no_head, IsValue, ItemsFit, first_item, next_item}
use Rattle.sonic_text.specs.declared.kind.Kind.{Kind}
use Rattle.sonic_text.specs.declared.kind.Kind.TheVariants.{Array, Object}
use Rattle.sonic_text.specs.declared.stop.Stop.{Stop}
use Rattle.sonic_value.proofs.DepthLemmas.{empty_shallow, more_shallow, whole_shallow, fault_shallow, key_shallow, item_too_deep}
use Rattle.sonic_value.proofs.KeepingLemmas.{kept_before}
use Rattle.sonic_value.specs.Internal.Readers.{Source, ReaderState, IsValueRead, IsUnreadValue, too_deep, at_fault, IsHeadRead, kept_item, items_before, AreItemsRead, IsContainerRead}

-- cursors that are the same have the same text, and are at the same place
pub same_source : {a b : ReaderState} → a ≡ b → a.source ≡ b.source
same_source e = ap (λ (c : ReaderState). c.source) e

pub source_text : {a b : ReaderState} → a ≡ b → a.source.text ≡ b.source.text
source_text e = ap (λ (c : ReaderState). c.source.text) e

pub source_utf8 : {a b : ReaderState} → a ≡ b → a.source.is_utf8 ≡ b.source.is_utf8
source_utf8 e = ap (λ (c : ReaderState). c.source.is_utf8) e

pub same_place : {a b : ReaderState} → a ≡ b → a.place ≡ b.place
same_place e = ap (λ (c : ReaderState). c.place) e

-- a value was read where one is
pub value_read : {s : Source} {depth_left i j : ℕ} {x : Tree} → IsValueRead s depth_left i j x → IsValue strict s.text i j
value_read read = value_of read.kept.means

-- an element has no label
pub no_label : {s : Source} {h v : ℕ} → v ≡ h → IsHeadRead s Array h v None
no_label e = record { label = None; head = no_head e; is = refl }

-- one item more before others
before_more : (xs : List (Option (List ℕ) × Tree)) (x : Option (List ℕ) × Tree) (ys : Items)
    → items_before (xs ++ x ∷ []) ys ≡ items_before xs (item x.0 x.1 ys)
before_more [] x ys = refl
before_more (z ∷ xs) x ys = ap (item z.0 z.1) (before_more xs x ys)

-- the container at i begins with the item that is expected after its bracket
pub first_read : {s : Source} (kind : Kind) (depth_left : ℕ) {i h : ℕ} → byte s.text i ≡ opening kind → h ≡ after_space s.text (i + 1) → byte s.text h ≢ closing kind
    → AreItemsRead s kind depth_left i h []
first_read kind depth_left b e more = record {
  count = 0;
  fit = first_item b e more refl;
  items = [];
  kept = refl;
  mean = λ j ys rest. rw (← e) rest;
  shallow = λ p g v l less. absurd (omega (arith, less));
}

-- or it is empty
pub empty_read : {s : Source} (kind : Kind) (depth_left : ℕ) {i j : ℕ} → byte s.text i ≡ opening kind → IsEnd s.text kind (i + 1) j
    → IsValueRead s (depth_left + 1) i j (container kind no_item)
empty_read kind depth_left b end = record {
  kept = record { meant = container kind no_item; means = means_empty b end.0 end.1; is = refl };
  shallow = empty_shallow kind depth_left b end.0;
}

module _ {s : Source} {kind : Kind} {depth_left i h : ℕ} {xs : List (Option (List ℕ) × Tree)} (read : AreItemsRead s kind depth_left i h xs) where
  -- a key that isn't there
  pub key_unread : {stop : Stop} → kind ≡ Object → IsKeyFault strict s.text h stop → IsUnreadValue s.text (depth_left + 1) i stop
  key_unread k f =
      let is : ItemsFit strict s.text Object i read.count h = rw k at read.fit in
      at_fault (key_shallow depth_left read.fit read.shallow k f) (in_key is f)

  module _ {v : ℕ} {l : Option (List ℕ)} (head : IsHeadRead s kind h v l) where
    -- a value that isn't
    pub value_unread : {stop : Stop} → IsUnreadValue s.text depth_left v stop → IsUnreadValue s.text (depth_left + 1) i stop
    value_unread (too_deep x e) = too_deep (item_too_deep depth_left read.fit read.shallow head.head x) e
    value_unread (at_fault shallow f) = at_fault (fault_shallow depth_left read.fit read.shallow head.head shallow f) (in_value read.fit head.head f)

    module _ {e : ℕ} {x : Tree} (value : IsValueRead s depth_left v e x) where
      -- what is kept with the item
      more_kept : xs ++ (l, x) ∷ [] ≡ map (kept_item s.is_utf8) (read.items ++ (head.label, value.kept.meant) ∷ [])
      more_kept = rw (read.kept, head.is, value.kept.is, map-append (kept_item s.is_utf8) read.items ((head.label, value.kept.meant) ∷ [])) refl

      -- after the item another one is expected
      pub item_read : {g : ℕ} → IsSeparated s.text e g → AreItemsRead s kind depth_left i g (xs ++ (l, x) ∷ [])
      item_read comma = record {
        count = read.count + 1;
        fit = next_item read.fit head.head (value_read value) comma.0 comma.1 refl;
        items = read.items ++ (head.label, value.kept.meant) ∷ [];
        kept = more_kept;
        mean = λ j ys rest. rw (before_more read.items (head.label, value.kept.meant) ys)
            (read.mean j (item head.label value.kept.meant ys) (more_items head.head value.kept.means comma.0 comma.1 rest));
        shallow = more_shallow depth_left read.fit read.shallow head.head value.shallow;
      }

      -- or the container ends
      pub last_read : {j : ℕ} → IsEnd s.text kind e j → IsValueRead s (depth_left + 1) i j (container kind (items_before (xs ++ (l, x) ∷ []) no_item))
      last_read {j} end =
          let b = items_open read.fit in
          let items = read.items ++ (head.label, value.kept.meant) ∷ [] in
          let all = read.mean j (item head.label value.kept.meant no_item) (last_item head.head value.kept.means end.0 end.1) in
          record {
            kept = record {
              meant = container kind (items_before items no_item);
              means = rw (before_more read.items (head.label, value.kept.meant) no_item) (means_filled b refl (items_not_empty read.fit) all);
              is = ap (container kind) (ap (λ ys. items_before ys no_item) more_kept ∙ kept_before s.is_utf8 items);
            };
            shallow = whole_shallow depth_left read.fit read.shallow head.head value.shallow (value_read value) (λ c. closing_no_comma kind (omega (arith, c, end.0)));
          }

      -- or neither follows
      pub separator_unread : {stop : Stop} → IsSeparatorFault s.text kind e stop → IsUnreadValue s.text (depth_left + 1) i stop
      separator_unread f =
          at_fault (whole_shallow depth_left read.fit read.shallow head.head value.shallow (value_read value) f.0.0) (after_item read.fit head.head (value_read value) f.0 f.1)

-- the container begins with an item, or ends
pub container_begins : (s : Source) (kind : Kind) (depth_left i : ℕ) {h : ℕ} (more : Bool) → byte s.text i ≡ opening kind
    → (more ≡ true → (h ≡ after_space s.text (i + 1)) × (byte s.text h ≢ closing kind)) → (more ≡ false → IsEnd s.text kind (i + 1) h)
    → IsContainerRead s kind depth_left i h [] more
container_begins s kind depth_left i true b first close = let x = first refl in first_read kind depth_left b x.0 x.1
container_begins s kind depth_left i false b first close = empty_read kind depth_left b (close refl)

-- after an item it goes on with another one, or ends
container_goes_on : {s : Source} {kind : Kind} {depth_left i h v e g : ℕ} {xs : List (Option (List ℕ) × Tree)} {l : Option (List ℕ)} {x : Tree} (more : Bool)
    → AreItemsRead s kind depth_left i h xs → IsHeadRead s kind h v l → IsValueRead s depth_left v e x → (more ≡ true → IsSeparated s.text e g)
    → (more ≡ false → IsEnd s.text kind e g)
    → IsContainerRead s kind depth_left i g (xs ++ (l, x) ∷ []) more
container_goes_on true read head value comma close = item_read read head value (comma refl)
container_goes_on false read head value comma close = last_read read head value (close refl)

-- and less of the text is left
less_left : {s : Source} {kind : Kind} {depth_left i h v e g : ℕ} {xs : List (Option (List ℕ) × Tree)} {l : Option (List ℕ)} {x : Tree} (more : Bool)
    → AreItemsRead s kind depth_left i h xs → IsHeadRead s kind h v l → IsValueRead s depth_left v e x → (more ≡ true → IsSeparated s.text e g)
    → (more ≡ false → IsEnd s.text kind e g)
    → length s.text - g < length s.text - h
less_left {s} {e = e} true read head value comma close =
    let c = comma refl in
    let within = items_within (item_read read head value c).fit in
    omega (arith, within, c.1, after_space_later s.text e, after_space_later s.text (after_space s.text e + 1), head-later head.head, value-longer (value_read value))
less_left {s} {e = e} false read head value comma close =
    let c = close refl in
    let within = value_within (value_read (last_read read head value c)) in
    omega (arith, within, c.1, after_space_later s.text e, head-later head.head, value-longer (value_read value))

-- the same by the cursors that an item is passed with: at its head, at its value, at its end, and where the next item is expected
module _ {s : Source} {kind : Kind} {depth_left i : ℕ} {h : ReaderState} {xs : List (Option (List ℕ) × Tree)} (at_head : h ≡ record { source = s; place = h.place })
    (read : AreItemsRead s kind depth_left i h.place xs) where
  pub key_stops : {stop : Stop} → kind ≡ Object → IsKeyFault strict h.source.text h.place stop → IsUnreadValue s.text (depth_left + 1) i stop
  key_stops k f = key_unread read k (rw (same_source at_head) at f)

  module _ {v : ReaderState} {l : Option (List ℕ)} (at_value : v ≡ record { source = h.source; place = v.place }) (head : IsHeadRead h.source kind h.place v.place l) where
    head_in : IsHeadRead s kind h.place v.place l
    head_in = rw (same_source at_head) at head

    value_in : v.source ≡ s
    value_in = same_source at_value ∙ same_source at_head

    pub value_stops : {stop : Stop} → IsUnreadValue v.source.text depth_left v.place stop → IsUnreadValue s.text (depth_left + 1) i stop
    value_stops f = value_unread read head_in (rw value_in at f)

    module _ {e : ReaderState} {x : Tree} (at_end : e ≡ record { source = v.source; place = e.place }) (value : IsValueRead v.source depth_left v.place e.place x) where
      end_in : e.source ≡ s
      end_in = same_source at_end ∙ value_in

      pub separator_stops : {stop : Stop} → IsSeparatorFault e.source.text kind e.place stop → IsUnreadValue s.text (depth_left + 1) i stop
      separator_stops f = separator_unread read head_in (rw value_in at value) (rw end_in at f)

      module _ {g : ReaderState} (at_next : g ≡ record { source = e.source; place = g.place }) (more : Bool) (comma : more ≡ true → IsSeparated e.source.text e.place g.place)
          (close : more ≡ false → IsEnd e.source.text kind e.place g.place) where
        pub item_kept : g ≡ record { source = s; place = g.place }
        item_kept = rw end_in at at_next

        pub item_goes_on : IsContainerRead s kind depth_left i g.place (xs ++ (l, x) ∷ []) more
        item_goes_on = container_goes_on more read head_in (rw value_in at value) (rw end_in at comma) (rw end_in at close)

        pub item_leaves_less : length g.source.text - g.place < length h.source.text - h.place
        item_leaves_less =
            rw (same_source at_next ∙ end_in, same_source at_head) (less_left more read head_in (rw value_in at value) (rw end_in at comma) (rw end_in at close))
