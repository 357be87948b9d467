-- A value is read, or it isn't, and a schema is filled from it, or it isn't.
use Rattle.std.proofs.Common.{◌≡◌, ◌≢◌, ◌⊎◌, ◌∙◌, refl, sym, arith, inl, inr, ℕ, zero, suc, ◌+◌, ◌<◌, List, [], Option, Some, None, true, length}
use Rattle.std.proofs.lemmas.Bool.{cases_eq, cases_Bool}
use Rattle.std.specs.Cmp.Lexicographic.{pointwise}
use Rattle.std.specs.Prelude.{nat_eq}
use Rattle.sonic_parser.specs.Containers.{IsEnd, IsSeparated, IsSeparatorFault}
use Rattle.sonic_text.proofs.Items.{head_some, key-longer}
use Rattle.sonic_text.proofs.Outcomes.{value_some_outcome}
use Rattle.sonic_text.proofs.Places.{after_space_later, byte_within}
use Rattle.sonic_text.proofs.TreeLemmas.{tree_of, value_of}
use Rattle.sonic_text.proofs.Values.{head-later, items-later, value-longer}
use Rattle.sonic_text.proofs.Within.{items_within}
use Rattle.sonic_text.specs.Places.{byte, after_space}
use Rattle.sonic_text.specs.Strings.{strict}
use Rattle.sonic_text.specs.Trees.{Tree, Items}
use Rattle.sonic_text.specs.Trees.Tree.{null, truth, numeral, text, container}
use Rattle.sonic_text.specs.Trees.Items.{no_item, item}
use Rattle.sonic_text.specs.Values.{opening, closing, ItemHead, key_head, IsValue, first_item}
use Rattle.sonic_text.specs.declared.kind.Kind.{Kind}
use Rattle.sonic_text.specs.declared.kind.Kind.TheVariants.{Array, Object}
use Rattle.sonic_text.specs.declared.stop.Stop.{Stop}
use Rattle.sonic_value.proofs.DepthLemmas.{too_deep_here}
use Rattle.sonic_value.proofs.FillerLemmas.{replaced_unread, first_filled, empty_filled, next_filled, end_filled, key_stops, member_stops, separator_stops}
use Rattle.sonic_value.proofs.FillingLemmas.{replaced_fill, none_with}
use Rattle.sonic_value.proofs.KeepingLemmas.{kept_same}
use Rattle.sonic_value.proofs.ReaderLemmas.{value_read, first_read, empty_read, key_unread, value_unread, item_read, last_read, separator_unread}
use Rattle.sonic_value.proofs.ScalarLemmas.{scalar_read, scalar_unread}
use Rattle.sonic_value.proofs.SchemaLemmas.{filled_fit, replaced_shallow}
use Rattle.sonic_value.specs.Internal.Fillers.{IsMemberFilled, IsMemberStopped, member_too_deep, member_fault, IsUnfillable, is_too_deep, has_fault, AreMembersFilled}
use Rattle.sonic_value.specs.Filling.{has_key, last_of, change_last, fill}
use Rattle.sonic_value.specs.Internal.Keeping.{kept_label}
use Rattle.sonic_value.specs.Internal.Readers.{Source, BeginsNoContainer, IsKept, IsValueRead, IsUnreadValue, too_deep, IsHeadRead, AreItemsRead}
use Rattle.sonic_value.specs.Schemas.{HasMembers, IsReplaced, no_object_met, no_members, IsFilledBy}

-- after what ends at e the bracket comes, or a comma, or neither
data Follows (t : List ℕ) (kind : Kind) (e : ℕ) : Type 0 where
  closes : {j : ℕ} → IsEnd t kind e j → Follows t kind e
  goes_on : {g : ℕ} → IsSeparated t e g → Follows t kind e
  nothing : {s : Stop} → IsSeparatorFault t kind e s → Follows t kind e

follows : (t : List ℕ) (kind : Kind) (e : ℕ) → Follows t kind e
follows t kind e = elim (cases_eq (byte t (after_space t e)) (closing kind)) [
  | inl c ↦ closes (c, refl)
  | inr c ↦ elim (cases_eq (byte t (after_space t e)) 44) [ inl d ↦ goes_on (d, refl) | inr d ↦ nothing ((d, c), refl) ]
]

neither_begins : (t : List ℕ) (i : ℕ) (kind : Kind) → byte t i ≢ opening Array → byte t i ≢ opening Object → byte t i ≢ opening kind
neither_begins t i Array a o = a
neither_begins t i Object a o = o

-- a container begins at i, or none does
begins : (t : List ℕ) (i : ℕ) → ((kind : Kind) × (byte t i ≡ opening kind)) ⊎ BeginsNoContainer t i
begins t i = elim (cases_eq (byte t i) (opening Array)) [
  | inl e ↦ inl (Array, e)
  | inr a ↦ elim (cases_eq (byte t i) (opening Object)) [ inl e ↦ inl (Object, e) | inr o ↦ inr (λ kind. neither_begins t i kind a o) ]
]

-- a text in UTF-8
abbrev utf8 : List ℕ → Source
utf8 t = record { text = t; is_utf8 = true }

abbrev ReadOutcome : List ℕ → ℕ → ℕ → Type 0
ReadOutcome t depth_left i = ((j : ℕ) × (x : Tree) × IsValueRead (utf8 t) depth_left i j x) ⊎ ((s : Stop) × IsUnreadValue t depth_left i s)

-- an item that follows another comes later
next_later : {t : List ℕ} {kind : Kind} {h v e g : ℕ} {l : Option (List ℕ)} → ItemHead strict t kind h v l → IsValue strict t v e → IsSeparated t e g → h < g
next_later {t} {e = e} y x comma =
    omega (arith, head-later y, value-longer x, after_space_later t e, after_space_later t (after_space t e + 1), comma.1)

-- the items of a container
items_read : (t : List ℕ) (kind : Kind) (depth_left i fuel h : ℕ) (xs : List (Option (List ℕ) × Tree)) → ((v : ℕ) → ReadOutcome t depth_left v)
    → AreItemsRead (utf8 t) kind depth_left i h xs → length t < h + fuel → ReadOutcome t (depth_left + 1) i
items_read t kind depth_left i zero h xs each read less = let within = items_within read.fit in absurd (omega (arith, within, less))
items_read t kind depth_left i (suc fuel) h xs each read less = elim (head_some strict t kind h) [
  | inr (s, k, f) ↦ inr (s, key_unread read k f)
  | inl (v, l, y) ↦
      let head : IsHeadRead (utf8 t) kind h v (kept_label true l) = record { label = l; head = y; is = refl } in
      elim (each v) [
        | inr (s, f) ↦ inr (s, value_unread read head f)
        | inl (e, x, value) ↦ elim (follows t kind e) [
          | closes end ↦ inl (_, _, last_read read head value end)
          | nothing f ↦ inr (_, separator_unread read head value f)
          | goes_on comma ↦
              let later = next_later y (value_read value) comma in
              items_read t kind depth_left i fuel _ _ each (item_read read head value comma) (omega (arith, less, later))
        ]
      ]
]

-- a container inside which so many more may be open
container_read : (t : List ℕ) (kind : Kind) (depth_left i : ℕ) → byte t i ≡ opening kind → ((v : ℕ) → ReadOutcome t depth_left v) → ReadOutcome t (depth_left + 1) i
container_read t kind depth_left i b each = elim (cases_eq (byte t (after_space t (i + 1))) (closing kind)) [
  | inl c ↦ inl (_, _, empty_read kind depth_left b (c, refl))
  | inr c ↦ items_read t kind depth_left i (suc (length t)) (after_space t (i + 1)) [] each (first_read kind depth_left b refl c) (omega arith)
]

-- a scalar
scalar_or_not : (t : List ℕ) (depth_left i : ℕ) → BeginsNoContainer t i → ReadOutcome t depth_left i
scalar_or_not t depth_left i none = elim (value_some_outcome strict t i) [
  | inl (j, value) ↦
      let x = tree_of value in
      let kept : IsKept (utf8 t) i j x.0 = record { meant = x.0; means = x.1; is = sym (kept_same x.0) } in
      inl (j, x.0, scalar_read none kept depth_left)
  | inr (s, f) ↦ inr (s, scalar_unread none s f depth_left)
]

-- each value
pub read_or_not : (t : List ℕ) (depth_left i : ℕ) → ReadOutcome t depth_left i
read_or_not t zero i = elim (begins t i) [
  | inr none ↦ scalar_or_not t zero i none
  | inl (kind, b) ↦ inr (_, too_deep (too_deep_here kind b) refl)
]
read_or_not t (suc depth_left) i = elim (begins t i) [
  | inr none ↦ scalar_or_not t (suc depth_left) i none
  | inl (kind, b) ↦ (let more : depth_left + 1 ≡ suc depth_left = omega arith in rw more at (container_read t kind depth_left i b (read_or_not t depth_left)))
]

-- a schema is filled from the value at i, or it isn't
abbrev FillOutcome : List ℕ → ℕ → Tree → ℕ → Type 0
FillOutcome t n w i = ((j : ℕ) × (x : Tree) × IsFilledBy t n w x i j) ⊎ ((s : Stop) × IsUnfillable t n w i s)

replaced_or_not : (t : List ℕ) (n : ℕ) (w : Tree) (i : ℕ) → IsReplaced t w i → FillOutcome t n w i
replaced_or_not t n w i r = elim (read_or_not t n i) [
  | inl (j, x, read) ↦
      let d = read.kept in
      inl (j, d.meant, record { data_tree = d.meant; means = d.means; filled = sym (replaced_fill r d.means); shallow = replaced_shallow r read.shallow })
  | inr (s, f) ↦ inr (s, replaced_unread s f r)
]

-- where a member has the key, one is the last with it
last_with : (k : List ℕ) (xs : Items) → has_key k xs ≡ true → (w : Tree) × (last_of k xs ≡ Some w)
last_with k no_item e = absurd cc
last_with k (item None x xs) e = last_with k xs e
last_with k (item (Some l) x xs) e = elim (cases_Bool (has_key k xs)) [
  | inl more ↦ (let w = last_with k xs more in (w.0, rw more w.1))
  | inr last ↦ elim (cases_Bool (pointwise nat_eq l k)) [
    | inl is ↦ (x, rw (last, is) refl)
    | inr other ↦ absurd (let none = rw (last, other) at e in cc)
  ]
]

-- a member fills the last one with its key, or it doesn't
abbrev MemberOutcome : List ℕ → ℕ → List ℕ → ℕ → Items → Type 0
MemberOutcome t n b v ys = ((e : ℕ) × (zs : Items) × IsMemberFilled t n b v e ys zs) ⊎ ((s : Stop) × IsMemberStopped t n b v ys s)

same_last : (b : List ℕ) (ys : Items) {w u : Tree} → last_of b ys ≡ Some w → last_of b ys ≡ Some u → u ≡ w
same_last b ys x y = let e = sym x ∙ y in cc

member_stopped : {t : List ℕ} {n : ℕ} {b : List ℕ} {v : ℕ} {ys : Items} {w : Tree} {s : Stop} → last_of b ys ≡ Some w → IsUnfillable t n w v s
    → IsMemberStopped t n b v ys s
member_stopped last (is_too_deep x e) = member_too_deep last x e
member_stopped {b = b} {ys = ys} last (has_fault shallow f) = member_fault (λ u e. let same = same_last b ys last e in rw (← same) at shallow) f

member_or_not : (t : List ℕ) (n : ℕ) (b : List ℕ) (v : ℕ) (ys : Items) → ((u : Tree) → FillOutcome t n u v) → MemberOutcome t n b v ys
member_or_not t n b v ys each = elim (cases_Bool (has_key b ys)) [
  | inl has ↦
      let last = last_with b ys has in
      elim (each last.0) [
        | inl (e, x, by) ↦
            inl (
              e,
              change_last b (λ w. fill w by.data_tree) ys,
              record {
                data_tree = by.data_tree;
                means = by.means;
                filled = refl;
                shallow = λ u is. let same = same_last b ys last.1 is in rw (← same) at by.shallow;
              },
            )
        | inr (s, f) ↦ inr (s, member_stopped last.1 f)
      ]
  | inr none ↦
      let without = none_with b ys none in
      elim (value_some_outcome strict t v) [
        | inl (e, value) ↦
            let x = tree_of value in
            inl (
              e,
              ys,
              record {
                data_tree = x.0;
                means = x.1;
                filled = sym (without.1 (λ w. fill w x.0));
                shallow = λ u is. absurd (let clash = sym without.0 ∙ is in cc);
              },
            )
        | inr (s, f) ↦ inr (s, member_fault (λ u is. absurd (let clash = sym without.0 ∙ is in cc)) f)
      ]
]

-- the members of an object
abbrev FillsAfter : List ℕ → ℕ → ℕ → Type 0
FillsAfter t n i = (u : Tree) (v : ℕ) → i < v → FillOutcome t n u v

members_filled : (t : List ℕ) (n : ℕ) (xs : Items) (i fuel count h : ℕ) (ys : Items) → HasMembers (container Object xs) → FillsAfter t n i
    → AreMembersFilled t n xs i count h ys → length t < h + fuel → FillOutcome t n (container Object xs) i
members_filled t n xs i zero count h ys has each is less = let within = items_within (filled_fit is.filled) in absurd (omega (arith, within, less))
members_filled t n xs i (suc fuel) count h ys has each is less = elim (head_some strict t Object h) [
  | inr (s, k, f) ↦ inr (s, key_stops s has is f)
  | inl (v, l, key_head {b} y) ↦
      let inside = items-later (filled_fit is.filled) in
      let later = key-longer y in
      elim (member_or_not t n b v ys (λ u. each u v (omega (arith, inside, later)))) [
        | inr (s, f) ↦ inr (s, member_stops has is y s f)
        | inl (e, zs, m) ↦ elim (follows t Object e) [
          | closes end ↦ inl (_, _, end_filled has is y m end)
          | nothing f ↦ inr (_, separator_stops has is y m f)
          | goes_on comma ↦
              let next = next_later (key_head y) (value_of m.means) comma in
              members_filled t n xs i fuel (count + 1) _ zs has each (next_filled has is y m comma) (omega (arith, less, next))
        ]
      ]
]

-- a schema that has members, or hasn't
members_or_not : (w : Tree) → ((xs : Items) × (w ≡ container Object xs) × HasMembers (container Object xs)) ⊎ ¬ HasMembers w
members_or_not null = inr (λ has. has)
members_or_not (truth b) = inr (λ has. has)
members_or_not (numeral b) = inr (λ has. has)
members_or_not (text b) = inr (λ has. has)
members_or_not (container Array xs) = inr (λ has. has)
members_or_not (container Object no_item) = inr (λ has. has)
members_or_not (container Object (item l x xs)) = inl (item l x xs, refl, tt)

object_or_not : (t : List ℕ) (n : ℕ) (xs : Items) (i : ℕ) → HasMembers (container Object xs) → byte t i ≡ 123 → FillsAfter t n i
    → FillOutcome t n (container Object xs) i
object_or_not t n xs i has b each = elim (cases_eq (byte t (after_space t (i + 1))) 125) [
  | inl c ↦ inl (_, _, empty_filled has b (c, refl))
  | inr c ↦ members_filled t n xs i (suc (length t)) 0 (after_space t (i + 1)) xs has each (first_filled has (first_item b refl c refl)) (omega arith)
]

fill_here : (t : List ℕ) (n : ℕ) (w : Tree) (i : ℕ) → FillsAfter t n i → FillOutcome t n w i
fill_here t n w i each = elim (members_or_not w) [
  | inr none ↦ replaced_or_not t n w i (no_members none)
  | inl (xs, is, has) ↦ elim (cases_eq (byte t i) 123) [
    | inl b ↦ rw is (object_or_not t n xs i has b each)
    | inr other ↦ replaced_or_not t n w i (no_object_met other)
  ]
]

-- past the end of the text no object begins
fill_from : (fuel : ℕ) (t : List ℕ) (n : ℕ) (w : Tree) (i : ℕ) → length t < i + fuel → FillOutcome t n w i
fill_from zero t n w i less = elim (cases_eq (byte t i) 123) [
  | inl b ↦ absurd (let within = byte_within t i (λ z. omega (arith, b, z)) in omega (arith, within, less))
  | inr other ↦ replaced_or_not t n w i (no_object_met other)
]
fill_from (suc fuel) t n w i less = fill_here t n w i (λ u v later. fill_from fuel t n u v (omega (arith, less, later)))

pub fill_or_not : (t : List ℕ) (n : ℕ) (w : Tree) (i : ℕ) → FillOutcome t n w i
fill_or_not t n w i = fill_from (suc (length t)) t n w i (omega arith)
