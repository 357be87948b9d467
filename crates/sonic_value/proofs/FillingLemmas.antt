-- What comes of a tree that is filled, and of the last member with a key.
use Rattle.std.proofs.Common.{◌≡◌, ◌≢◌, ◌∙◌, ap, refl, sym, arith, ◌⊎◌, inl, inr, ℕ, zero, suc, ◌+◌, Bool, true, false, ◌||◌, List, [], ◌∷◌, Some, None, drop, set, string_bytes, drop-cons, get_or, get_or-set_same, set-set, length, ◌<◌}
use Rattle.std.proofs.lemmas.Bool.{cases_Bool}
use Rattle.std.proofs.lemmas.Option.{slice_get_read, slice_get_within, get_or_from_slice_get}
use Rattle.std.proofs.lemmas.Slice.Eq.{bytes_eq-Decides}
use Rattle.std.specs.Cmp.Lexicographic.{pointwise}
use Rattle.std.specs.Prelude.{nat_eq, slice_get}
use Rattle.std.specs.declared.alloc.Global.{Global}
use Rattle.std.specs.declared.string.String.{String}
use Rattle.std.specs.declared.vec.Vec.{Vec}
use Rattle.sonic_text.specs.Places.{byte}
use Rattle.sonic_text.specs.Trees.{Tree, Items, Means}
use Rattle.sonic_text.specs.Trees.Items.{no_item, item}
use Rattle.sonic_text.specs.Trees.Means.{means_null, means_true, means_false, means_number, means_string, means_empty, means_filled}
use Rattle.sonic_text.specs.Trees.Tree.{null, truth, numeral, text, container}
use Rattle.sonic_text.specs.declared.kind.Kind.TheVariants.{Array, Object}
use Rattle.sonic_value.proofs.Folds.{tree_null, tree_bool, tree_number, tree_string, tree_array}
use Rattle.sonic_value.specs.Internal.Fillers.{items_of, IsLastWith}
use Rattle.sonic_value.specs.Filling.{has_key, last_of, change_last, fill, fill_members}
use Rattle.sonic_value.specs.Schemas.{IsObject, HasMembers, IsReplaced, no_object_met, no_members}
use Rattle.sonic_value.specs.Views.{tree}
use Rattle.sonic_value.specs.declared.value.Value.TheOpen.{Value-F}
use Rattle.sonic_value.specs.declared.value.Value.{Value, Object as AnObject, roll-Value, ind-Value}

-- what is no object, or has no members, is replaced
fill_other : (s d : Tree) → ¬ HasMembers s ⊎ ¬ IsObject d → fill s d ≡ d
fill_other null d h = refl
fill_other (truth b) d h = refl
fill_other (numeral b) d h = refl
fill_other (text b) d h = refl
fill_other (container Array xs) d h = refl
fill_other (container Object no_item) d h = refl
fill_other (container Object (item l x xs)) null h = refl
fill_other (container Object (item l x xs)) (truth b) h = refl
fill_other (container Object (item l x xs)) (numeral b) h = refl
fill_other (container Object (item l x xs)) (text b) h = refl
fill_other (container Object (item l x xs)) (container Array ys) h = refl
fill_other (container Object (item l x xs)) (container Object ys) (inl lacks) = absurd (lacks tt)
fill_other (container Object (item l x xs)) (container Object ys) (inr other) = absurd (other tt)

-- an object begins with its bracket
object_begins : {t : List ℕ} {i j : ℕ} {d : Tree} → Means t i j d → IsObject d → byte t i ≡ 123
object_begins (means_null h) o = absurd o
object_begins (means_true h) o = absurd o
object_begins (means_false h) o = absurd o
object_begins (means_number h e) o = absurd o
object_begins (means_string h) o = absurd o
object_begins (means_empty {kind = Array} b c q) o = absurd o
object_begins (means_empty {kind = Object} b c q) o = b
object_begins (means_filled {kind = Array} b q d is) o = absurd o
object_begins (means_filled {kind = Object} b q d is) o = b

-- a value that takes the place of one is what comes of it
pub replaced_fill : {t : List ℕ} {w d : Tree} {k j : ℕ} → IsReplaced t w k → Means t k j d → fill w d ≡ d
replaced_fill {w = w} {d} (no_object_met b) m = fill_other w d (inr (λ o. b (object_begins m o)))
replaced_fill {w = w} {d} (no_members lacks) m = fill_other w d (inl lacks)

-- and an object with members is filled by its own
pub object_fill : (xs ds : Items) → HasMembers (container Object xs) → fill (container Object xs) (container Object ds) ≡ container Object (fill_members xs ds)
object_fill no_item ds has = absurd has
object_fill (item l x xs) ds has = refl

neither : (a b : Bool) → a || b ≡ false → (a ≡ false) × (b ≡ false)
neither false false e = (refl, refl)
neither false true e = absurd cc
neither true b e = absurd cc

differ : (a : Bool) → ¬ (a ≡ true) → a ≡ false
differ true h = absurd (h refl)
differ false h = refl

-- where no member has the key, none is the last with it
pub none_with : (k : List ℕ) (xs : Items) → has_key k xs ≡ false → (last_of k xs ≡ None) × ((c : Tree → Tree) → change_last k c xs ≡ xs)
none_with k no_item e = (refl, λ c. refl)
none_with k (item None x xs) e = let more = none_with k xs e in (more.0, λ c. ap (item None x) (more.1 c))
none_with k (item (Some l) x xs) e =
    let parts = neither (pointwise nat_eq l k) (has_key k xs) e in
    (rw (parts.1, parts.0) refl, λ c. rw (parts.1, parts.0) refl)

-- changes that agree on the last member agree
pub change_same : (k : List ℕ) (c d : Tree → Tree) (xs : Items) → ((w : Tree) → last_of k xs ≡ Some w → c w ≡ d w) → change_last k c xs ≡ change_last k d xs
change_same k c d no_item same = refl
change_same k c d (item None x xs) same = ap (item None x) (change_same k c d xs same)
change_same k c d (item (Some l) x xs) same = elim (cases_Bool (has_key k xs)) [
  | inl more ↦
      let rest = change_same k c d xs (λ w e. same w (rw more e)) in
      rw more (ap (item (Some l) x) rest)
  | inr last ↦ elim (cases_Bool (pointwise nat_eq l k)) [
    | inl is ↦ let own = same x (rw (last, is) refl) in rw (last, is) (ap (λ y. item (Some l) y xs) own)
    | inr other ↦ rw (last, other) refl
  ]
]

-- the member at a position is the last with the key
record LastAt (k : List ℕ) (ms : List (String Global × Value)) (n : ℕ) (m : String Global × Value) : Type 0 where
  has : has_key k (items_of ms) ≡ true
  last : last_of k (items_of ms) ≡ Some (tree m.1)
  change : (c : Tree → Tree) (v : Value) → tree v ≡ c (tree m.1) → change_last k c (items_of ms) ≡ items_of (set ms n (m.0, v))

or_true : (a : Bool) → a || true ≡ true
or_true true = refl
or_true false = refl

last_at : (k : List ℕ) (ms : List (String Global × Value)) (n : ℕ) (m : String Global × Value) → slice_get ms n ≡ Some m → string_bytes m.0 ≡ k
    → has_key k (items_of (drop (suc n) ms)) ≡ false → LastAt k ms n m
last_at k [] n m is key none = absurd cc
last_at k (x ∷ ms) zero m is key none =
    let same : x ≡ m = cc in
    let equal : pointwise nat_eq (string_bytes m.0) k ≡ true = (bytes_eq-Decides (string_bytes m.0) k).1 key in
    rw same (record {
      has = rw equal refl;
      last = rw (none, equal) refl;
      change = λ c v e. rw (none, equal, e) refl;
    })
last_at k (x ∷ ms) (suc n) m is key none =
    let more = last_at k ms n m is key none in
    record {
      has = rw more.has (or_true (pointwise nat_eq (string_bytes x.0) k));
      last = rw more.has more.last;
      change = λ c v e. rw more.has (ap (item (Some (string_bytes x.0)) (tree x.1)) (more.change c v e));
    }

last_with : {k : List ℕ} {ms : List (String Global × Value)} {n : ℕ} (x : IsLastWith k ms n) → LastAt k ms n x.member
last_with {k} {ms} {n} x =
    let more : n + 1 ≡ suc n = omega arith in
    last_at k ms n x.member x.is x.key (rw more at x.last)

-- a member whose key it is, after which none has it, is the last with it
pub last_found : {k : List ℕ} {ms : List (String Global × Value)} {n : ℕ} (m : String Global × Value) → n < length ms → m ≡ get_or ms n m → string_bytes m.0 ≡ k
    → has_key k (items_of (drop (n + 1) ms)) ≡ false → IsLastWith k ms n
last_found {ms = ms} {n} m less is key none = record { member = m; is = slice_get_read ms (length ms) n m refl less is; key = key; last = none }

-- and one whose key it isn't is no such
pub key_passed : {k : List ℕ} (ms : List (String Global × Value)) {n : ℕ} (m : String Global × Value) → n < length ms → m ≡ get_or ms n m → ¬ (string_bytes m.0 ≡ k)
    → has_key k (items_of (drop (n + 1) ms)) ≡ false → has_key k (items_of (drop n ms)) ≡ false
key_passed {k} ms {n} m less is other none =
    let more : n + 1 ≡ suc n = omega arith in
    let split : drop n ms ≡ m ∷ drop (suc n) ms = drop-cons ms n m less ∙ ap (λ x. x ∷ drop (suc n) ms) (sym is) in
    let rest : has_key k (items_of (drop (suc n) ms)) ≡ false = rw more at none in
    let test = bytes_eq-Decides (string_bytes m.0) k in
    rw (split, rest, differ (pointwise nat_eq (string_bytes m.0) k) (λ e. other (test.0 e))) refl

-- it is there
pub last_within : {k : List ℕ} {ms : List (String Global × Value)} {n : ℕ} → IsLastWith k ms n → n < length ms
last_within {ms = ms} {n} x = slice_get_within ms n x.member x.is

-- its value is the one that counts
last_value : {k : List ℕ} {ms : List (String Global × Value)} {n : ℕ} (x : IsLastWith k ms n) → last_of k (items_of ms) ≡ Some (tree x.member.1)
last_value x = (last_with x).last

-- and another in its place is a change of it
last_changed : {k : List ℕ} {ms : List (String Global × Value)} {n : ℕ} (x : IsLastWith k ms n) (c : Tree → Tree) (v : Value) → tree v ≡ c (tree x.member.1)
    → change_last k c (items_of ms) ≡ items_of (set ms n (x.member.0, v))
last_changed x = (last_with x).change

-- an object with members has them as items
pub has_members : (ms : List (String Global × Value)) → ms ≢ [] → HasMembers (container Object (items_of ms))
has_members [] some = absurd (some refl)
has_members (m ∷ ms) some = tt

pub some_members : (ms : List (String Global × Value)) → 0 < length ms → HasMembers (container Object (items_of ms))
some_members [] less = absurd (omega (arith, less))
some_members (m ∷ ms) less = tt

-- and one with none has none
pub has_none : (ms : List (String Global × Value)) → length ms ≡ 0 → ¬ HasMembers (container Object (items_of ms))
has_none [] e = λ has. has
has_none (m ∷ ms) e = absurd (omega (arith, e))

-- the value that is taken from its place is the one that counts
pub taken_value : {k : List ℕ} {ms : List (String Global × Value)} {n : ℕ} (m : String Global × Value) → IsLastWith k ms n → m ≡ get_or ms n m
    → last_of k (items_of ms) ≡ Some (tree m.1)
taken_value {ms = ms} {n} m x is =
    let own : m ≡ x.member = is ∙ get_or_from_slice_get ms n x.member m x.is in
    rw own (last_value x)

-- and what is put there is a change of it
pub put_changed : {k : List ℕ} {ms : List (String Global × Value)} {n : ℕ} (m r : String Global × Value) (left made : Value) → IsLastWith k ms n → m ≡ get_or ms n m
    → r ≡ get_or (set ms n (m.0, left)) n r → (c : Tree → Tree) → tree made ≡ c (tree m.1) → change_last k c (items_of ms) ≡ items_of (set (set ms n (m.0, left)) n (r.0, made))
put_changed {k} {ms} {n} m r left made x is at c e =
    let own : m ≡ x.member = is ∙ get_or_from_slice_get ms n x.member m x.is in
    let less = slice_get_within ms n x.member x.is in
    let there : r ≡ (m.0, left) = at ∙ get_or-set_same ms n (m.0, left) r less in
    let key : r.0 ≡ m.0 = ap (λ (p : String Global × Value). p.0) there in
    let same : tree made ≡ c (tree x.member.1) = rw own at e in
    rw (set-set ms n (m.0, left) (r.0, made), key, own) (last_changed x c made same)

-- a value that is no object has no members
other_level : (o : Value-F Value) → ((ms : Vec (String Global × Value) Global) → roll-Value o ≡ AnObject ms → ⊥) → ¬ HasMembers (tree (roll-Value o))
unfolding Rattle.sonic_value.specs.declared.value.Value.TheViews.roll-Value denote.Hole.Carrier.roll
other_level Value-F.Null other = rw tree_null (λ has. has)
other_level (Value-F.Bool b) other = rw (tree_bool b) (λ has. has)
other_level (Value-F.Number n) other = rw (tree_number n) (λ has. has)
other_level (Value-F.String t) other = rw (tree_string t) (λ has. has)
other_level (Value-F.Array vs) other = rw (tree_array vs) (λ has. has)
other_level (Value-F.Object ms) other = absurd (other ms refl)

pub other_value : (v : Value) → ((ms : Vec (String Global × Value) Global) → v ≡ AnObject ms → ⊥) → ¬ HasMembers (tree v)
other_value = ind-Value (λ v. ((ms : Vec (String Global × Value) Global) → v ≡ AnObject ms → ⊥) → ¬ HasMembers (tree v)) (λ x y is. other_level x)
