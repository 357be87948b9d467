-- What is known while a schema is filled: facts on which no public clause rests.
use Rattle.std.specs.Prelude.{◌≡◌, ◌<◌, ◌+◌, ℕ, Bool, true, false, List, map, Option, Some, None, drop, slice_get, string_bytes, IsFalse}
use Rattle.std.specs.declared.alloc.Global.{Global}
use Rattle.std.specs.declared.string.String.{String}
use Rattle.sonic_error.specs.declared.code.ErrorCode.TheVariants.{RecursionLimitExceeded}
use Rattle.sonic_text.specs.Faults.{IsFault}
use Rattle.sonic_text.specs.Strings.{strict}
use Rattle.sonic_text.specs.Trees.{Tree, container, Items, Means}
use Rattle.sonic_text.specs.Values.{IsKey, IsValue, ItemsFit}
use Rattle.sonic_text.specs.declared.kind.Kind.TheVariants.{Object}
use Rattle.sonic_text.specs.declared.stop.Stop.{Stop}
use Rattle.sonic_value.specs.Filling.{change_last, fill, has_key, last_of}
use Rattle.sonic_value.specs.Internal.Keeping.{kept, kept_items, kept_text}
use Rattle.sonic_value.specs.Internal.Readers.{Source, IsHeadRead}
use Rattle.sonic_value.specs.Schemas.{AreFilled, IsFilledBy, IsShallowIn, IsTooDeepIn}
use Rattle.sonic_value.specs.Views.{key_and_tree, members_of}
use Rattle.sonic_value.specs.declared.value.Value.{Value}

-- the members of an object as items
abbrev pub items_of : List (String Global × Value) → Items
items_of ms = members_of (map key_and_tree ms)

-- the value at i fills no schema s: a container is inside n others, or else it has a fault
pub data IsUnfillable (t : List ℕ) (n : ℕ) (s : Tree) (i : ℕ) (stop : Stop) : Type 0 where
  is_too_deep : {p : ℕ} → IsTooDeepIn t n s i p → stop ≡ record { place = p; code = RecursionLimitExceeded } → IsUnfillable t n s i stop
  has_fault : IsShallowIn t n s i → IsFault strict t i stop → IsUnfillable t n s i stop

-- the member with the key b and the value from v to e fills ys to zs
pub record IsMemberFilled (t : List ℕ) (n : ℕ) (b : List ℕ) (v e : ℕ) (ys zs : Items) : Type 0 where
  pub data_tree : Tree
  pub means : Means t v e data_tree
  pub filled : zs ≡ change_last b (λ w. fill w data_tree) ys
  pub shallow : (u : Tree) → last_of b ys ≡ Some u → IsShallowIn t n u v

-- or it doesn't
pub data IsMemberStopped (t : List ℕ) (n : ℕ) (b : List ℕ) (v : ℕ) (ys : Items) (stop : Stop) : Type 0 where
  member_too_deep : {p : ℕ} {u : Tree} → last_of b ys ≡ Some u → IsTooDeepIn t n u v p → stop ≡ record { place = p; code = RecursionLimitExceeded }
      → IsMemberStopped t n b v ys stop
  member_fault : ((u : Tree) → last_of b ys ≡ Some u → IsShallowIn t n u v) → IsFault strict t v stop → IsMemberStopped t n b v ys stop

-- the first members of the object at i fill xs to ys, the next one is expected at h, and in none of them a container is inside n others
pub record AreMembersFilled (t : List ℕ) (n : ℕ) (xs : Items) (i count h : ℕ) (ys : Items) : Type 0 where
  pub filled : AreFilled t i xs count h ys
  pub shallow : (p g v : ℕ) (b : List ℕ) (u : Tree) (zs : Items) → p < count → AreFilled t i xs p g zs → IsKey strict t g v b → last_of b zs ≡ Some u
      → IsShallowIn t n u v

-- the value from i to j was passed, and where x is kept of a schema, y is kept of what comes of it
pub record IsFillRead (s : Source) (n : ℕ) (x y : Tree) (i j : ℕ) : Type 0 where
  pub value : IsValue strict s.text i j
  pub fills : (w : Tree) → x ≡ kept s.is_utf8 w → (z : Tree) × (y ≡ kept s.is_utf8 z) × IsFilledBy s.text n w z i j

-- it wasn't, where x is kept of a schema
abbrev pub IsFillStopped : Source → ℕ → Tree → ℕ → Stop → Type 0
IsFillStopped s n x i stop = (w : Tree) → x ≡ kept s.is_utf8 w → IsUnfillable s.text n w i stop

-- the same of an object and its members
pub record IsObjectRead (s : Source) (n : ℕ) (xs ys : Items) (i j : ℕ) : Type 0 where
  pub value : IsValue strict s.text i j
  pub fills : (ws : Items) → xs ≡ kept_items s.is_utf8 ws
      → (zs : Items) × (ys ≡ kept_items s.is_utf8 zs) × IsFilledBy s.text n (container Object ws) (container Object zs) i j

abbrev pub IsObjectStopped : Source → ℕ → Items → ℕ → Stop → Type 0
IsObjectStopped s n xs i stop = (ws : Items) → xs ≡ kept_items s.is_utf8 ws → IsUnfillable s.text n (container Object ws) i stop

-- of a member of which the key c is kept
pub record IsMemberRead (s : Source) (n : ℕ) (c : List ℕ) (xs ys : Items) (v e : ℕ) : Type 0 where
  pub value : IsValue strict s.text v e
  pub fills : (b : List ℕ) (ws : Items) → c ≡ kept_text s.is_utf8 b → xs ≡ kept_items s.is_utf8 ws
      → (zs : Items) × (ys ≡ kept_items s.is_utf8 zs) × IsMemberFilled s.text n b v e ws zs

abbrev pub IsMemberUnread : Source → ℕ → List ℕ → Items → ℕ → Stop → Type 0
IsMemberUnread s n c xs v stop = (b : List ℕ) (ws : Items) → c ≡ kept_text s.is_utf8 b → xs ≡ kept_items s.is_utf8 ws → IsMemberStopped s.text n b v ws stop

-- and of the members of the object at i up to the one that is expected at h
pub record AreMembersRead (s : Source) (n : ℕ) (xs : Items) (i h : ℕ) (ys : Items) : Type 0 where
  pub count : ℕ
  pub fit : ItemsFit strict s.text Object i count h
  pub fills : (ws : Items) → xs ≡ kept_items s.is_utf8 ws → (zs : Items) × (ys ≡ kept_items s.is_utf8 zs) × AreMembersFilled s.text n ws i count h zs

-- the object at i was passed up to a member that is expected at h, or to its end there
abbrev pub IsObjectPassed : Source → ℕ → Items → ℕ → ℕ → Items → Bool → Type 0
IsObjectPassed s n xs i h ys true = AreMembersRead s n xs i h ys
IsObjectPassed s n xs i h ys false = IsObjectRead s n xs ys i h

-- of a list of members the one at this position is the last with the key
pub record IsLastWith (b : List ℕ) (ms : List (String Global × Value)) (n : ℕ) : Type 0 where
  pub member : String Global × Value
  pub is : slice_get ms n ≡ Some member
  pub key : string_bytes member.0 ≡ b
  pub last : IsFalse (has_key b (items_of (drop (n + 1) ms)))

-- it is at this position, or none has it
abbrev pub IsPlaceOf : List ℕ → List (String Global × Value) → Option ℕ → Type 0
IsPlaceOf b ms None = IsFalse (has_key b (items_of ms))
IsPlaceOf b ms (Some n) = IsLastWith b ms n

-- of the member that is expected at h the value is expected at v, and it fills the one at this position, or none
pub record IsMemberFound (s : Source) (h v : ℕ) (ms : List (String Global × Value)) (found : Option ℕ) : Type 0 where
  pub key : List ℕ
  pub head : IsHeadRead s Object h v (Some key)
  pub place : IsPlaceOf key ms found
