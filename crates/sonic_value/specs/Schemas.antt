-- The answer where a schema is filled from a text.
use Rattle.std.specs.Prelude.{◌≡◌, ◌≢◌, ◌≤◌, ℕ, ◌+◌, Bool, List, Some, take, ⊤, IsTrue}
use Rattle.std.specs.Str.{IsUtf8}
use Rattle.sonic_error.specs.Errors.{IsErrorAt, IsPlainError}
use Rattle.sonic_error.specs.Texts.{valid_up_to}
use Rattle.sonic_error.specs.declared.code.ErrorCode.TheVariants.{InvalidUTF8, Message, NoMemory, RecursionLimitExceeded}
use Rattle.sonic_error.specs.declared.error.Error.{Error}
use Rattle.sonic_error.specs.declared.json_type.Note.TheVariants.{SchemaNotObject}
use Rattle.sonic_text.specs.Faults.{IsFault}
use Rattle.sonic_text.specs.Places.{byte, after_space}
use Rattle.sonic_text.specs.Strings.{strict}
use Rattle.sonic_text.specs.Trees.{Tree, container, Items, item, Means}
use Rattle.sonic_text.specs.Values.{IsKey, ItemsFit}
use Rattle.sonic_text.specs.declared.kind.Kind.TheVariants.{Object}
use Rattle.sonic_text.specs.declared.stop.Stop.{Stop}
use Rattle.sonic_value.specs.Depths.{IsNested}
use Rattle.sonic_value.specs.Filling.{change_last, fill, last_of}

-- an object, and one with members
abbrev pub IsObject : Tree → Type 0
IsObject (container Object xs) = ⊤
IsObject other = ⊥

abbrev pub HasMembers : Tree → Type 0
HasMembers (container Object (item l x xs)) = ⊤
HasMembers other = ⊥

-- in the object at i the first n members, each with its comma, fit up to h, where the next is expected, and they fill xs to ys
pub data AreFilled (t : List ℕ) (i : ℕ) (xs : Items) : ℕ → ℕ → Items → Type 0 where
  none_filled : {n h : ℕ} {ys : Items} → ItemsFit strict t Object i n h → n ≡ 0 → ys ≡ xs → AreFilled t i xs n h ys
  one_more_filled : {p u v e n h : ℕ} {k : List ℕ} {d : Tree} {ys zs : Items} → AreFilled t i xs p u ys → IsKey strict t u v k → Means t v e d
      → byte t (after_space t e) ≡ 44 → h ≡ after_space t (after_space t e + 1) → n ≡ p + 1 → zs ≡ change_last k (λ w. fill w d) ys → AreFilled t i xs n h zs

-- while the schema s is filled from the value at i, the schema's value w meets the one at k
pub data Meets (t : List ℕ) : (s : Tree) (i : ℕ) (w : Tree) (k : ℕ) → Type 0 where
  meets_whole : {s w : Tree} {i k : ℕ} → w ≡ s → k ≡ i → Meets t s i w k
  meets_member : {s u w : Tree} {xs ys : Items} {i n h v k : ℕ} {b : List ℕ} → s ≡ container Object xs → HasMembers s → byte t i ≡ 123
      → AreFilled t i xs n h ys → IsKey strict t h v b → last_of b ys ≡ Some u → Meets t u v w k → Meets t s i w k

-- the value at k takes the place of w: one of the two is no object, or w has no members
pub data IsReplaced (t : List ℕ) (w : Tree) (k : ℕ) : Type 0 where
  no_object_met : byte t k ≢ 123 → IsReplaced t w k
  no_members : ¬ HasMembers w → IsReplaced t w k

-- a container begins at p inside n others of a value that takes the place of one
pub record IsDeepIn (t : List ℕ) (n : ℕ) (s : Tree) (i p : ℕ) : Type 0 where
  pub w : Tree
  pub k : ℕ
  pub meets : Meets t s i w k
  pub replaced : IsReplaced t w k
  pub nested : IsNested t n k p

-- the first such one
pub record IsTooDeepIn (t : List ℕ) (n : ℕ) (s : Tree) (i p : ℕ) : Type 0 where
  pub deep : IsDeepIn t n s i p
  pub first : (q : ℕ) → IsDeepIn t n s i q → p ≤ q

abbrev pub IsShallowIn : List ℕ → ℕ → Tree → ℕ → Type 0
IsShallowIn t n s i = (p : ℕ) → ¬ IsDeepIn t n s i p

-- the schema s is filled to x from the value at i, which ends at j, and none of its containers is inside n others of a value that takes another's place
pub record IsFilledBy (t : List ℕ) (n : ℕ) (s x : Tree) (i j : ℕ) : Type 0 where
  pub data_tree : Tree
  pub means : Means t i j data_tree
  pub filled : x ≡ fill s data_tree
  pub shallow : IsShallowIn t n s i

-- the schema s, an object, is filled to x from the value from i to j of a text that is UTF-8 up to there
pub record IsFilledFrom (t : List ℕ) (s x : Tree) (i j : ℕ) : Type 0 where
  pub object : IsObject s
  pub by : IsFilledBy t 255 s x i j
  pub utf8 : IsUtf8 (take j t)

-- why it isn't filled from the value at i, where the text came as bytes that may be no UTF-8 or not: it is no object, a container of a value that takes
-- another's place lies too deep, no value is there, or the text isn't UTF-8 up to the value's end
pub data IsUnfilled (t : List ℕ) (is_bytes : Bool) (s : Tree) (i : ℕ) (stop : Stop) : Type 0 where
  no_object : ¬ IsObject s → stop ≡ record { place = 0; code = Message SchemaNotObject } → IsUnfilled t is_bytes s i stop
  too_deep : {p : ℕ} → IsObject s → IsTooDeepIn t 255 s i p → stop ≡ record { place = p; code = RecursionLimitExceeded } → IsUnfilled t is_bytes s i stop
  fault : IsObject s → IsShallowIn t 255 s i → IsFault strict t i stop → IsUnfilled t is_bytes s i stop
  broken_text : {x : Tree} {j : ℕ} → IsObject s → IsFilledBy t 255 s x i j → IsTrue is_bytes → ¬ IsUtf8 (take j t)
      → stop ≡ record { place = valid_up_to (take j t); code = InvalidUTF8 } → IsUnfilled t is_bytes s i stop

-- there is no memory, or the error says why
pub data IsFillErrorFrom (t : List ℕ) (is_bytes : Bool) (s : Tree) (i : ℕ) (e : Error) : Type 0 where
  out_of_memory : IsPlainError e NoMemory → IsFillErrorFrom t is_bytes s i e
  stopped : (stop : Stop) → IsUnfilled t is_bytes s i stop → IsErrorAt e stop.code t stop.place → IsFillErrorFrom t is_bytes s i e

-- the schema s is filled to x from the value at i, and from the one that begins a text
pub record IsFilledAt (t : List ℕ) (s x : Tree) (i : ℕ) : Type 0 where
  pub end : ℕ
  pub from : IsFilledFrom t s x i end

abbrev pub IsFilled : List ℕ → Tree → Tree → Type 0
IsFilled t s x = IsFilledAt t s x (after_space t 0)

-- the error says why it isn't
abbrev pub IsFillError : List ℕ → Bool → Tree → Error → Type 0
IsFillError t is_bytes s e = IsFillErrorFrom t is_bytes s (after_space t 0) e
