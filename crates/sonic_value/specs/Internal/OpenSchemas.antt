-- What is known of the objects of a schema that are open while it is filled: facts on which no public clause rests.
use Rattle.std.specs.Prelude.{◌≡◌, ℕ, List, [], ◌∷◌, ◌++◌, Some, set, get_or}
use Rattle.std.specs.declared.alloc.Global.{Global}
use Rattle.std.specs.declared.string.String.{String}
use Rattle.sonic_text.specs.Trees.{Tree, container, Items}
use Rattle.sonic_text.specs.declared.kind.Kind.TheVariants.{Object}
use Rattle.sonic_value.specs.Filling.{change_last, last_of}
use Rattle.sonic_value.specs.Internal.Fillers.{items_of, IsFillRead, IsMemberRead, AreMembersRead}
use Rattle.sonic_value.specs.Internal.Readers.{Source, IsHeadRead}
use Rattle.sonic_value.specs.Schemas.{HasMembers}
use Rattle.sonic_value.specs.Views.{tree}
use Rattle.sonic_value.specs.declared.fill.Begun.{Begun}
use Rattle.sonic_value.specs.declared.fill.Begun.TheVariants.{Filled, Open}
use Rattle.sonic_value.specs.declared.fill.level.Level.{Level}
use Rattle.sonic_value.specs.declared.value.Value.{Value}

-- of these members the value of the last with the key was taken, and what is put into its place is a change of it
pub record IsMemberTaken (key : List ℕ) (ys : Items) (level : Level) (schema : Tree) : Type 0 where
  pub last : last_of key ys ≡ Some schema
  pub put : (m : String Global × Value) (made : Value) → m ≡ get_or level.members.items level.index m
      → items_of (set level.members.items level.index (m.0, made)) ≡ change_last key (λ w. tree made) ys

-- a schema is an object with these members, of which there are some
pub record IsFillable (schema : Tree) (xs : Items) : Type 0 where
  pub is : schema ≡ container Object xs
  pub has : HasMembers (container Object xs)

-- the schema y is filled from the value at k, inside open objects of the schema x that is filled from the value at i, the outermost first
pub data IsFillOpen (s : Source) (n : ℕ) (x : Tree) (i : ℕ) : List Level → Tree → ℕ → Type 0 where
  fills_whole : {levels : List Level} {y : Tree} {k : ℕ} → levels ≡ [] → y ≡ x → k ≡ i → IsFillOpen s n x i levels y k
  fills_member : {outer levels : List Level} {level : Level} {w y : Tree} {xs ys : Items} {k h v : ℕ} {key : List ℕ} → IsFillOpen s n x i outer w k → IsFillable w xs
      → AreMembersRead s n xs k h ys → IsHeadRead s Object h v (Some key) → IsMemberTaken key ys level y → levels ≡ outer ++ level ∷ [] → IsFillOpen s n x i levels y v

-- of the data a member is expected at h, and the innermost object of the schema is filled to ys so far
pub record IsMemberExpected (s : Source) (n : ℕ) (x : Tree) (i : ℕ) (levels : List Level) (ys : Items) (h : ℕ) : Type 0 where
  pub w : Tree
  pub k : ℕ
  pub xs : Items
  pub around : IsFillOpen s n x i levels w k
  pub object : IsFillable w xs
  pub read : AreMembersRead s n xs k h ys

-- a member ended at e, with which it is filled to zs
pub record IsMemberEnded (s : Source) (n : ℕ) (x : Tree) (i : ℕ) (levels : List Level) (zs : Items) (e : ℕ) : Type 0 where
  pub ys : Items
  pub h : ℕ
  pub v : ℕ
  pub key : List ℕ
  pub expected : IsMemberExpected s n x i levels ys h
  pub head : IsHeadRead s Object h v (Some key)
  pub member : IsMemberRead s n key ys zs v e

-- the filling of a schema x from the value at i began up to j
pub record IsObjectBegun (s : Source) (n : ℕ) (x : Tree) (ys : Items) (i j : ℕ) : Type 0 where
  pub xs : Items
  pub object : IsFillable x xs
  pub read : AreMembersRead s n xs i j ys

abbrev pub IsFillingBegun : Source → ℕ → Tree → Begun → ℕ → ℕ → Type 0
IsFillingBegun s n x (Filled made) i j = IsFillRead s n x (tree made) i j
IsFillingBegun s n x (Open ms) i j = IsObjectBegun s n x (items_of ms.items) i j

-- and went on up to j
abbrev pub IsFilling : Source → ℕ → Tree → ℕ → List Level → Begun → ℕ → Type 0
IsFilling s n x i levels (Filled made) j = IsFillRead s n x (tree made) i j
IsFilling s n x i levels (Open ms) j = IsMemberExpected s n x i levels (items_of ms.items) j
