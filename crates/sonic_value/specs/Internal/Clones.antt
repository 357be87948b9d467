-- Copies of values that are being made: facts on which no public clause rests.
use Rattle.std.specs.Prelude.{◌≡◌, ℕ, ◌+◌, ◌*◌, Bool, List, [], ◌∷◌, ◌++◌, map, drop, slice_get, string_bytes, Option, Some, None}
use Rattle.std.specs.declared.alloc.Global.{Global}
use Rattle.std.specs.declared.string.String.{String}
use Rattle.sonic_text.specs.Trees.{Tree, container}
use Rattle.sonic_text.specs.declared.kind.Kind.TheVariants as kind
use Rattle.sonic_value.specs.Internal.Keeping.{kept, kept_text}
use Rattle.sonic_value.specs.Internal.ValueCounts.{items_value_count}
use Rattle.sonic_value.specs.Views.{tree, key_and_tree, elements_of, members_of}
use Rattle.sonic_value.specs.declared.value.Value.{Value}
use Rattle.sonic_value.specs.declared.value.copy.Copying.{Copying}
use Rattle.sonic_value.specs.declared.value.copy.Copying.TheVariants.{Whole, Array, Object}

-- what is kept of a value, and of a member
abbrev pub kept_tree : Bool → Value → Tree
kept_tree u v = kept u (tree v)

abbrev pub kept_member : Bool → String Global × Value → List ℕ × Tree
kept_member u m = (kept_text u (string_bytes m.0), kept u (tree m.1))

-- the tree of the copy once the items that are left are copied too
abbrev pub made_tree : Bool → Copying → Tree
made_tree u (Whole v) = tree v
made_tree u (Array vs made) = container kind.Array (elements_of (map tree made.items ++ map (kept_tree u) vs.now))
made_tree u (Object ms made) = container kind.Object (members_of (map key_and_tree made.items ++ map (kept_member u) ms.now))

-- the tree of the first item that is left
abbrev pub next_tree : Copying → Option Tree
next_tree (Whole v) = None
next_tree (Array vs made) = slice_get (map tree vs.now) 0
next_tree (Object ms made) = slice_get (map (λ (m : String Global × Value). tree m.1) ms.now) 0

-- how much is left, and how much of that is after the first item
abbrev pub left_size : Copying → ℕ
left_size (Whole v) = 1
left_size (Array vs made) = 1 + 2 * items_value_count (elements_of (map tree vs.now))
left_size (Object ms made) = 1 + 2 * items_value_count (members_of (map key_and_tree ms.now))

abbrev pub waiting_size : Copying → ℕ
waiting_size (Whole v) = 0
waiting_size (Array vs made) = 1 + 2 * items_value_count (elements_of (map tree (drop 1 vs.now)))
waiting_size (Object ms made) = 1 + 2 * items_value_count (members_of (map key_and_tree (drop 1 ms.now)))

abbrev pub waiting_sizes : List Copying → ℕ
waiting_sizes [] = 0
waiting_sizes (c ∷ cs) = waiting_size c + waiting_sizes cs

-- with these containers open, the outermost first, the tree x is being made, and of the item in hand y is
abbrev pub IsCopyOpen : Bool → Tree → List Copying → Tree → Type 0
IsCopyOpen u x [] y = x ≡ y
IsCopyOpen u x (c ∷ cs) y = (made_tree u c ≡ x) × ((z : Tree) × (next_tree c ≡ Some z) × IsCopyOpen u (kept u z) cs y)

-- an item is copied where it comes next
pub record IsPutIn (u : Bool) (c d : Copying) : Type 0 where
  pub same : made_tree u d ≡ made_tree u c
  pub less : left_size d ≡ waiting_size c
