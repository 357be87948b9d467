-- What is left of containers that are compared: facts on which no public clause rests.
use Rattle.std.specs.Prelude.{◌≡◌, ℕ, ◌+◌, IsTrue, List, [], ◌∷◌, Option, Some, None, drop, length, map, ⊤}
use Rattle.std.specs.declared.alloc.Global.{Global}
use Rattle.std.specs.declared.string.String.{String}
use Rattle.sonic_value.specs.Internal.OpenTexts.{array_size, object_size}
use Rattle.sonic_value.specs.Views.{tree, key_and_tree}
use Rattle.sonic_value.specs.declared.value.Value.{Value}
use Rattle.sonic_value.specs.declared.value.equal.Compared.{Compared}
use Rattle.sonic_value.specs.declared.value.equal.Compared.TheVariants.{Known, Open}
use Rattle.sonic_value.specs.declared.value.equal.Comparing.{Comparing}
use Rattle.sonic_value.specs.declared.value.equal.Comparing.TheVariants.{Arrays, Objects}

-- two arrays, and two objects, are as long, and what is left from a position on is the same
abbrev pub array_alike : List Value → List Value → ℕ → Type 0
array_alike vs ws n = (length vs ≡ length ws) × (map tree (drop n vs) ≡ map tree (drop n ws))

abbrev pub object_alike : List (String Global × Value) → List (String Global × Value) → ℕ → Type 0
object_alike ms os n = (length ms ≡ length os) × (map key_and_tree (drop n ms) ≡ map key_and_tree (drop n os))

-- the same of containers that are compared, and how much is left of the first of the two
abbrev pub IsAlike : Comparing → Type 0
IsAlike (Arrays vs ws n) = array_alike vs.now.items ws.now.items n
IsAlike (Objects ms os n) = object_alike ms.now.items os.now.items n

abbrev pub compared_size : Comparing → ℕ
compared_size (Arrays vs ws n) = array_size vs.now.items n
compared_size (Objects ms os n) = object_size ms.now.items n

-- the same of values that are begun
abbrev pub begun_alike : Compared Comparing → Type 0
begun_alike (Known b) = IsTrue b
begun_alike (Open l) = IsAlike l

abbrev pub begun_size : Compared Comparing → ℕ
begun_size (Known b) = 0
begun_size (Open l) = compared_size l

-- of containers inside others, and of these
abbrev pub found_alike : Compared (Comparing × Comparing) → Type 0
found_alike (Known b) = IsTrue b
found_alike (Open x) = IsAlike x.0 × IsAlike x.1

abbrev pub found_size : Compared (Comparing × Comparing) → ℕ
found_size (Known b) = 0
found_size (Open x) = compared_size x.0 + compared_size x.1

-- and of all that wait
abbrev pub AllAlike : List Comparing → Type 0
AllAlike [] = ⊤
AllAlike (l ∷ ls) = IsAlike l × AllAlike ls

abbrev pub compared_sizes : List Comparing → ℕ
compared_sizes [] = 0
compared_sizes (l ∷ ls) = compared_size l + compared_sizes ls

-- with the ones in hand, if there are some
abbrev pub with_alike : Option Comparing → List Comparing → Type 0
with_alike None ls = ⊤
with_alike (Some l) ls = IsAlike l × AllAlike ls

abbrev pub with_size : Option Comparing → List Comparing → ℕ
with_size None ls = 0
with_size (Some l) ls = compared_size l + compared_sizes ls
