-- What is still to be written of containers that are open: facts on which no public clause rests.
use Rattle.std.specs.Prelude.{ℕ, ◌+◌, ◌*◌, ◌==◌, List, [], ◌∷◌, ◌++◌, Option, Some, None, drop, map, if◌then◌else◌}
use Rattle.std.specs.declared.alloc.Global.{Global}
use Rattle.std.specs.declared.string.String.{String}
use Rattle.sonic_value.specs.CompactTexts.{items_text}
use Rattle.sonic_value.specs.Internal.ValueCounts.{items_value_count}
use Rattle.sonic_value.specs.Views.{tree, key_and_tree, elements_of, members_of}
use Rattle.sonic_value.specs.declared.value.Value.{Value}
use Rattle.sonic_value.specs.declared.value.show.Showing.{Showing}
use Rattle.sonic_value.specs.declared.value.show.Showing.TheVariants.{Array, Object}

-- what stands before the item at this position
abbrev pub before_item : ℕ → List ℕ
before_item n = if n == 0 then [] else 44 ∷ []

-- what is left of an array from an element on, and of an object from a member on
abbrev pub array_text : List Value → ℕ → List ℕ
array_text vs n = items_text (before_item n) (elements_of (map tree (drop n vs))) ++ 93 ∷ []

abbrev pub object_text : List (String Global × Value) → ℕ → List ℕ
object_text ms n = items_text (before_item n) (members_of (map key_and_tree (drop n ms))) ++ 125 ∷ []

-- and how much that is
abbrev pub array_size : List Value → ℕ → ℕ
array_size vs n = 1 + 2 * items_value_count (elements_of (map tree (drop n vs)))

abbrev pub object_size : List (String Global × Value) → ℕ → ℕ
object_size ms n = 1 + 2 * items_value_count (members_of (map key_and_tree (drop n ms)))

-- the same of a container whose opening bracket is written
abbrev pub shown_text : Showing → List ℕ
shown_text (Array vs n) = array_text vs.now.items n
shown_text (Object ms n) = object_text ms.now.items n

abbrev pub shown_size : Showing → ℕ
shown_size (Array vs n) = array_size vs.now.items n
shown_size (Object ms n) = object_size ms.now.items n

-- the same of a value that is begun, which may be none
abbrev pub begun_text : Option Showing → List ℕ
begun_text None = []
begun_text (Some l) = shown_text l

abbrev pub begun_size : Option Showing → ℕ
begun_size None = 0
begun_size (Some l) = shown_size l

-- of a container that is begun inside another one, and of that one
abbrev pub next_text : Option (Showing × Showing) → List ℕ
next_text None = []
next_text (Some x) = shown_text x.0 ++ shown_text x.1

abbrev pub next_size : Option (Showing × Showing) → ℕ
next_size None = 0
next_size (Some x) = shown_size x.0 + shown_size x.1

-- and of all that wait, the outermost first
abbrev pub shown_texts : List Showing → List ℕ
shown_texts [] = []
shown_texts (l ∷ ls) = shown_texts ls ++ shown_text l

abbrev pub shown_sizes : List Showing → ℕ
shown_sizes [] = 0
shown_sizes (l ∷ ls) = shown_size l + shown_sizes ls

-- with the one in hand, if there is one
abbrev pub all_shown : Option Showing → List Showing → List ℕ
all_shown None ls = []
all_shown (Some l) ls = shown_text l ++ shown_texts ls

abbrev pub all_shown_size : Option Showing → List Showing → ℕ
all_shown_size None ls = 0
all_shown_size (Some l) ls = shown_size l + shown_sizes ls
