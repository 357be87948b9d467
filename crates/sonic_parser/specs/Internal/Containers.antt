-- What the calls between the items of a container say to the skipper.
use Rattle.std.specs.Prelude.{◌≡◌, ◌≢◌, ℕ, ◌+◌, ◌<◌, ◌≤◌, List, length}
use Rattle.sonic_text.specs.declared.kind.Kind.{Kind}
use Rattle.sonic_text.specs.Places.{byte, after_space}
use Rattle.sonic_text.specs.Values.{closing}
use Rattle.sonic_parser.specs.declared.container.AfterItem.{AfterItem}
use Rattle.sonic_parser.specs.declared.container.AfterItem.TheVariants.{Item, End}
use Rattle.sonic_parser.specs.Containers.{IsEnd}

-- after the bracket at i the first item is expected, or the closing bracket comes
abbrev pub IsAfterBracket : List ℕ → Kind → ℕ → AfterItem → Type 0
IsAfterBracket t kind i (Item h) = (i < h) × (h ≤ length t) × (h ≡ after_space t (i + 1)) × (byte t h ≢ closing kind)
IsAfterBracket t kind i (End j) = (i < j) × (j ≤ length t) × IsEnd t kind (i + 1) j
