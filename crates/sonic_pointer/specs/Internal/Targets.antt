-- A node that is looked for.
use Rattle.std.specs.Prelude.{◌≡◌, ℕ, List}
use Rattle.sonic_text.specs.Strings.{IsString, strict}
use Rattle.sonic_text.specs.Paths.{Node, key}
use Rattle.sonic_pointer.specs.Nodes.{node_of}
use Rattle.sonic_pointer.specs.declared.target.Target.{Target}
use Rattle.sonic_pointer.specs.declared.target.Target.TheVariants as variant

-- it is looked for
abbrev pub IsTarget : Target → Node → Type 0
IsTarget (variant.Node target) node = node ≡ node_of target
IsTarget (variant.Bytes bytes) node = node ≡ key bytes.now
IsTarget (variant.Text text start end) node = (b : List ℕ) × IsString strict text.now start end b × (node ≡ key b)
