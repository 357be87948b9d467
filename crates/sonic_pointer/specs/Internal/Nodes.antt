-- Nodes in order.
use Rattle.std.specs.Ordering.{nat_cmp}
use Rattle.std.specs.Cmp.Lexicographic.{slice_cmp}
use Rattle.std.specs.declared.cmp.Ordering.{Ordering}
use Rattle.std.specs.declared.cmp.Ordering.TheVariants.{Less, Greater}
use Rattle.sonic_text.specs.Paths.{Node, key, index}

-- keys by their bytes, before indexes by their number
abbrev pub node_cmp : Node → Node → Ordering
node_cmp (key a) (key b) = slice_cmp nat_cmp a b
node_cmp (key a) (index n) = Less
node_cmp (index n) (key b) = Greater
node_cmp (index n) (index m) = nat_cmp n m
