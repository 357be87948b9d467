-- Two walks side by side.
use Rattle.std.specs.Prelude.{◌≡◌, List}
use Rattle.sonic_text.specs.Trees.{Tree}
use Rattle.sonic_patch.specs.Internal.Tags.{Tag}
use Rattle.sonic_patch.specs.Internal.Walks.{Remains}
use Rattle.sonic_patch.specs.declared.walk.Walk.{Walk}

-- the walks through the values of two trees told the same so far: if what is to come is the same too, the trees are one
pub record AreInStep (x y : Tree) (one other : Walk) : Type 0 where
  pub rest : List Tag
  pub others : List Tag
  pub remain : Remains one rest
  pub others_remain : Remains other others
  pub same : rest ≡ others → x ≡ y
