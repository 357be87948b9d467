-- What the laws say of texts that are read, and of schemas that are filled.
use Rattle.std.specs.Prelude.{◌≡◌}
use Rattle.sonic_find.specs.Laws.{HoldsOrHasOneReason}
use Rattle.sonic_text.specs.Trees.{Tree}
use Rattle.sonic_text.specs.declared.stop.Stop.{Stop}

-- one tree comes of it, or none does for exactly one reason, and never both
pub record HasOneTreeOrReason (Makes : Tree → Type 0) (Fails : Stop → Type 0) : Type 0 where
  pub outcome : HoldsOrHasOneReason ((x : Tree) × Makes x) Fails
  pub one_tree : (x y : Tree) → Makes x → Makes y → x ≡ y
