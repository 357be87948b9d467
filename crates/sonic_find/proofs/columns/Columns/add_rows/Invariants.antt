use Rattle.std.proofs.Common.{◌≡◌, ◌-◌, ◌≤◌, ℕ, List, length, map}
use Rattle.sonic_find.specs.Internal.Columns.{key_path, keys_of, AreReady, HasRows}
use Rattle.sonic_find.proofs.columns.Columns.add_rows.Given as goal
use Rattle.sonic_pointer.specs.declared.rule.KeyRule.TheVariants.{First}
use Rattle.sonic_text.specs.Paths.{Path}
use Rattle.sonic_text.specs.declared.kind.Kind.TheVariants.{Array}

abbrev pub invariant-rows : goal.invariant-rows
invariant-rows l = record {
  kept : l.self ≡ record l.fn.self { known = l.self.known; row = l.self.row };
  moved : l.walk ≡ record l.fn.walk { place = l.walk.place };
  later : l.fn.walk.place ≤ l.place;
  within : l.place ≤ length l.fn.walk.text;
  ready : AreReady l.fn.walk.text l.self;
  rows : (paths : List Path) (i : ℕ) → map key_path (keys_of l.fn.self) ≡ paths → HasRows First l.fn.walk.text paths Array i l.fn.table l.fn.walk.place
      → HasRows First l.fn.walk.text paths Array i l.table l.place;
}

abbrev pub decreases-rows : goal.decreases-rows
decreases-rows l = length l.fn.walk.text - l.place
