use Rattle.std.proofs.Common.{◌≡◌, length, map, take}
use Rattle.sonic_find.specs.Internal.Columns.{key_path, AreKeysOf}
use Rattle.sonic_find.proofs.columns.keys_of.Given as goal

abbrev pub invariant-loop-i : goal.invariant-loop-i
invariant-loop-i l = record {
  long : length l.found.items ≡ length l.view.paths;
  found : AreKeysOf (λ k. k.now) l.view.paths l.found.items;
}

abbrev pub invariant-loop-order : goal.invariant-loop-order
invariant-loop-order l = record {
  long : length l.found.items ≡ length l.view.paths;
  found : AreKeysOf (λ k. k.now) l.view.paths l.found.items;
}

abbrev pub invariant-loop-key : goal.invariant-loop-key
invariant-loop-key l = map key_path (map (λ k. k.now) l.keys.items) ≡ take l.key-index l.view.paths
