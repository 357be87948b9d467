use Rattle.std.proofs.Common.{◌<◌, ◌-◌, ℕ, get_or}
use Rattle.sonic_index.specs.Internal.Items.{IsPartLeft, IsUnder}
use Rattle.sonic_index.proofs.PathLemmas.{no_cell}
use Rattle.sonic_index.proofs.find.element.Given as goal

abbrev pub invariant-loop-low : goal.invariant-loop-low
invariant-loop-low l = record {
  later : l.i < l.low;
  inside : (d : ℕ) → l.i < d → d < l.high → IsUnder l.cells l.i d;
  left : IsPartLeft l.text l.cells (get_or l.cells l.i no_cell).start l.number l.low l.high;
}

abbrev pub decreases-loop-low : goal.decreases-loop-low
decreases-loop-low l = l.high - l.low
