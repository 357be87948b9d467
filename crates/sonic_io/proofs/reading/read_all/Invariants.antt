use Rattle.std.proofs.Common.{◌≡◌, ◌+◌, ◌-◌, ◌≤◌, length, vec_len}
use Rattle.sonic_io.specs.Outside.{Gave}
use Rattle.sonic_io.specs.declared.reading.TheConstants.{LIMIT, ROOM}
use Rattle.sonic_io.proofs.reading.read_all.Given as goal

abbrev pub invariant-loop-room : goal.invariant-loop-room
invariant-loop-room g l = record {
  within : vec_len l.bytes ≤ LIMIT + 1;
  space : length l.room ≡ ROOM;
  given : Gave (g.S.Source.left l.initial.source) (g.S.Source.left l.source) l.bytes.items;
  calm : g.S.Source.faults l.source ≡ g.S.Source.faults l.initial.source;
}

abbrev pub decreases-loop-room : goal.decreases-loop-room
decreases-loop-room g l = (LIMIT + 1) - vec_len l.bytes
