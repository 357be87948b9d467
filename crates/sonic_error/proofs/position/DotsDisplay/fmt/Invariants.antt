-- So many dots are written.
use Rattle.std.specs.Fmt.{HasWritten, IsPlainFormatter}
use Rattle.sonic_error.specs.Texts.{dots}
use Rattle.sonic_error.proofs.position.DotsDisplay.fmt.Given as goal

abbrev pub invariant-loop-dot : goal.invariant-loop-dot
invariant-loop-dot g l =
    IsPlainFormatter l.initial.f → HasWritten g.W.Write.write_str_gives l.initial.f (dots l._dot) l.f
