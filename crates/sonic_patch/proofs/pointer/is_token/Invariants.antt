use Rattle.std.proofs.Common.{length}
use denote.Text.{Utf8}
use denote.Shadow.{shadow}
use Rattle.sonic_patch.specs.Internal.Pieces.{IsTokenText}
use Rattle.sonic_patch.proofs.pointer.is_token.Given as goal

-- the rest is a token exactly where the whole piece is
abbrev pub invariant-escapes : goal.invariant-escapes
invariant-escapes l = record {
  text : shadow (Utf8 l.rest);
  all : IsTokenText l.rest → IsTokenText l.fn.piece;
  rest : IsTokenText l.fn.piece → IsTokenText l.rest;
}

abbrev pub decreases-escapes : goal.decreases-escapes
decreases-escapes l = length l.rest
