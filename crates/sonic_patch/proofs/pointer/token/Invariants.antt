use Rattle.std.proofs.Common.{◌++◌, length, string_bytes}
use denote.Text.{Utf8}
use denote.Shadow.{shadow}
use Rattle.sonic_patch.specs.Pointers.{Token, SaysToken}
use Rattle.sonic_patch.specs.Internal.Pieces.{IsTokenText}
use Rattle.sonic_patch.proofs.pointer.token.Given as goal

-- what the rest says comes behind what is made
abbrev pub invariant-escapes : goal.invariant-escapes
invariant-escapes l = record {
  text : shadow (Utf8 l.rest);
  token : IsTokenText l.rest;
  says : (u : Token) → SaysToken l.rest u → SaysToken l.fn.piece (string_bytes l.made ++ u);
}

abbrev pub decreases-escapes : goal.decreases-escapes
decreases-escapes l = length l.rest
