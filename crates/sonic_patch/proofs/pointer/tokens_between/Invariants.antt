use Rattle.std.proofs.Common.{◌++◌, List, length}
use denote.Text.{Utf8}
use denote.Shadow.{shadow}
use Rattle.sonic_patch.specs.Pointers.{pieces, Token, AreTokens}
use Rattle.sonic_patch.proofs.pointer.tokens_between.Given as goal

-- what the pieces of the rest say comes after the tokens that were made
abbrev pub invariant-pieces : goal.invariant-pieces
invariant-pieces l = record {
  text : shadow (Utf8 l.rest);
  some : (others : List Token) × AreTokens (pieces l.rest) others;
  says : (others : List Token) → AreTokens (pieces l.rest) others → AreTokens (pieces l.fn.text) (l.tokens.items ++ others);
}

abbrev pub decreases-pieces : goal.decreases-pieces
decreases-pieces l = length l.rest
