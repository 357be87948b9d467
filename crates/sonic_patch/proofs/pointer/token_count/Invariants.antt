use Rattle.std.proofs.Common.{ℕ, ◌+◌, ◌≤◌, List, length}
use denote.Text.{Utf8}
use denote.Shadow.{shadow}
use Rattle.sonic_patch.specs.Pointers.{pieces, Token, AreTokens}
use Rattle.sonic_patch.specs.Internal.Pieces.{SayTokens}
use Rattle.sonic_patch.proofs.pointer.token_count.Given as goal

-- what the pieces of the rest say comes after the tokens that were counted
abbrev pub invariant-pieces : goal.invariant-pieces
invariant-pieces l = record {
  text : shadow (Utf8 l.rest);
  room : l.count + length l.rest ≤ length l.fn.text;
  some : (n : ℕ) → SayTokens (pieces l.rest) n → SayTokens (pieces l.fn.text) (l.count + n);
  all : (tokens : List Token) → AreTokens (pieces l.fn.text) tokens → (others : List Token) × AreTokens (pieces l.rest) others;
}

abbrev pub decreases-pieces : goal.decreases-pieces
decreases-pieces l = length l.rest
