use Rattle.std.proofs.Common.{◌≡◌, ◌+◌, arith, rules}
use Rattle.sonic_patch.proofs.PieceLemmas.{last_token, more_tokens, others_said, spoils}
use Rattle.sonic_patch.proofs.pointer.token_count.Goals as goal

pub returns-then-is_token-clause-some : goal.returns-then-is_token-clause-some
returns-then-is_token-clause-some c = c.pieces.invariant.some 1 (last_token c.in_default.ensures (c.is_token-2.ensures.yes c.if-is_token.true))

pub returns-else-is_token-clause-none : goal.returns-else-is_token-clause-none
returns-else-is_token-clause-none c = λ _ tokens are.
    let others = c.pieces.invariant.all tokens are in
    spoils c.in_default.ensures (c.is_token-2.ensures.no c.if-is_token.false) others.0 others.1

pub returns-then-not-is_token-clause-none : goal.returns-then-not-is_token-clause-none
returns-then-not-is_token-clause-none c = λ _ tokens are.
    let others = c.pieces.invariant.all tokens are in
    spoils c.in-Before.ensures.0 (c.is_token.ensures.no c.if-not-is_token.true) others.0 others.1

pub pieces-preserved : goal.pieces-preserved
pieces-preserved c =
    let v = c.pieces.invariant in
    let first = c.in-Before.ensures in
    record {
      text = search rules;
      room = omega (arith, v.room, first.1);
      some = λ n say.
          let same : c.pieces.count + (1 + n) ≡ c.pieces.count + 1 + n = omega arith in
          rw same at (v.some (1 + n) (more_tokens first.0 (c.is_token.ensures.yes c.if-not-is_token.false) say));
      all = λ tokens are. let others = v.all tokens are in others_said first.0 others.1;
    }
