use Rattle.std.proofs.Common.{rules}
use Rattle.std.proofs.Math.Seq.{append_snoc}
use Rattle.sonic_patch.specs.Pointers.AreTokens.{no_more_tokens, one_more_token}
use Rattle.sonic_patch.proofs.PieceLemmas.{others_said}
use Rattle.sonic_patch.proofs.pointer.tokens_between.Goals as goal

pub returns : goal.returns
returns c =
    rw c.in_ok-push-2.ensures.items
    (c.pieces.invariant.says _ (rw c.in_default.ensures (one_more_token c.in_ok-shared-2.ensures no_more_tokens)))

pub pieces-preserved : goal.pieces-preserved
pieces-preserved c =
    let v = c.pieces.invariant in
    let first = c.in-Before.ensures in
    record {
      text = search rules;
      some = others_said first.0 v.some.1;
      says = λ others are.
          rw (c.in_ok-push.ensures.items, append_snoc c.pieces.tokens.items c.in_ok-shared.field-0 others)
          (v.says _ (rw first.0 (one_more_token c.in_ok-shared.ensures are)));
    }
