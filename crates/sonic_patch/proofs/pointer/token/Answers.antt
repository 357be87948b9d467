use Rattle.std.proofs.Common.{string_bytes, rules}
use Rattle.sonic_patch.proofs.EscapeLemmas.{joined}
use Rattle.sonic_patch.proofs.pointer.token.Goals as goal

pub escapes-preserved : goal.escapes-preserved
escapes-preserved c =
    let escape = c.in-Escape.ensures in
    let low = c.in_ok-push.ensures.ascii escape.ascii in
    record {
      text = search rules;
      token = escape.said c.escapes.invariant.token;
      says = λ u x.
          rw (c.in_ok-push.ensures.bytes, low, c.in_ok-push_str.ensures.bytes, joined (string_bytes c.escapes.made) c.in-Escape.plain.now u c.in-Escape.c)
          (c.escapes.invariant.says _ (escape.says u x));
    }
