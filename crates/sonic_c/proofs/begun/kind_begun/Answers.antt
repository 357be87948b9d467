use Rattle.std.proofs.Common.{◌∙◌}
use Rattle.sonic_c.proofs.ContainerLemmas.{bracket_begun}
use Rattle.sonic_c.proofs.begun.kind_begun.Goals as goal
use Rattle.sonic_text.specs.Places.{byte}

pub returns-else-byte_at-eq123 : goal.returns-else-byte_at-eq123
returns-else-byte_at-eq123 c =
    bracket_begun c.requires.begun.0 (byte c.args.text.now c.args.start) (rw c.requires.start c.requires.begun.1) c.requires.begun.2
    (λ e. c.if-byte_at-eq123.false (c.byte_at.ensures.value ∙ e))
