use Rattle.std.proofs.Common.{◌≡◌, ◌≢◌, ◌≤◌, ◌∙◌, get_or, length}
use Rattle.sonic_patch.proofs.IndexLemmas.{index_read, index_unread}
use Rattle.sonic_patch.proofs.resolve.index_of.Goals as goal
use Rattle.sonic_patch.proofs.resolve.index_of.Goals.{else-first-eq48-via-then-first-eq48+else-token-gt1, else-first-eq48-via-else-first-eq48}

pub returns-in-Ok : goal.returns-in-Ok
returns-in-Ok c =
    let t = c.args.token.now in
    let first : c.byte_at-first.result ≡ get_or c.args.token.now 0 0 = rw c.as_bytes.ensures.value at c.byte_at-first.ensures.value in
    let sign : get_or c.args.token.now 0 0 ≢ 43 = λ e. c.if-first-eq43.false (first ∙ e) in
    let short : get_or c.args.token.now 0 0 ≡ 48 → length c.args.token.now ≤ 1 = elim c.else-first-eq48.branch [
      | else-first-eq48-via-then-first-eq48+else-token-gt1 w ↦ λ e. w.if-token-gt1.false
      | else-first-eq48-via-else-first-eq48 w ↦ λ e. absurd (w.if-first-eq48.false (first ∙ e))
    ] in
    index_read t c.in-Ok.i sign short c.in-Ok.ensures.value.0.0 c.in-Ok.ensures.value.0.1

pub returns-in-Err : goal.returns-in-Err
returns-in-Err c =
    let first : c.byte_at-first.result ≡ get_or c.args.token.now 0 0 = rw c.as_bytes.ensures.value at c.byte_at-first.ensures.value in
    let sign : get_or c.args.token.now 0 0 ≢ 43 = λ e. c.if-first-eq43.false (first ∙ e) in
    index_unread c.args.token.now sign c.in-Err.ensures.value.0
