use Rattle.std.proofs.Common.{◌≡◌, ◌<◌, length, ◌++◌, sym, ◌∙◌, rules, append_assoc, append-nil}
use Rattle.std.proofs.Output.{has_written_append, has_written_of_eq}
use Rattle.std.proofs.lemmas.Str.{utf8_lossy_chunk, utf8_lossy_last_chunk, utf8_lossy_empty}
use Rattle.std.specs.Str.Lossy.{replacement_bytes}
use Rattle.sonic_error.proofs.fragment.LossyDisplay.fmt.Goals as goal

pub loop-chunk-preserved-in-Continue-branch-2 : goal.loop-chunk-preserved-in-Continue-branch-2
loop-chunk-preserved-in-Continue-branch-2 g c = λ plain.
    let so_far = c.loop-chunk.invariant plain in
    let steps = c.in-Some.ensures.steps in
    let some : 0 < length c.in-Some.chunk.invalid.now = search rules in
    let text = utf8_lossy_chunk _ _ _ _ steps.0 steps.3.0 steps.3.1 some in
    let valid : c.valid.result.now ≡ c.in-Some.chunk.valid.now = c.valid.ensures in
    let wrote = has_written_append _ _ _ _ c.valid.result.now c.write_str.new.self so_far.1 (search rules) in (
      so_far.0 ++ c.valid.result.now ++ replacement_bytes,
      has_written_append _ _ _ _ replacement_bytes _ wrote (search rules),
      rw valid (simp append_assoc (rw text at so_far.2)),
    )

pub loop-chunk-preserved : goal.loop-chunk-preserved
loop-chunk-preserved g c = λ plain.
    let so_far = c.loop-chunk.invariant plain in
    let steps = c.in-Some.ensures.steps in
    let none : length c.in-Some.chunk.invalid.now ≡ 0 = search rules in
    let text = utf8_lossy_last_chunk _ _ _ _ steps.0 steps.3.0 none (steps.2 none) in
    let valid : c.valid.result.now ≡ c.in-Some.chunk.valid.now = c.valid.ensures in (
      so_far.0 ++ c.valid.result.now,
      has_written_append _ _ _ _ _ _ so_far.1 (search rules),
      rw (valid, append_assoc) (rw text at so_far.2),
    )

pub returns-clause-writes : goal.returns-clause-writes
returns-clause-writes g c = λ plain _.
    let so_far = c.loop-chunk.invariant plain in
    has_written_of_eq _ _ _ _ _ (sym (append-nil _) ∙ rw (utf8_lossy_empty _ c.in-None.ensures.steps.0) at so_far.2) so_far.1
