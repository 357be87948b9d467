use Rattle.std.proofs.Common.{◌+◌, ◌-◌, ◌≤◌, ◌∙◌, ap, drop, length, get_or, arith}
use Rattle.std.specs.Prelude.{slice_index}
use Rattle.std.proofs.lemmas.List.{length-drop, length-take}
use Rattle.sonic_text.specs.declared.kind.Kind.TheVariants.{Array}
use Rattle.sonic_text.specs.Places.{after_space}
use Rattle.sonic_parser.specs.Internal.Skipping.{AreItemsPassed}
use Rattle.sonic_parser.proofs.NumberRunLemmas.{elements_passed, elements_in_text}
use Rattle.sonic_parser.proofs.SpaceLemmas.{chunk_byte}
use Rattle.sonic_parser.proofs.number_run.series_end.Goals as goal

pub loop-block-preserved : goal.loop-block-preserved
loop-block-preserved c =
    let t = c.args.text.now in
    let p = c.loop-block.place in
    let n = c.whole_elements-passed.result in
    let i = c.loop-block.invariant in
    let first = c.in-Some.ensures.cases in
    let within : p + 64 ≤ length t = omega (arith, first.enough, length-take (length t - p) (drop p t), length-drop p t) in
    let are = elements_in_text (slice_index c.in-Some.block.now) t p n (λ k h. ap (λ bytes. get_or bytes k 0) first.same ∙ chunk_byte t 64 p k h within) c.whole_elements-passed.ensures in
    let step : AreItemsPassed Array t p (after_space t (p + n)) = elements_passed t p n are (omega (arith, c.if-passed-lt-FEWEST.false)) in
    record {
      later = omega (arith, i.later, c.skip_space-place.ensures.later);
      within = c.skip_space-place.ensures.within;
      items = λ m root kinds top before. rw c.skip_space-place.ensures.place (step m root kinds top (i.items m root kinds top before));
    }
