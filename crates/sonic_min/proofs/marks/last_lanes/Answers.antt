use Rattle.std.proofs.Common.{refl, arith}
use Rattle.std.proofs.lemmas.Simd.{get_or-replicate}
use Rattle.sonic_min.proofs.marks.last_lanes.Goals as goal

pub loop-i-init : goal.loop-i-init
loop-i-init c = record {
  long = refl;
  within = omega arith;
  copied = λ k h. absurd (omega (arith, h));
  zeros = λ k from h. get_or-replicate 64 k 0 0 h;
}
