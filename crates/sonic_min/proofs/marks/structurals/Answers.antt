use Rattle.std.proofs.Common.{ℕ}
use Rattle.std.proofs.lemmas.Simd.{zip2_splat}
use Rattle.sonic_min.specs.Internal.Marks.{is_structural}
use Rattle.sonic_min.proofs.PointLanes.{ones_if_equal, either_lane, lane_bits}
use Rattle.sonic_min.proofs.marks.structurals.Goals as goal

pub returns : goal.returns
returns c k h =
    let v = c.args.lanes in
    let long = c.fits-lanes.0 in
    let is = λ (byte : ℕ). zip2_splat ones_if_equal v 64 byte long in
    let lanes = either_lane _ _ v (either_lane _ _ v (either_lane _ _ v (either_lane _ _ v (either_lane _ _ v (is 44) (is 58)) (is 91)) (is 93)) (is 123)) (is 125) in
    lane_bits _ is_structural tt v _ long c.fits-lanes.1 lanes k h
