-- What a slot tells its path in the end.
use Rattle.std.specs.Prelude.{◌≡◌, ◌≢◌, ℕ, List, Some, length, slice_get}
use Rattle.sonic_error.specs.declared.code.ErrorCode.TheVariants.{GetInEmptyObject}
use Rattle.sonic_find.specs.declared.outcome.PathOutcome.{PathOutcome}
use Rattle.sonic_find.specs.declared.outcome.PathOutcome.TheVariants.{Missing, Fails}
use Rattle.sonic_text.specs.declared.stop.Stop.{Stop}

-- a slot tells that a key is missing where its path fails in an empty object, and else what it told
pub data IsTelling {V : Type 0} : PathOutcome V → PathOutcome V → Type 0 where
  tells_empty : {q : ℕ} → IsTelling (Fails (record { place = q; code = GetInEmptyObject })) (Missing q)
  tells_same : {x : PathOutcome V} → ((s : Stop) → x ≡ Fails s → s.code ≢ GetInEmptyObject) → IsTelling x x

-- so all slots do
pub record AreTellings {V : Type 0} (before now : List (PathOutcome V)) : Type 0 where
  pub long : length now ≡ length before
  pub each : (k : ℕ) (x y : PathOutcome V) → slice_get before k ≡ Some x → slice_get now k ≡ Some y → IsTelling x y
