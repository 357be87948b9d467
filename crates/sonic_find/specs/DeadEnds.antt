-- Where a path comes to nothing.
use Rattle.std.specs.Prelude.{◌≡◌, ℕ, List}
use Rattle.sonic_error.specs.declared.code.ErrorCode.TheVariants.{GetUnknownKeyInObject}
use Rattle.sonic_text.specs.declared.stop.Stop.{Stop}
use Rattle.sonic_text.specs.Paths.{Path}
use Rattle.sonic_pointer.specs.declared.rule.KeyRule.{KeyRule}
use Rattle.sonic_find.specs.Paths.{fails, cut, lacks, EvaluatesBy}

-- the path fails so from the place i, or is cut
pub data IsPathStop (rule : KeyRule) (t : List ℕ) (i : ℕ) (path : Path) (s : Stop) : Type 0 where
  fails_so : EvaluatesBy rule t i path (fails s) → IsPathStop rule t i path s
  cut_so : EvaluatesBy rule t i path (cut s) → IsPathStop rule t i path s

-- the path stops so from the place i: it fails, is cut, or lacks its key
pub data IsDeadEnd (rule : KeyRule) (t : List ℕ) (i : ℕ) (path : Path) (s : Stop) : Type 0 where
  stops_so : IsPathStop rule t i path s → IsDeadEnd rule t i path s
  lacks_so : {q : ℕ} → EvaluatesBy rule t i path (lacks q) → s ≡ record { place = q; code = GetUnknownKeyInObject } → IsDeadEnd rule t i path s
