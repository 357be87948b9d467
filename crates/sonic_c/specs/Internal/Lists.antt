-- What a private call says that keeps a list.
use Rattle.std.specs.Prelude.{◌≡◌, ℕ, length}
use Rattle.sonic_c.specs.Kept.{PathList}
use Rattle.sonic_c.specs.Statuses.{status_ok, status_no_memory}
use Rattle.sonic_c.specs.declared.paths.Paths.{Paths}

-- the list is kept, or memory ran out
pub data KeepsPaths (list : PathList) (before after : Paths) (status : ℕ) : Type 0 where
  kept_all : status ≡ status_ok → after.list ≡ list → after.count ≡ length list.paths → KeepsPaths list before after status
  kept_none : status ≡ status_no_memory → after ≡ before → KeepsPaths list before after status
