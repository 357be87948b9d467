-- What private calls say that may make a text.
use Rattle.std.specs.Prelude.{◌≡◌, ℕ}
use Rattle.sonic_c.specs.Statuses.{status_no_memory}
use Rattle.sonic_c.specs.declared.fault.Fault.{Fault}

-- it is refused so, or memory ran out
pub data OrOutOfMemory (Refuses : Fault → Fault → ℕ → Type 0) (before after : Fault) (status : ℕ) : Type 0 where
  refuses : Refuses before after status → OrOutOfMemory Refuses before after status
  ran_out : status ≡ status_no_memory → after ≡ before → OrOutOfMemory Refuses before after status
