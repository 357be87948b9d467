-- What private calls say of the items of a container.
use Rattle.std.specs.Prelude.{◌≡◌, ℕ, List, length, Result, Ok, Err}
use Rattle.sonic_parser.specs.declared.fault.Fault.{Fault as Cause}
use Rattle.sonic_parser.specs.declared.fault.Fault.TheVariants.{OutOfMemory, At}
use Rattle.sonic_text.specs.Documents.{IsRootFault}
use Rattle.sonic_text.specs.Places.{after_space}
use Rattle.sonic_text.specs.declared.kind.Kind.{Kind}
use Rattle.sonic_text.specs.declared.stop.Stop.{Stop}
use Rattle.sonic_c.specs.Containers.{LacksItem}
use Rattle.sonic_c.specs.Internal.Begun.{IsTrailing}
use Rattle.sonic_c.specs.Statuses.{status_ok, status_document_error, status_no_memory, status_end}
use Rattle.sonic_c.specs.Told.{AreNumbersOf}
use Rattle.sonic_c.specs.Values.{ValueCells}
use Rattle.sonic_c.specs.declared.fault.Fault.{Fault}

-- no value begins the text, for this reason, and in its container no item comes after n others
abbrev pub IsItemStop : List ℕ → Kind → ℕ → Stop → Type 0
IsItemStop t kind n s = IsRootFault t s × LacksItem t kind n

-- nothing but white space follows the container that ends at e, or what follows is told
pub data TellsClosing (t : List ℕ) (e : ℕ) (before after : Fault) (status : ℕ) : Type 0 where
  closes : after_space t e ≡ length t → status ≡ status_end → after ≡ before → TellsClosing t e before after status
  goes_past : (s : Stop) → IsTrailing t e s → status ≡ status_document_error → AreNumbersOf t s after → TellsClosing t e before after status

-- how many items there are is told, or why that isn't known
abbrev pub TellsCount : List ℕ → Result ℕ Cause → ValueCells ℕ → ValueCells ℕ → ℕ → Type 0
TellsCount t (Ok n) before after status = (status ≡ status_ok) × (after ≡ record before { value = n })
TellsCount t (Err OutOfMemory) before after status = (status ≡ status_no_memory) × (after ≡ before)
TellsCount t (Err (At s)) before after status = (status ≡ status_document_error) × AreNumbersOf t s after.error × (after.value ≡ before.value)
