-- What is told of an error of a schema is why it isn't filled.
use Rattle.std.proofs.Common.{ℕ, List, true}
use Rattle.sonic_error.specs.declared.error.Error.{Error}
use Rattle.sonic_text.specs.Trees.{Tree}
use Rattle.sonic_value.specs.Reading.{IsUnreadError, out_of_memory as no_memory_read, unread}
use Rattle.sonic_value.specs.Schemas.{IsFillError, out_of_memory as no_memory_filled, stopped}
use Rattle.sonic_c.proofs.ToldLemmas.{numbers_at}
use Rattle.sonic_c.specs.Fills.{IsNoSchema, not_read, IsFillRefused}
use Rattle.sonic_c.specs.Internal.Texts.{OrOutOfMemory, refuses, ran_out}
use Rattle.sonic_c.specs.Internal.Told.{TellsError, TellsErrorAs, no_memory, told}
use Rattle.sonic_c.specs.Statuses.{status_bad_schema}
use Rattle.sonic_c.specs.declared.fault.Fault.{Fault}

-- why bytes aren't read as a schema is told, or memory ran out
pub unread_told : {b : List ℕ} {e : Error} {before after : Fault} {status : ℕ} → IsUnreadError b true e → TellsErrorAs status_bad_schema e before after status
    → OrOutOfMemory (IsNoSchema b) before after status
unread_told x (no_memory m is same) = ran_out is same
unread_told (no_memory_read plain) (told other is numbers) = absurd (other plain.code)
unread_told (unread s x at) (told other is numbers) = refuses (not_read s x is (numbers_at at numbers))

-- and so is why it isn't filled
pub unfilled_told : {Refuses : Fault → Fault → ℕ → Type 0} {t : List ℕ} {schema : Tree} {e : Error} {before after : Fault} {status : ℕ}
    → (IsFillRefused t schema after status → Refuses before after status) → IsFillError t true schema e → TellsError e before after status
    → OrOutOfMemory Refuses before after status
unfilled_told by x (no_memory m is same) = ran_out is same
unfilled_told by (no_memory_filled plain) (told other is numbers) = absurd (other plain.code)
unfilled_told by (stopped s x at) (told other is numbers) = refuses (by (record { stop = s; unfilled = x; numbers = numbers_at at numbers; says = is }))
