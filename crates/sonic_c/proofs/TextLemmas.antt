-- What is written to a room and told of a text is what the call that makes it comes to.
use Rattle.std.proofs.Common.{◌≡◌, refl, ℕ, List, length, true, false, Result, Ok, Err}
use Rattle.std.specs.Prelude.{IfErr}
use Rattle.sonic_error.specs.declared.error.Error.{Error}
use Rattle.sonic_find.specs.Documents.{IsInvalid, no_root, text_after, broken_text, IsInvalidError, out_of_memory, invalid}
use Rattle.sonic_c.proofs.ToldLemmas.{numbers_at}
use Rattle.sonic_c.specs.Codes.{placed}
use Rattle.sonic_c.specs.Internal.Texts.{OrOutOfMemory, refuses, ran_out}
use Rattle.sonic_c.specs.Internal.Told.{TellsError, no_memory, told}
use Rattle.sonic_c.specs.Texts.{IsMadeCall, made_refused, made_unknown, IsNoDocument}
use Rattle.sonic_c.specs.Values.{TextCells}
use Rattle.sonic_c.specs.declared.fault.Fault.{Fault}
use Rattle.sonic_text.specs.declared.stop.Stop.{Stop}

abbrev pub cells : List ℕ → ℕ → Fault → TextCells
cells room wanted error = record { room = room; wanted = wanted; error = error }

-- the cells after a text was written, of these bytes, where the error is kept
pub cells_written : {text b now : List ℕ} {wanted : ℕ} {error before : Fault} (room : List ℕ) → text ≡ b → now ≡ placed text room → wanted ≡ length text
    → error ≡ before → cells now wanted error ≡ cells (placed b room) (length b) before
cells_written room same bytes counted kept = rw (bytes, counted, same, kept) refl

-- what is refused is told, or memory ran out
pub refusal_call : {Makes : List ℕ → Type 0} {Refuses : Fault → Fault → ℕ → Type 0} {room : List ℕ} {wanted : ℕ} {before after : Fault} {status : ℕ}
    → OrOutOfMemory Refuses before after status → IsMadeCall Makes Refuses (cells room wanted before) (cells room wanted after) status
refusal_call (refuses x) = made_refused x refl refl
refusal_call (ran_out is same) = made_unknown is (rw same refl)

-- so it is with the error of a text that is no document
pub document_refused : {Refuses : Fault → Fault → ℕ → Type 0} {t : List ℕ} {e : Error} {before after : Fault} {status : ℕ}
    → (IsNoDocument t before after status → Refuses before after status) → IsInvalidError t true e → TellsError e before after status
    → OrOutOfMemory Refuses before after status
document_refused by x (no_memory m is same) = ran_out is same
document_refused by (out_of_memory plain) (told other is numbers) = absurd (other plain.code)
document_refused by (invalid s x at) (told other is numbers) = refuses (by (is, record { stop = s; invalid = x; numbers = numbers_at at numbers }))

-- why a text in UTF-8 is no document is why its bytes are none
pub text_invalid : {t : List ℕ} {s : Stop} → IsInvalid t false s → IsInvalid t true s
text_invalid (no_root f) = no_root f
text_invalid (text_after x l e) = text_after x l e
text_invalid (broken_text x b n e) = absurd cc

-- and so with the error that says it
text_error : {t : List ℕ} {e : Error} → IsInvalidError t false e → IsInvalidError t true e
text_error (out_of_memory plain) = out_of_memory plain
text_error (invalid s i at) = invalid s (text_invalid i) at

pub text_errors : {A : Type 0} (result : Result A Error) {text bytes : List ℕ} → text ≡ bytes → IfErr result (IsInvalidError text false)
    → IfErr result (IsInvalidError bytes true)
text_errors (Ok value) e holds = tt
text_errors (Err error) e holds = text_error (rw e at holds)

-- what is refused in one way is so in another
pub refused_by : {Refuses Other : Fault → Fault → ℕ → Type 0} {before after : Fault} {status : ℕ} → (Refuses before after status → Other before after status)
    → OrOutOfMemory Refuses before after status → OrOutOfMemory Other before after status
refused_by by (refuses x) = refuses (by x)
refused_by by (ran_out is same) = ran_out is same
