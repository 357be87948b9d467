-- What the calls that make a text come to, in the caller's memory.
use Rattle.std.specs.Prelude.{◌≡◌, ℕ, ◌<◌, ◌≤◌, List, length}
use Rattle.sonic_find.specs.Documents.{IsValidDocument}
use Rattle.sonic_min.specs.Texts.{IsSmallText, IsWideText}
use Rattle.sonic_c.specs.Codes.{placed}
use Rattle.sonic_c.specs.Statuses.{status_ok, status_document_error, status_no_memory, status_bad_width}
use Rattle.sonic_c.specs.Told.{TellsInvalid}
use Rattle.sonic_c.specs.Values.{TextCells}
use Rattle.sonic_c.specs.declared.fault.Fault.{Fault}

-- what a call that makes a text comes to, with these cells before and after it: it makes this one, refuses so, by the error before and after it and the status,
-- or there is no memory
pub data IsMadeCall (Makes : List ℕ → Type 0) (Refuses : Fault → Fault → ℕ → Type 0) (before after : TextCells) (status : ℕ) : Type 0 where
  made_told : (b : List ℕ) → Makes b → status ≡ status_ok → after ≡ record before { room = placed b before.room; wanted = length b }
      → IsMadeCall Makes Refuses before after status
  made_refused : Refuses before.error after.error status → after.room ≡ before.room → after.wanted ≡ before.wanted → IsMadeCall Makes Refuses before after status
  made_unknown : status ≡ status_no_memory → after ≡ before → IsMadeCall Makes Refuses before after status

-- the text is no document, and why is told
abbrev pub IsNoDocument : List ℕ → Fault → Fault → ℕ → Type 0
IsNoDocument t before after status = (status ≡ status_document_error) × TellsInvalid t after

-- what a call for the small text of a document comes to
abbrev pub IsMinifyCall : List ℕ → TextCells → TextCells → ℕ → Type 0
IsMinifyCall t = IsMadeCall (λ b. IsValidDocument t × IsSmallText t b) (IsNoDocument t)

-- a document isn't indented: the width is above 8, or the text is none
pub data IsIndentRefused (t : List ℕ) (width : ℕ) (before after : Fault) (status : ℕ) : Type 0 where
  too_wide : 8 < width → status ≡ status_bad_width → after ≡ before → IsIndentRefused t width before after status
  not_indented : width ≤ 8 → IsNoDocument t before after status → IsIndentRefused t width before after status

-- what a call for its wide text with this width comes to
abbrev pub IsIndentCall : List ℕ → ℕ → TextCells → TextCells → ℕ → Type 0
IsIndentCall t width = IsMadeCall (λ b. (width ≤ 8) × IsValidDocument t × IsWideText t width b) (IsIndentRefused t width)
