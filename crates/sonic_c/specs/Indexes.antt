-- What the call that tells all values of a document comes to, in the caller's memory.
use Rattle.std.specs.Prelude.{◌≡◌, ℕ, List, length, map}
use Rattle.sonic_error.specs.Kinds.{number_of}
use Rattle.sonic_find.specs.Documents.{IsValidDocument}
use Rattle.sonic_index.specs.Entries.{AreEntries}
use Rattle.sonic_index.specs.declared.entry.Entry.{Entry as Value}
use Rattle.sonic_index.specs.declared.entry.Label.{Label}
use Rattle.sonic_index.specs.declared.entry.Label.TheVariants.{Root, Key, At}
use Rattle.sonic_c.specs.Codes.{placed}
use Rattle.sonic_c.specs.Statuses.{status_ok, status_no_memory}
use Rattle.sonic_c.specs.Texts.{IsNoDocument}
use Rattle.sonic_c.specs.declared.fault.Fault.{Fault}
use Rattle.sonic_c.specs.declared.index.Entry.{Entry}
use Rattle.sonic_c.specs.declared.span.Span.{Span}

-- the key of a member, and twice 0 of what is none
abbrev pub key_of : Label → Span
key_of Root = record { start = 0; end = 0 }
key_of (Key i j) = record { start = i; end = j }
key_of (At n) = record { start = 0; end = 0 }

-- how many elements come before one, and 0 of what is none
abbrev pub position_of : Label → ℕ
position_of Root = 0
position_of (Key i j) = 0
position_of (At n) = n

-- what is told of a value
abbrev pub shown_entry : Value → Entry
shown_entry x = record {
  value = record { start = x.start; end = x.end };
  key = key_of x.label;
  parent = x.parent;
  position = position_of x.label;
  kind = number_of x.kind;
}

-- the caller's entries, the number that is told and the error
pub record EntryCells : Type 0 where
  pub entries : List Entry
  pub wanted : ℕ
  pub error : Fault

-- what a call for all values of a document comes to, with these cells before and after it: they are told, as many as there is room for, and their number;
-- or the text is no document; or there is no memory
pub data IsIndexCall (t : List ℕ) (before after : EntryCells) (status : ℕ) : Type 0 where
  index_told : (es : List Value) → IsValidDocument t → AreEntries t es → status ≡ status_ok
      → after ≡ record before { entries = placed (map shown_entry es) before.entries; wanted = length es } → IsIndexCall t before after status
  index_refused : IsNoDocument t before.error after.error status → after.entries ≡ before.entries → after.wanted ≡ before.wanted → IsIndexCall t before after status
  index_unknown : status ≡ status_no_memory → after ≡ before → IsIndexCall t before after status
