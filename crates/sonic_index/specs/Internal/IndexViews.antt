-- What the fields of a `JsonIndex` denote, and what always holds of them.
use Rattle.std.specs.Prelude.{◌<◌, ◌^◌, length, IfSome}
use Rattle.sonic_input.specs.Slices.{slice_bytes}
use Rattle.sonic_find.specs.Documents.{IsValidDocument}
use Rattle.sonic_index.specs.Entries.{Indexed, AreEntries}
use Rattle.sonic_index.specs.Internal.Cells.{entries_of}
use Rattle.sonic_index.specs.Internal.Members.{AreOrdered}
use Rattle.sonic_index.specs.declared.index.JsonIndex.TheInside.{Inside}

-- what callers see: the text, and the entries that the cells keep
abbrev pub indexed_of : Inside → Indexed
indexed_of index = record { text = slice_bytes index.json; entries = entries_of (slice_bytes index.json) index.cells.items }

-- the text is a valid document, whose places fit a cell, the entries are those of its values, and the members of wide objects are ordered, if they are kept
pub record IsIndexOf (index : Inside) : Type 0 where
  pub valid : IsValidDocument (slice_bytes index.json)
  pub short : length (slice_bytes index.json) < 2 ^ 32
  pub entries : AreEntries (slice_bytes index.json) (entries_of (slice_bytes index.json) index.cells.items)
  pub members : IfSome index.members (λ numbers. AreOrdered (slice_bytes index.json) index.cells.items numbers.items)
