-- What the command `list` writes of an input.
use Rattle.std.specs.Prelude.{◌≡◌, ℕ, ◌==◌, if◌then◌else◌, true, List, [], ◌++◌, Option, Some, None, codes}
use Rattle.std.specs.List.{flat_map}
use Rattle.sonic_text.specs.declared.kind.Kind.{Kind}
use Rattle.sonic_text.specs.declared.kind.Kind.TheVariants.{Array, Object}
use Rattle.sonic_text.specs.Places.{byte, after_space}
use Rattle.sonic_lazy.specs.Items.{Item, Ending, closed, stopped, Listing, IsListing}
use Rattle.sonic_find.specs.Answers.{span_text}
use Rattle.sonic_reports.specs.declared.status.Status.{Status}
use Rattle.sonic_reports.specs.declared.status.Status.TheVariants.{Done, DocumentError}
use Rattle.sonic_reports.specs.ErrorLines.{line_of_error}
use Rattle.sonic_lines.specs.LineTexts.{counted}
use Rattle.sonic_reports.specs.Lines.{line_of_text}

-- the kind of container that is listed: an object where the first byte that is no white space is its brace, and else an array
abbrev pub listed_kind : List ℕ → Kind
listed_kind t = if byte t (after_space t 0) == 123 then Object else Array

-- a member's key, unescaped, comes before its value
abbrev pub label_text : Option (List ℕ) → List ℕ
label_text None = []
label_text (Some key) = counted key ++ codes " "

-- the line of an item
abbrev pub line_of_item : List ℕ → Item → List ℕ
line_of_item t item = label_text item.label ++ line_of_text (span_text t item.span)

-- the line of the error that ends the items, if one does
abbrev pub line_of_ending : List ℕ → Ending → List ℕ
line_of_ending t closed = []
line_of_ending t (stopped s) = line_of_error t s.code s.place

-- and the status
abbrev pub status_of_ending : Ending → Status
status_of_ending closed = Done
status_of_ending (stopped s) = DocumentError

-- what `list` writes of an input, which is its document: the lines of its items, and then the line of an error that ends them
pub record IsListReport (input text : List ℕ) (status : Status) : Type 0 where
  pub listing : Listing
  pub is : IsListing input true (listed_kind input) listing
  pub lines : text ≡ flat_map (line_of_item input) listing.items ++ line_of_ending input listing.ending
  pub ending : status ≡ status_of_ending listing.ending
