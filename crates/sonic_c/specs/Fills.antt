-- What a call that fills a schema comes to, in the caller's memory.
use Rattle.std.specs.Prelude.{◌≡◌, ℕ, true, List}
use Rattle.sonic_text.specs.Places.{after_space}
use Rattle.sonic_text.specs.Trees.{Tree}
use Rattle.sonic_text.specs.declared.stop.Stop.{Stop}
use Rattle.sonic_value.specs.CompactTexts.{compact}
use Rattle.sonic_value.specs.Reading.{IsRead, IsUnread}
use Rattle.sonic_value.specs.Schemas.{IsFilled, IsObject, IsUnfilled}
use Rattle.sonic_c.specs.Statuses.{status_document_error, status_bad_schema}
use Rattle.sonic_c.specs.Texts.{IsMadeCall}
use Rattle.sonic_c.specs.Told.{AreNumbersOf, at_line}
use Rattle.sonic_c.specs.Values.{TextCells}
use Rattle.sonic_c.specs.declared.fault.Fault.{Fault}

-- the bytes are read as this schema, an object
pub record IsSchema (b : List ℕ) (schema : Tree) : Type 0 where
  pub read : IsRead b schema
  pub object : IsObject schema

-- the bytes are no schema, and that is told: they aren't read, or as no object
pub data IsNoSchema (b : List ℕ) (before after : Fault) (status : ℕ) : Type 0 where
  not_read : (s : Stop) → IsUnread b true s → status ≡ status_bad_schema → AreNumbersOf b s after → IsNoSchema b before after status
  not_object : (x : Tree) → IsRead b x → ¬ IsObject x → status ≡ status_bad_schema → after ≡ at_line 0 → IsNoSchema b before after status

-- why a schema isn't filled from the value that begins the text is told
pub record IsFillRefused (t : List ℕ) (schema : Tree) (after : Fault) (status : ℕ) : Type 0 where
  pub stop : Stop
  pub unfilled : IsUnfilled t true schema (after_space t 0) stop
  pub numbers : AreNumbersOf t stop after
  pub says : status ≡ status_document_error

-- this is the text of the schema, filled from the value that begins the text
pub record IsFilledText (t b text : List ℕ) : Type 0 where
  pub schema : Tree
  pub is_schema : IsSchema b schema
  pub result : Tree
  pub filled : IsFilled t schema result
  pub is : text ≡ compact result

-- it isn't filled: the bytes are no schema, or it isn't filled from the text
pub data IsNotFilled (t b : List ℕ) (before after : Fault) (status : ℕ) : Type 0 where
  no_schema : IsNoSchema b before after status → IsNotFilled t b before after status
  fill_refused : {schema : Tree} → IsSchema b schema → IsFillRefused t schema after status → IsNotFilled t b before after status

-- what a call for the text of a schema that is filled comes to
abbrev pub IsFillCall : List ℕ → List ℕ → TextCells → TextCells → ℕ → Type 0
IsFillCall t b = IsMadeCall (IsFilledText t b) (IsNotFilled t b)
