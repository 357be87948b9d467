-- What is known of the root of a text that was passed.
use Rattle.std.specs.Prelude.{◌≡◌, ℕ, List}
use Rattle.sonic_text.specs.Documents.{IsWhole}
use Rattle.sonic_text.specs.Places.{after_space}
use Rattle.sonic_find.specs.declared.document.Root.{Root}
use Rattle.sonic_parser.specs.ValueSpans.{FlagsEscape}

-- the root of the text is the value there, and this is the place after the white space that follows it
pub record IsRoot (t : List ℕ) (root : Root) : Type 0 where
  pub start : after_space t 0 ≡ root.value.start
  pub value : IsWhole t root.value.end
  pub after : after_space t root.value.end ≡ root.after
  pub escaped : FlagsEscape t root.value
