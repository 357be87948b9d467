-- What is known of a string before it is read as text: facts on which no public clause rests.
use Rattle.std.specs.Prelude.{◌≡◌, ◌↔◌, ℕ, ◌+◌, ◌<◌, ◌≤◌, Bool, List, length, IsTrue}
use Rattle.std.specs.Str.{IsUtf8}
use Rattle.sonic_text.specs.Strings.{strict, contents, IsString}
use Rattle.sonic_parser.specs.declared.parser.strings.StringAhead.{StringAhead}
use Rattle.sonic_parser.specs.Texts.{IsTextThere}

-- the string at i has a text, and this says whether that is there
pub record IsAhead (m : Bool) (t : List ℕ) (i : ℕ) (x : StringAhead) : Type 0 where
  pub bytes : List ℕ
  pub string : IsString m t i x.end bytes
  pub order : i + 1 < x.end
  pub within : x.end ≤ length t
  pub utf8 : m ≡ strict → IsUtf8 (contents t i x.end)
  pub direct : IsTrue x.direct ↔ IsTextThere t i x.end
