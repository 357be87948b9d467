-- The lines of a report that show texts.
use Rattle.std.specs.Prelude.{ℕ, List, ◌++◌, codes}
use Rattle.sonic_lines.specs.LineTexts.{counted}

-- the line of a value: the length of its text in bytes, and the text itself
abbrev pub line_of_text : List ℕ → List ℕ
line_of_text text = counted text ++ codes "\n"
