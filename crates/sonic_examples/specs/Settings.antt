-- Where the settings of the editor are.
use Rattle.std.specs.Prelude.{[], ◌∷◌, codes}
use Rattle.sonic_text.specs.Paths.{Path, key}

-- the theme
abbrev pub theme_path : Path
theme_path = key (codes "editor") ∷ key (codes "theme") ∷ []
