use Rattle.sonic_min.proofs.small.minify.Given as goal

abbrev pub ghosts-kept_over : goal.ghosts-kept_over
ghosts-kept_over g a = record { name = a.blank.name; parts = a.blank.parts }
