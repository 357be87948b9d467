use Rattle.sonic_parser.proofs.blocks.open_string.Given as goal

abbrev pub ghosts-string_end_over : goal.ghosts-string_end_over
ghosts-string_end_over a = record { name = a.blank.name; parts = a.blank.parts }
