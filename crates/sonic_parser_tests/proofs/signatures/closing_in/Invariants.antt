use Rattle.sonic_parser_tests.proofs.signatures.closing_in.Given as goal

abbrev pub ghosts-closing_over : goal.ghosts-closing_over
ghosts-closing_over a = record { name = a.blank.name; parts = a.blank.parts }
