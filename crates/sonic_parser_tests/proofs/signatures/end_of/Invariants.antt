use Rattle.sonic_parser_tests.proofs.signatures.end_of.Given as goal

abbrev pub ghosts-end_over : goal.ghosts-end_over
ghosts-end_over a = record { name = a.blank.name; parts = a.blank.parts }
