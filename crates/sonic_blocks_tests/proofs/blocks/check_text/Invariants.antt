use Rattle.sonic_blocks_tests.proofs.blocks.check_text.Given as goal

abbrev pub ghosts-check_tape : goal.ghosts-check_tape
ghosts-check_tape g a = record { name = a.blank.name; parts = a.blank.parts }
