use Rattle.sonic_index.proofs.room.most.Given as goal

abbrev pub ghosts-most_over : goal.ghosts-most_over
ghosts-most_over a = record { name = a.blank.name; parts = a.blank.parts }
