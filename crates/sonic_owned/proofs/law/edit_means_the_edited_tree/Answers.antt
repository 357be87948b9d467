use Rattle.sonic_owned.proofs.EditLemmas.{edit_one, edit_makes, refused_alike, edit_sound, edits_make, edits_refused, edits_or_refused, edits_sound}
use Rattle.sonic_owned.proofs.law.edit_means_the_edited_tree.Goals as goal

pub returns-clause-means : goal.returns-clause-means
returns-clause-means c = λ e d f h x. edit_makes

pub returns-clause-refused : goal.returns-clause-refused
returns-clause-refused c = λ e d f x. refused_alike

pub returns-clause-one : goal.returns-clause-one
returns-clause-one c = λ e f g h. edit_one

pub returns-clause-sound : goal.returns-clause-sound
returns-clause-sound c = λ e f h. edit_sound

pub returns-clause-all : goal.returns-clause-all
returns-clause-all c = λ es ds f h x. edits_make

pub returns-clause-none : goal.returns-clause-none
returns-clause-none c = λ es ds f n x. edits_refused

pub returns-clause-some : goal.returns-clause-some
returns-clause-some c = λ es ds f x. edits_or_refused

pub returns-clause-all_sound : goal.returns-clause-all_sound
returns-clause-all_sound c = λ es f h x sound. edits_sound sound x
