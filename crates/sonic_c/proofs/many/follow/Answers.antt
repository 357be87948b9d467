use Rattle.sonic_c.proofs.ManyLemmas.{all_told}
use Rattle.sonic_c.proofs.many.follow.Goals as goal

pub returns : goal.returns
returns c = λ lines says. all_told says c.requires c.find_many-found.new.out c.find_many-found.result c.find_many-found.ensures.ok (c.find_many-found.ensures.err) (c.find_many-found.ensures.complete) c.tell_all.ensures
