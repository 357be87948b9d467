use Rattle.sonic_c.proofs.ManyLemmas.{all_told, sure_refusal, sure_complete}
use Rattle.sonic_c.proofs.many.follow_unchecked.Goals as goal

pub returns : goal.returns
returns c = λ lines says. all_told says c.requires.spans c.find_many_unchecked-found.new.out c.find_many_unchecked-found.result c.find_many_unchecked-found.ensures.ok (sure_refusal c.args.json.now c.args.tree.now c.find_many_unchecked-found.result c.find_many_unchecked-found.ensures.err) (sure_complete c.args.json.now c.args.tree.now c.find_many_unchecked-found.result c.find_many_unchecked-found.ensures.complete) c.tell_all.ensures
