use Rattle.sonic_c.proofs.ListLemmas.{list_told}
use Rattle.sonic_c.proofs.ManyLemmas.{sure_refusal, sure_complete}
use Rattle.sonic_c.proofs.SureLemmas.{sure_told}
use Rattle.sonic_c.proofs.kept.walk_unchecked.Goals as goal

pub returns-clause-call : goal.returns-clause-call
returns-clause-call c =
    let found = c.find_many_unchecked-found in let t = c.args.json.now in let paths = c.args.tree.now in
    list_told found.new.out found.result c.requires.spans found.ensures.ok (sure_refusal t paths found.result found.ensures.err)
    (sure_complete t paths found.result found.ensures.complete) c.tell_all.ensures

pub returns-clause-memory : goal.returns-clause-memory
returns-clause-memory c = let found = c.find_many_unchecked-found in sure_told c.args.json.now c.args.tree.now found.new.out found.result _ _ _ found.ensures.err c.tell_all.ensures
