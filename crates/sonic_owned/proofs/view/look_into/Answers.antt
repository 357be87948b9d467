use Rattle.sonic_lazy.proofs.WholeLemmas.{lazy_is_whole}
use Rattle.sonic_owned.proofs.LeadingLemmas.{nothing_in_text}
use Rattle.sonic_owned.proofs.view.look_into.Goals as goal
use Rattle.sonic_pointer.specs.Nodes.{path_of}
use Rattle.sonic_owned.specs.Leading.{leads_in_text}

pub returns-in-Some-clause-some : goal.returns-in-Some-clause-some
returns-in-Some-clause-some c =
    let found = c.in-Some.ensures.some in
    rw found.shown (leads_in_text found.leads)

pub returns-in-None-clause-none : goal.returns-in-None-clause-none
returns-in-None-clause-none c = λ e g. nothing_in_text (path_of c.args.path.now) (lazy_is_whole c.args.value.now).value c.in-None.ensures.none
