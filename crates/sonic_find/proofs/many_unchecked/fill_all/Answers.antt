use Rattle.sonic_find.proofs.many_unchecked.fill_all.Goals as goal
use Rattle.std.proofs.Common.{◌∙◌, ap, length}
use Rattle.std.proofs.lemmas.List.{length-replicate}
use Rattle.sonic_find.proofs.FillLemmas.{root_comes, slots_answer, noted_answer}

pub fill-requires : goal.fill-requires
fill-requires c =
    let starts = c.requires.starts in
    record {
      whole = rw (c.root.ensures.text, c.root.ensures.place) (starts.end, starts.root);
      comes = rw (c.root.ensures.text, c.root.ensures.place, c.view.ensures.paths, c.view.ensures.prefix) root_comes;
      long = rw c.view.ensures.paths (ap length c.requires.empty ∙ length-replicate _ _);
    }

pub returns-clause-none : goal.returns-clause-none
returns-clause-none c =
    let all = rw (c.root.ensures.text, c.view.ensures.paths, c.view.ensures.prefix) at c.fill.ensures.all in
    slots_answer c.fill.new.slots c.fill.result c.requires.starts (c.fill.ensures.long ∙ (ap length c.requires.empty ∙ length-replicate _ _)) all

pub returns-clause-some : goal.returns-clause-some
returns-clause-some c =
    let fails = rw (c.root.ensures.text, c.root.ensures.place, c.view.ensures.paths, c.view.ensures.prefix) at c.fill.ensures.fails in
    let all = rw (c.root.ensures.text, c.view.ensures.paths, c.view.ensures.prefix) at c.fill.ensures.all in
    noted_answer c.fill.new.slots c.fill.result c.view.ensures.unmixed fails all
