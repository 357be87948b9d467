use Rattle.sonic_find.proofs.many_unchecked.fill_each.Goals as goal
use Rattle.std.proofs.Common.{◌∙◌}
use Rattle.sonic_find.proofs.FillLemmas.{root_comes, slots_filled}

pub fill-requires : goal.fill-requires
fill-requires c =
    let starts = c.requires.starts in
    record {
      whole = rw (c.root.ensures.text, c.root.ensures.place) (starts.end, starts.root);
      comes = rw (c.root.ensures.text, c.root.ensures.place, c.view.ensures.paths, c.view.ensures.prefix) root_comes;
      long = rw c.view.ensures.paths c.requires.long;
    }

pub returns : goal.returns
returns c =
    let all = rw (c.root.ensures.text, c.view.ensures.paths, c.view.ensures.prefix) at c.fill.ensures.all in
    slots_filled c.fill.new.slots c.fill.result (c.fill.ensures.long ∙ c.requires.long) all
