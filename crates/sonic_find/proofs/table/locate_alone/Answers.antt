use Rattle.sonic_find.proofs.table.locate_alone.Goals as goal
use Rattle.std.proofs.Common.{◌≡◌, ◌∙◌, ap, sym, ◌∷◌, ◌++◌, [], get_or, arith}
use Rattle.std.proofs.lemmas.List.{length-map}
use Rattle.sonic_find.proofs.TableLemmas.Container.{one_slot, only_one}
use Rattle.sonic_find.specs.Found.{told_at}
use Rattle.sonic_pointer.specs.Nodes.{path_of}

pub index-requires : goal.index-requires
index-requires g c =
    let tree = c.in-Ok.ensures.ok ∙ ap (λ paths. paths ++ path_of c.args.path.now ∷ []) c.new-tree.ensures in
    let one = one_slot (rw tree at c.in_ok-locate_each_in.ensures.ok) in
    let long = length-map c.locate_each_in.new.memory.found.items told_at in
    omega (arith, one, long)

pub returns-clause-ok : goal.returns-clause-ok
returns-clause-ok g c =
    let tree = c.in-Ok.ensures.ok ∙ ap (λ paths. paths ++ path_of c.args.path.now ∷ []) c.new-tree.ensures in
    let answer = rw tree at c.in_ok-locate_each_in.ensures.ok in
    let items = c.locate_each_in.new.memory.found.items in
    let one : items ≡ get_or items 0 c.index.result.now ∷ [] = only_one items c.index.result.now (sym (length-map items told_at) ∙ one_slot answer) in
    let told = rw one at answer in
    rw c.index.ensures told
