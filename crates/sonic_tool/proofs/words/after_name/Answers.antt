use Rattle.std.proofs.Common.{refl}
use Rattle.std.specs.Iterator.Adapters.{skip_source}
use Rattle.std.specs.Vec.Iter.{into_iter_items, into_iter_steps}
use Rattle.std.specs.declared.alloc.Global.{Global}
use Rattle.std.specs.declared.string.String.{String}
use Rattle.std.proofs.lemmas.Iterator.{YieldsList, items_from_collect}
use Rattle.std.proofs.lemmas.Iterator.Adapters.{YieldsList-from_vec, YieldsList-from_skip}
use Rattle.sonic_tool.proofs.words.after_name.Goals as goal

pub returns : goal.returns
returns c =
    let all : YieldsList (into_iter_steps {X = String Global} {Z = Global}) (λ y. y) c.args.arguments (into_iter_items c.args.arguments)
    = YieldsList-from_vec (into_iter_items c.args.arguments) refl c.args.arguments.rest.ok.0 in
    let source : YieldsList (into_iter_steps {X = String Global} {Z = Global}) (λ y. y) (skip_source c.skip.result) (into_iter_items c.args.arguments)
    = rw c.skip.ensures.source all in
    items_from_collect c.collect.result c.collect.ensures.ran
    (YieldsList-from_skip {steps = into_iter_steps {X = String Global} {Z = Global}} 1 source c.skip.ensures.count)
