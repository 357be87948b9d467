use Rattle.std.proofs.Common.{◌≡◌, refl, sym, subst, arith}
use Rattle.std.proofs.lemmas.Result.{IfOk-weaker, IfErr-weaker}
use Rattle.sonic_pointer.specs.Internal.Owned.{steps_of}
use Rattle.sonic_pointer.specs.Internal.TrieFields.{entries_of, trie_paths, IsInsertionPoint}
use Rattle.sonic_pointer.proofs.InsertionLemmas.{step_down, mixed_here, point_here, ending_here}
use Rattle.sonic_pointer.proofs.trie.Trie.walk.Goals as goal

pub returns-in-Err-clause-err : goal.returns-in-Err-clause-err
returns-in-Err-clause-err c =
    let i = c.loop-depth.invariant in
    IfErr-weaker c.point_at.result _ _ (λ e h. (
      h.0,
      mixed_here c.args.self.now c.loop-depth.at c.loop-depth.depth (steps_of c.args.path.now) _ i.prefix (omega arith)
          (sym c.node-node.ensures) h.1,
    )) c.point_at.ensures.err

pub returns-in-Err-clause-ok : goal.returns-in-Err-clause-ok
returns-in-Err-clause-ok c =
    let i = c.loop-depth.invariant in
    IfOk-weaker c.point_at.result _ _ (λ l h. rw h.0
    (point_here c.args.self.now c.loop-depth.at c.loop-depth.depth c.in-Err.position (steps_of c.args.path.now) _ c.requires i.inside i.prefix (omega arith)
    (sym c.node-node.ensures) (c.in-Err.ensures.absent _ refl) h.1)) c.point_at.ensures.ok

pub loop-depth-preserved : goal.loop-depth-preserved
loop-depth-preserved c =
    let i = c.loop-depth.invariant in
    let s = step_down c.args.self.now c.loop-depth.at c.in-Ok.i c.get-at.result c.loop-depth.depth (steps_of c.args.path.now) c.children-children.result.now c.children-children.ensures c.get-at.ensures i.prefix (omega arith)
    (c.in-Ok.ensures.found _ (sym c.node-node.ensures)) in
    record { inside = s.0; prefix = s.1 }

pub returns-clause-ok : goal.returns-clause-ok
returns-clause-ok c =
    let i = c.loop-depth.invariant in
    let all = c.len-2.ensures in
    let bound = c.len-depth-end.ensures in
    let end : c.loop-depth.depth ≡ c.len-2.result = omega (arith, all, bound) in
    subst (λ d. IsInsertionPoint (trie_paths c.args.self.now) (entries_of c.args.self.now) (steps_of c.args.path.now) (record { at = c.loop-depth.at; depth = d; position = 0 })) end
    (ending_here c.args.self.now c.loop-depth.at c.loop-depth.depth (steps_of c.args.path.now) c.requires i.inside i.prefix (omega (arith, all, bound)))
