use Rattle.std.proofs.Common.{◌<◌, Ok, Err, Result, OnOk, OnErr, length, ◌∙◌, arith}
use Rattle.sonic_pointer.specs.Internal.TrieFields.{kept_entries, kept_paths}
use Rattle.sonic_pointer.proofs.VertexLemmas.{length-labels}
use Rattle.sonic_pointer.proofs.CommitLemmas.{ends_here, leaves_here, unchanged}
use Rattle.sonic_pointer.proofs.insert.insert_path.Goals as goal

-- what holds after Ok, and after Err, leads to the goal
after : {T E A B C D G : Type 0} (r : Result T E) → OnOk r A → OnOk r B → OnErr r C → OnErr r D → (A → B → G) → (C → D → G) → G
after (Ok x) a b c d ok err = ok a b
after (Err e) a b c d ok err = err c d

-- and what holds after Ok alone
after_ok : {T E A B G : Type 0} (r : Result T E) → OnOk r A → OnOk r B → (A → B → G) → OnOk r G
after_ok (Ok x) a b ok = ok a b
after_ok (Err e) a b ok = a

pub returns-then-point-len-clause-tree : goal.returns-then-point-len-clause-tree
returns-then-point-len-clause-tree c =
    let e = c.end_path.ensures in
    after c.end_path.result e.ends e.vertices e.same_ends e.same_vertices
    (λ x y. (ends_here c.args.parts.now c.end_path.new.parts c.args.point c.args.path c.requires.tree c.requires.point c.requires.short (c.if-point-len.true ∙ c.len.ensures) x y).0)
    (λ x y. (unchanged c.args.parts.now c.end_path.new.parts c.requires.tree x y).0)

pub returns-then-point-len-clause-ok : goal.returns-then-point-len-clause-ok
returns-then-point-len-clause-ok c =
    let e = c.end_path.ensures in
    after_ok c.end_path.result e.ends e.vertices
    (λ x y. (ends_here c.args.parts.now c.end_path.new.parts c.args.point c.args.path c.requires.tree c.requires.point c.requires.short (c.if-point-len.true ∙ c.len.ensures) x y).1)

pub branch_path-requires-clause-fits : goal.branch_path-requires-clause-fits
branch_path-requires-clause-fits c =
    let p = c.requires.point in
    let short : c.args.point.depth < length c.args.path = (let a = c.len.ensures in let b = c.if-point-len.false in let d = p.deep in omega arith) in
    let fits = (p.gap short).fits in
    let many = length-labels (kept_paths c.args.parts.now) (kept_entries c.args.parts.now) c.requires.tree.tree c.args.point.at p.inside in
    omega (arith, fits, many)

pub returns-clause-tree : goal.returns-clause-tree
returns-clause-tree c =
    let e = c.branch_path.ensures in
    let short : c.args.point.depth < length c.args.path = (let a = c.len.ensures in let b = c.if-point-len.false in let d = c.requires.point.deep in omega arith) in
    after c.branch_path.result e.ends e.vertices e.same_ends e.same_vertices
    (λ x y. (leaves_here c.args.parts.now c.branch_path.new.parts c.args.point c.args.path c.requires.tree c.requires.point c.requires.short short x y).0)
    (λ x y. (unchanged c.args.parts.now c.branch_path.new.parts c.requires.tree x y).0)

pub returns-clause-ok : goal.returns-clause-ok
returns-clause-ok c =
    let e = c.branch_path.ensures in
    let short : c.args.point.depth < length c.args.path = (let a = c.len.ensures in let b = c.if-point-len.false in let d = c.requires.point.deep in omega arith) in
    after_ok c.branch_path.result e.ends e.vertices
    (λ x y. (leaves_here c.args.parts.now c.branch_path.new.parts c.args.point c.args.path c.requires.tree c.requires.point c.requires.short short x y).1)
