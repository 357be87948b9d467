use Rattle.std.proofs.Common.{◌≡◌, ◌∙◌, ap, sym, refl, map, rules, ◌++◌, ◌∷◌, [], None}
use Rattle.std.proofs.lemmas.Result.{err_from_is_err_and}
use Rattle.sonic_error.specs.Errors.{IsPlainError}
use Rattle.sonic_error.specs.declared.code.ErrorCode.TheVariants.{GetIndexOutOfArray, UnexpectedVisitType}
use Rattle.sonic_pointer.specs.Nodes.{node_of}
use Rattle.sonic_text.specs.Paths.{key}
use Rattle.sonic_text.specs.TreePaths.{child}
use Rattle.sonic_text.specs.Trees.Tree.{null, container}
use Rattle.sonic_text.specs.declared.kind.Kind.TheVariants.{Array, Object}
use Rattle.sonic_value.proofs.Folds.{tree_array, tree_object}
use Rattle.sonic_value.proofs.HeldLemmas.{object_is}
use Rattle.sonic_value.proofs.IndexLemmas.{missing, past_array, inserted, new_member, unappended, on_ok, if_err, on_err, tree-null, not_key, not_array, not_object}
use Rattle.sonic_value.proofs.index.ValueInserts.insert.Goals as goal
use Rattle.sonic_value.proofs.index.ValueInserts.insert.Goals.{In-Key, In-Some}
use Rattle.sonic_value.specs.Indexing.{refused}
use Rattle.sonic_value.specs.Internal.Keys.{seen}
use Rattle.sonic_value.specs.Views.{tree, elements_of, members_of}

-- no member has the key
lacks : (c : In-Key) → child (key c.in-Key.name.now) (tree c.args.self.now) ≡ None
lacks c =
    let none = missing (node_of c.args.node) (tree c.args.self.now) c.get.result c.get.ensures (sym c.is_some.ensures ∙ c.if-is_some.false) in
    rw c.in-Key.is at none

pub returns-in-Array-clause-err : goal.returns-in-Array-clause-err
returns-in-Array-clause-err c =
    let x = tree c.args.self.now in
    let xs = c.in-Array.field-0 in
    let n = not_key c.args.node c.in_default.not-Key in
    let none = missing (node_of c.args.node) x c.get.result c.get.ensures (sym c.is_some.ensures ∙ c.if-is_some.false) in
    let shape : x ≡ container Array (elements_of (map tree xs.items)) = ap tree c.in-Array.is ∙ tree_array xs in
    let plain : IsPlainError c.plain.result GetIndexOutOfArray = search rules in
    rw (n.1, shape) (refused GetIndexOutOfArray (past_array n.0 _ (rw (n.1, shape) at none)) plain)

pub returns-in_default-self : goal.returns-in_default-self
returns-in_default-self c =
    let n = not_key c.args.node c.in_default.not-Key in
    let plain : IsPlainError c.plain-in_default-self.result UnexpectedVisitType = search rules in
    record {
      ok = tt;
      err = rw n.1 (refused UnexpectedVisitType (not_array n.0 c.args.self.now c.in_default-self.not-Array) plain);
      same = refl;
    }

-- the tree of an object
object_tree : (c : In-Some) → tree c.args.self.now ≡ container Object (members_of (seen c.in-Some.members.now.items))
object_tree c = ap tree (object_is c.args.self.now c.in-Some.members.now (sym c.in-Some.ensures.value)) ∙ tree_object c.in-Some.members.now

pub returns-in-Some-clause-ok : goal.returns-in-Some-clause-ok
returns-in-Some-clause-ok c =
    let shape = object_tree (goal.at.returns-in-Some-clause-ok c).In-Some in
    let none = lacks (goal.at.returns-in-Some-clause-ok c).In-Key in
    let new = c.append_null.new.members in
    rw c.in-Key.is (on_ok c.append_null.result
    (inserted c.in-Key.name.now (seen c.in-Some.members.now.items) (seen new.items) _ _ shape (tree_object new) none) c.append_null.ensures.ok)

pub returns-in-Some-clause-err : goal.returns-in-Some-clause-err
returns-in-Some-clause-err c =
    let shape = object_tree (goal.at.returns-in-Some-clause-err c).In-Some in
    let none = lacks (goal.at.returns-in-Some-clause-err c).In-Key in
    let k = c.in-Key.name.now in
    let before = seen c.in-Some.members.now.items in
    let after = before ++ (k, null) ∷ [] in
    rw c.in-Key.is (if_err c.append_null.result
    (λ e plain. unappended k _ (container Object (members_of after)) e (inserted k before after _ _ shape refl none refl) none plain) c.append_null.ensures.err)

pub returns-in-Some-clause-same : goal.returns-in-Some-clause-same
returns-in-Some-clause-same c =
    let shape = object_tree (goal.at.returns-in-Some-clause-same c).In-Some in
    on_err c.append_null.result
    (λ same. tree_object c.append_null.new.members ∙ ap (λ l. container Object (members_of l)) same ∙ sym shape) c.append_null.ensures.same

pub returns-in_err-append_null-in-Null-clause-err : goal.returns-in_err-append_null-in-Null-clause-err
returns-in_err-append_null-in-Null-clause-err c =
    let p = err_from_is_err_and c.from_residual.result c.from_residual.ensures.1 in
    let k = c.in-Key.name.now in
    let shape : tree c.args.self.now ≡ null = ap tree c.in-Null.is ∙ tree-null in
    let more = (k, null) ∷ [] in
    rw (p.1, p.2, c.in-Key.is) (unappended k _ (container Object (members_of more)) c.in_err-append_null-in-Null.field-0.0 (new_member k more _ _ shape refl refl)
    (lacks (goal.at.returns-in_err-append_null-in-Null-clause-err c).In-Key) c.in_err-append_null-in-Null.ensures.err)

pub returns-in_ok-append_null-in-Null-clause-ok : goal.returns-in_ok-append_null-in-Null-clause-ok
returns-in_ok-append_null-in-Null-clause-ok c =
    let shape : tree c.args.self.now ≡ null = ap tree c.in-Null.is ∙ tree-null in
    let new = c.append_null-in-Null.new.members in
    rw c.in-Key.is (new_member c.in-Key.name.now (seen new.items) (tree c.args.self.now) _ shape (tree_object new)
    (rw c.new-members.ensures.items at c.in_ok-append_null-in-Null.ensures.ok))

pub returns-in_default-self-2 : goal.returns-in_default-self-2
returns-in_default-self-2 c =
    let plain : IsPlainError c.plain-in_default-self-2.result UnexpectedVisitType = search rules in
    record {
      ok = tt;
      err = rw c.in-Key.is (refused UnexpectedVisitType (not_object c.in-Key.name.now c.args.self.now c.in_default-self-2.not-Null (sym c.in_default-as_object_mut.ensures.value)) plain);
      same = refl;
    }
