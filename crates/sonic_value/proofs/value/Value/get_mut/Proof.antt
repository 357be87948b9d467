-- The generic call at the type itself. Assumes `Logic`.
use Rattle.std.proofs.Common.{◌≡◌, List, [], ◌∷◌, refl, MutBor, Option, option_map, OnSome, IfSome}
use Rattle.std.proofs.raw_atomic.Walks.{proved}
use Rattle.std.specs.Borrow.{LendsSo}
use Rattle.std.specs.Option.{ghost_name_of}
use Rattle.sonic_value.proofs.HeldLemmas.{first_holds}
use Rattle.sonic_owned.proofs.Calls.{and_static, closes, enters, loses, spent, told_last, tokens}
use Rattle.sonic_owned.proofs.Loans.{so_weaker}
use Rattle.sonic_owned.specs.TreePuts.{put}
use Rattle.sonic_pointer.proofs.node.PointerNode.TheLaws.{the_told as node_told, the_row_laws as node_laws}
use Rattle.sonic_pointer.specs.Nodes.{node_of}
use Rattle.sonic_pointer.specs.contracts.node.PointerNode.{the_row as PointerNode_at}
use Rattle.sonic_pointer.specs.declared.node.PointerNode.{PointerNode}
use Rattle.sonic_text.specs.TreePaths.{child}
use Rattle.sonic_value.proofs.LentValues.{Lent_at, Answer_at, answer_typed}
use Rattle.sonic_value.proofs.value.Value.TheLaws.{the_row_laws}
use Rattle.sonic_value.proofs.value.Value.get_mut.Code as code
use Rattle.sonic_value.proofs.value.Value.get_mut.Statement.{statement}
use Rattle.sonic_value.proofs.value.lend.ValueHolds.TheImpl.Met.{passed}
use Rattle.sonic_value.proofs.value.lend.lend_item.Met.{met}
use Rattle.sonic_value.specs.Views.{tree}
use Rattle.sonic_value.specs.contracts.value.Value.get_mut as f
use Rattle.sonic_value.specs.contracts.value.Value.{the_row as R}
use Rattle.sonic_value.specs.contracts.value.lend.ValueHolds.TheImpl.{ghosts, dict}
use Rattle.sonic_value.specs.contracts.value.lend.lend_item as g
use base.Fml.{Fml, Lft, Share, ftrue}
use base.Fraction.{full_share}
use base.Logic.{id⊢}
use contract.BorrowLft.{⊑_static}
use contract.Monad.{fact}
use contract.Running.{tables}
use denote.Exit.{yes, no}
use denote.Laws.{shows, Is}
use denote.Param.Laws.{Laws, arg_laws}
use denote.Param.{arg, layout}
use denote.RattleType.{RattleType}
use denote.Ref.{mut_vals, mut_Tells}
use denote.Signature.{plain, mut_ref_to}
use denote.Steps.{peeks, heard}
use denote.Triple.Call.{calls_at}
use denote.Triple.Clauses.{lasts}
use denote.Triple.Spec.{triple_of}
use denote.Triple.Table.{framed}
use denote.Triple.Walked.{Stays, walk_of, stay_dropped, Goes-dropped, Goes-spent_ref, ends_at}
use mir.Raw.{raw as bare}
use mir.Syntax.{named}
use mir.Val.{Val}
use types.ByLocal.{alloc_all, pass_all, free_all, look_at, get, through, sets, lands_as}
use types.Kit.{Item, ‵, raw, ◌⊛◌, some, later, ◌$◌, ◌∵◌, !, qed, move, drop, use1, use2, split, pick, await, suffices}
use types.Run.{enter, addr, of_opd, stop, no_more, and_then, returns}

abbrev A : RattleType
A = arg (bare (layout R)) no R

abbrev L : Laws A
L = arg_laws (bare (layout R)) no R the_row_laws refl

abbrev Node_at : Lft → RattleType
Node_at κ = PointerNode_at (record { mir = named 1; lft = κ })

abbrev nv : PointerNode → List Val
nv x = (node_told (record { mir = named 1; lft = [] })).val x ∷ []

abbrev stayed : Stays f.ended.signature.params f.ended.kept
stayed = (stay_dropped (mut_ref_to (0 ∷ []) tt (plain (λ _. R))) no, (stay_dropped (plain (λ κs. Node_at κs.1.0)) yes, tt))

pub get_mut_spec : {M : Type 1} → statement M
get_mut_spec {M} 𝓤 𝓛 𝓜 𝓡 wired =
    let c = f.clauses 𝓛 𝓜.mem 𝓡.returns in let W = walk_of 𝓛 f.ended stayed c in
    proved 𝓛 f.ended stayed c 𝓜 𝓡 (Goes-spent_ref 𝓛 2 (0 ∷ []) tt (plain (λ _. R)), (Goes-dropped 𝓛 2 (plain (λ κs. Node_at κs.1.0)) yes (λ κs x w. refl), tt))
    f.Key.name code.function (code.unfolded 𝓤 𝓛.H 𝓜 𝓡 wired)
    (λ κs. (mut_vals, (nv, tt))) (λ κs. (mut_Tells (named 0) κs.0 R, ((node_told (record { mir = named 1; lft = κs.1.0 })).tells, tt))) (λ κs qs bounds a _ are.
    let r = a.0 in let p = a.1.0 in
    let y : W.Ghost = ((κs, qs, bounds, a, (mut_vals r, (nv p, tt))), tt) in
    let G = triple_of 𝓛 (g.signature A) (g.spec A ghosts dict 𝓛 𝓜.mem 𝓡.returns) in
    let z : G.Ghost = (
      ((κs.0, (κs.1.0, ([], tt))), (qs.0, (qs.1.0, (full_share, tt))), (⊑_static κs.0, tt), (r, (p, tt)), (mut_vals r, (nv p, tt))),
      tt,
    ) in
    let O = Answer_at κs.0 R in
    let F : Option (MutBor R.Denot) → Fml = λ o. LendsSo R R r o (λ m w. IfSome o (λ x. (tree m ≡ put (node_of p ∷ []) (tree w) (tree r.now))
    × (w ≡ x.now → m ≡ r.now))) (λ m. m ≡ r.now) in
    let B : Option (MutBor R.Denot) → Fml = λ o. LendsSo R R r o (λ m w. OnSome o (tree m ≡ put (node_of p ∷ []) (tree w) (tree r.now))) (λ m. m ≡ r.now) in
    let V : Option (MutBor R.Denot) → Type 0 = λ o. option_map (λ found. tree found.now) o ≡ child (node_of p) (tree r.now) in
    let pt = (((node_laws (record { mir = named 1; lft = κs.1.0 })).lawful 𝓛).typed p (nv p) are.1.0).0 in
    let ts : List (Lft × Share) = (κs.0, qs.0) ∷ (κs.1.0, qs.1.0) ∷ [] in
    let own : Item 𝓤 = ‵ ((Lent_at κs.0 R).own_val r (mut_vals r)) ⊛ ‵ ((Node_at κs.1.0).own_val p (nv p)) ⊛ ‵ ftrue in
    qed 𝓛 ((tokens ts ⊛ own) ∷ ‵ ftrue ∷ []) ∵
    use2 𝓛 (raw (G.pre z)) (enters 𝓛 ts own (λ x m. m)) $
    enter ! _ _ _ _ _ $ alloc_all ! (λ l. pass_all ! refl ((tt, tt), (pt, tt)) $
    sets ! (addr ! (through ! refl (stop !))) refl (tt, tt) $
    sets ! (of_opd ! (get ! refl)) refl pt $
    calls_at ! (framed 𝓤 𝓛.H 𝓜 (tables 𝓤 𝓛.H 𝓜 𝓡 𝓡.env)) G
    (met 𝓤 𝓛 𝓜 𝓡 (code.calls-sonic_value::value::lend::lend_item 𝓡.env wired) A L ghosts dict
    (passed 𝓡.env (code.calls-sonic_value::value::lend::ValueHolds::elements 𝓡.env wired)
    (code.calls-sonic_value::value::lend::ValueHolds::members 𝓡.env wired) M 𝓤 𝓛 𝓜 𝓡)) z
    (and_then ! (get ! refl) (and_then ! (get ! refl) (no_more !))) (λ v.
    use1 𝓛 (later (some (λ (o : Option (MutBor R.Denot)). (tokens (and_static ts) ⊛ ‵ (O.own_val o (v ∷ []))) ⊛
    some (λ (ws : Unit {0} × (Unit {0} × Unit {0})). ‵ (lasts (g.ended A ghosts dict) z.0.0 z.0.3 ws) ⊛ ‵ (F o) ⊛ raw (fact 𝓤 (V o))))))
    (id⊢ 𝓤 _) $
    await ! tt $ pick ! (λ o. split ! $ split ! $ move ! (1 ∷ []) $
    -- [the answer; the tokens; the rest]
    peeks ! O (Is O) (shows 𝓛 O) o (v ∷ []) (λ is. lands_as ! refl refl (answer_typed κs.0 R 𝓛 o v is) $ returns ! (look_at ! 0 refl) $ free_all ! refl $
    move ! (2 ∷ []) $ pick ! (λ ws. split ! $ drop ! $ split ! $ move ! (1 ∷ []) $ heard ! (V o) (λ found.
    use1 𝓛 (‵ (B o)) (so_weaker 𝓛 R R r.ghost_name (ghost_name_of o) _ (λ w m. OnSome o (tree m ≡ put (node_of p ∷ []) (tree w) (tree r.now))) _ (λ m. m ≡ r.now)
    (λ w m lent. first_holds o _ _ lent) (λ m same. same)) $
    move ! (2 ∷ []) $ use1 𝓛 (tokens ts) (loses 𝓛 ts) $ split ! $ move ! (2 ∷ 0 ∷ 1 ∷ []) $
    suffices ! _ (ends_at 𝓛 f.ended stayed c y v o (tt, (tt, tt)) (tt, (tt, tt))) $
    closes ! (spent 𝓤 (spent 𝓤 (id⊢ 𝓤 _))) (told_last 𝓤 found))))))))
