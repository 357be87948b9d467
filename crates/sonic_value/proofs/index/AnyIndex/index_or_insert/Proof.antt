-- The node asked of what names the item, and the generic call at a value. Assumes `Logic`.
use Rattle.std.proofs.Common.{◌≡◌, List, [], ◌∷◌, refl, subst, MutBor, Result, Ok, Some, IfOk, IfErr}
use Rattle.std.proofs.alloc.Global.TheLaws.{the_laws as global_laws}
use Rattle.std.proofs.raw_atomic.Walks.{proved}
use Rattle.std.specs.Borrow.{LendsSoOk}
use Rattle.std.specs.contracts.alloc.Global as GL
use Rattle.std.specs.contracts.result.Result as RS
use Rattle.sonic_owned.proofs.Calls.{closes, spent, told, told_last}
use Rattle.sonic_error.proofs.error.Error.TheLaws.{the_row_laws as error_laws}
use Rattle.sonic_error.specs.contracts.error.Error.{the_row as ErrorRow}
use Rattle.sonic_error.specs.declared.error.Error.{Error}
use Rattle.sonic_owned.specs.TreePuts.{put}
use Rattle.sonic_pointer.specs.Nodes.{node_of}
use Rattle.sonic_pointer.specs.declared.node.PointerNode.{PointerNode}
use Rattle.sonic_text.specs.Paths.{Node}
use Rattle.sonic_text.specs.TreePaths.{child}
use Rattle.sonic_text.specs.Trees.{Tree}
use Rattle.sonic_value.proofs.AskedNode.{Named_at, asks}
use Rattle.sonic_value.proofs.index.AnyIndex.index_or_insert.Code as code
use Rattle.sonic_value.proofs.index.AnyIndex.index_or_insert.Statement.{statement}
use Rattle.sonic_value.proofs.index.ValueInserts.TheImpl.Met.{passed as inserts}
use Rattle.sonic_value.proofs.index.lend_or_insert.Met.{met}
use Rattle.sonic_value.proofs.value.Value.TheLaws.{the_row_laws}
use Rattle.sonic_value.proofs.value.lend.ValueHolds.TheImpl.Met.{passed as holds}
use Rattle.sonic_value.specs.Indexing.{with_node, IsUnindexed}
use Rattle.sonic_value.specs.Views.{tree}
use Rattle.sonic_value.specs.contracts.index.AnyIndex.index_or_insert as f
use Rattle.sonic_value.specs.contracts.index.ValueInserts.TheImpl as VI
use Rattle.sonic_value.specs.contracts.index.lend_or_insert as g
use Rattle.sonic_value.specs.contracts.value.Value.{the_row as R}
use Rattle.sonic_value.specs.contracts.value.lend.ValueHolds.TheImpl as VH
use Rattle.sonic_value.specs.declared.index.Names.{Ghosts as Names}
use base.Fml.{Fml, ftrue, flft}
use base.Fraction.{full_share}
use base.Logic.{id⊢, emp}
use contract.BorrowLft.{◌⊑◌, ⊑_static}
use contract.Monad.{fact, fact_i}
use contract.Running.{tables}
use denote.Builtin.{RefOf}
use denote.Enum.Declared.{shape}
use denote.Enum.Enum.{Enum-Lawful}
use denote.Exit.{yes, no}
use denote.Laws.{shows, Is}
use denote.Param.Laws.{Laws, arg_laws}
use denote.Param.{arg, param, layout, bounded}
use denote.RattleType.{RattleType}
use denote.Ref.{MutRef, mut_vals, mut_Tells, mut_Lawful, shr_vals, shr_Tells}
use denote.Signature.{plain, mut_ref_to}
use denote.Steps.{nothing, peeks, heard}
use denote.Struct.Laws.{val as struct_val, tells as struct_tells}
use denote.Triple.Call.{calls_at}
use denote.Triple.Clauses.{lasts, Ended, Lasts}
use denote.Triple.Spec.{triple_of}
use denote.Triple.Table.{framed}
use denote.Triple.Walked.{Stays, walk_of, stay_dropped, Goes-dropped, Goes-spent_ref, ends_at}
use mir.MapTy.{inst_fn}
use mir.Raw.{raw as bare}
use mir.Syntax.{Dict, Args, named, a_type, dcons, dnil}
use mir.Val.{Val}
use types.ByLocal.{alloc_all, pass_all, free_all, look_at, get, through, sets, lands_as}
use types.Kit.{‵, raw, ◌⊛◌, some, later, ◌$◌, ◌∵◌, !, qed, move, keep, drop, use0, use1, use2, rewrite, split, join, pick, await, suffices}
use types.Run.{enter, addr, stop, no_more, and_then, returns}

abbrev A : RattleType
A = arg (bare (layout R)) no R

abbrev L : Laws A
L = arg_laws (bare (layout R)) no R the_row_laws refl

abbrev gv : GL.the_row.Denot → List Val
gv x = struct_val GL.the_type global_laws x ∷ []

module _ (S : RattleType) (names : Names S.Denot) (dict : Dict) where
  abbrev T : Ended
  T = f.ended S names dict

  abbrev stayed : Stays T.signature.params T.kept
  stayed = (
    stay_dropped (RefOf (0 ∷ []) tt (plain (λ _. param 0 S)) (λ _. tt)) yes,
    (
      stay_dropped (plain (λ _. GL.the_row)) yes,
      (stay_dropped (mut_ref_to (1 ∷ []) tt (plain (λ _. R))) no, tt),
    ),
  )

  abbrev given : Args
  given = bounded (a_type ∷ []) (S, tt) (dcons dict dnil)

pub index_or_insert_spec : {M : Type 1} → statement M
index_or_insert_spec {M} 𝓤 𝓛 𝓜 𝓡 wired S _ names dict asked =
    let T = T S names dict in let hs = stayed S names dict in
    let c = f.clauses S names dict 𝓛 𝓜.mem 𝓡.returns in let W = walk_of 𝓛 T hs c in
    proved 𝓛 T hs c 𝓜 𝓡 (
      Goes-dropped 𝓛 3 (RefOf (0 ∷ []) tt (plain (λ _. param 0 S)) (λ _. tt)) yes (λ κs x w. refl),
      (
        Goes-dropped 𝓛 3 (plain (λ _. GL.the_row)) yes (λ κs x w. refl),
        (Goes-spent_ref 𝓛 3 (1 ∷ []) tt (plain (λ _. R)), tt),
      ),
    )
    (f.Key.name (given S names dict)) (inst_fn (given S names dict) code.function) (code.unfolded 𝓤 𝓛.H 𝓜 𝓡 wired (S, tt) dict)
    (λ κs. (shr_vals, (gv, (mut_vals, tt)))) (λ κs. (
      shr_Tells (named 0) κs.0 (param 0 S),
      (
        struct_tells GL.the_type global_laws,
        (mut_Tells (named 1) κs.1.0 R, tt),
      ),
    )) (λ κs qs bounds a _ are.
    let κ = κs.0 in let κv = κs.1.0 in let κS = κs.1.1.0 in let q = qs.0 in let qv = qs.1.0 in let qS = qs.1.1.0 in
    let s = a.0 in let al = a.1.0 in let r = a.1.1.0 in let node = names.named s.now in
    let y : W.Ghost = ((κs, qs, bounds, a, (shr_vals s, (gv al, (mut_vals r, tt)))), tt) in
    let Key : RattleType = Named_at κ S in
    let Lent : RattleType = MutRef (named 1) κv R in
    let O : RattleType = RS.the_row Lent ErrorRow in
    let G = triple_of 𝓛 (g.signature A) (g.spec A VI.ghosts VI.dict VH.ghosts VH.dict 𝓛 𝓜.mem 𝓡.returns) in
    let E : Ended = g.ended A VI.ghosts VI.dict VH.ghosts VH.dict in
    let z : PointerNode → Val → G.Ghost = λ p v. (
      (
        (κv, (κ, ([], tt))),
        (qv, (q, (full_share, tt))),
        (⊑_static κv, tt),
        (r, (al, (p, tt))),
        (mut_vals r, (gv al, (v ∷ [], tt))),
      ),
      tt,
    ) in
    let F : Result (MutBor R.Denot) Error → Node → Fml = λ o m. LendsSoOk R R r o
    (λ n w. (base : Tree) × (with_node m (tree r.now) ≡ Ok base) × (tree n ≡ put (m ∷ []) (tree w) base)) (λ n. tree n ≡ tree r.now) in
    let V : Result (MutBor R.Denot) Error → Node → Type 0 = λ o m. IfOk o (λ lent. (base : Tree) × (with_node m (tree r.now) ≡ Ok base)
    × (child m base ≡ Some (tree lent.now))) in
    let X : Result (MutBor R.Denot) Error → Node → Type 0 = λ o m. IfErr o (IsUnindexed m (tree r.now)) in
    qed 𝓛 (((‵ (flft κ q) ⊛ ‵ (flft κv qv) ⊛ ‵ (flft κS qS) ⊛ ‵ ftrue) ⊛ ‵ (Key.own_val s (shr_vals s)) ⊛ ‵ (GL.the_row.own_val al (gv al)) ⊛
    ‵ (Lent.own_val r (mut_vals r)) ⊛ ‵ ftrue) ∷ raw (fact 𝓤 (κS ⊑ S.lives)) ∷ ‵ ftrue ∷ []) ∵
    split ! $ move ! (2 ∷ []) $ heard ! (κS ⊑ S.lives) (λ lives.
    move ! (1 ∷ []) $ split ! $ move ! (1 ∷ []) $ split ! $ move ! (1 ∷ []) $ split ! $ keep ! (4 ∷ 3 ∷ 2 ∷ 0 ∷ []) $
    -- [the tokens; what names; alloc; r]
    split ! $ move ! (1 ∷ []) $ split ! $ move ! (1 ∷ []) $ split ! $ keep ! (3 ∷ 2 ∷ 0 ∷ 4 ∷ 5 ∷ 6 ∷ []) $
    -- [the tokens one by one; what names; alloc; r]
    enter ! _ _ _ _ _ $ alloc_all ! (λ l. pass_all ! refl ((tt, tt), ((tt, ((tt, tt), tt)), ((tt, tt), tt))) $
    sets ! (addr ! (through ! refl (stop !))) refl (tt, tt) $
    move ! (0 ∷ 2 ∷ 3 ∷ []) $
    asks S names dict 𝓛 𝓜 𝓡 κ κS q qS (bounds.0, tt) s ! asked.to_node lives (and_then ! (get ! refl) (no_more !)) (λ v p is_node typed.
    lands_as ! refl refl typed $
    -- [the node; the token of the node; the token of what names; the token of v; alloc; r]
    nothing ! $ use0 𝓛 (‵ (flft [] full_share)) (𝓛.lfts.lft-nil full_share) $ join ! $ move ! (2 ∷ 0 ∷ []) $ join ! $ move ! (3 ∷ 0 ∷ []) $ join ! $
    -- [the tokens; the node; the token of what names; alloc; r]
    nothing ! $ move ! (2 ∷ 0 ∷ []) $ join ! $ move ! (3 ∷ 0 ∷ []) $ join ! $ move ! (3 ∷ 0 ∷ []) $ join ! $ move ! (1 ∷ 0 ∷ []) $ join ! $
    nothing ! $ use0 𝓛 (raw (fact 𝓤 ([] ⊑ R.lives))) (fact_i 𝓤 _ (emp 𝓤) (λ x m. m)) $ join ! $ move ! (1 ∷ 0 ∷ []) $
    use2 𝓛 (raw (G.pre (z p v))) (id⊢ 𝓤 _) $
    calls_at ! (framed 𝓤 𝓛.H 𝓜 (tables 𝓤 𝓛.H 𝓜 𝓡 𝓡.env)) G (met 𝓤 𝓛 𝓜 𝓡 (code.calls-sonic_value::index::lend_or_insert 𝓡.env wired) A L
    VI.ghosts VI.dict VH.ghosts VH.dict
    (inserts 𝓡.env (code.calls-sonic_value::index::ValueInserts::insert 𝓡.env wired) M 𝓤 𝓛 𝓜 𝓡)
    (holds 𝓡.env (code.calls-sonic_value::value::lend::ValueHolds::elements 𝓡.env wired)
    (code.calls-sonic_value::value::lend::ValueHolds::members 𝓡.env wired) M 𝓤 𝓛 𝓜 𝓡)) (z p v)
    (and_then ! (get ! refl) (and_then ! (get ! refl) (and_then ! (get ! refl) (no_more !)))) (λ u.
    use1 𝓛 (later (some (λ (o : Result (MutBor R.Denot) Error). ((‵ (flft κv qv) ⊛ ‵ (flft κ q) ⊛ ‵ (flft [] full_share) ⊛ ‵ ftrue) ⊛
    ‵ (O.own_val o (u ∷ []))) ⊛
    some (λ (ws : Lasts E (z p v).0.0 (z p v).0.3). ‵ (lasts E (z p v).0.0 (z p v).0.3 ws) ⊛ ‵ (F o (node_of p)) ⊛
    raw (fact 𝓤 (V o (node_of p))) ⊛ raw (fact 𝓤 (X o (node_of p)))))))
    (id⊢ 𝓤 _) $
    await ! tt $ pick ! (λ o. split ! $ split ! $ move ! (2 ∷ []) $ pick ! (λ ws. split ! $ drop ! $ split ! $
    move ! (1 ∷ []) $ split ! $ heard ! (V o (node_of p)) (λ found. heard ! (X o (node_of p)) (λ why.
    rewrite ! 0 (λ (m : Node). ‵ (F o m)) is_node refl $ move ! (2 ∷ []) $
    -- [the answer; what it leaves; the tokens; the token of what names]
    peeks ! O (Is O) (shows 𝓛 O) o (u ∷ []) (λ is.
    lands_as ! refl refl ((Enum-Lawful 𝓛 (shape (RS.the_type Lent ErrorRow)) tt ((mut_Lawful 𝓛 (named 1) κv R, tt), ((error_laws.lawful 𝓛, tt), tt))).typed _
    (u ∷ []) is).0 $
    returns ! (look_at ! 0 refl) $ free_all ! refl $ move ! (2 ∷ []) $ split ! $ move ! (1 ∷ []) $ split ! $ move ! (1 ∷ []) $ drop ! $
    nothing ! $ move ! (5 ∷ 0 ∷ []) $ join ! $ move ! (2 ∷ 0 ∷ []) $ join ! $ move ! (3 ∷ 1 ∷ 0 ∷ 2 ∷ []) $
    suffices ! _ (ends_at 𝓛 T hs c y u o (tt, (tt, (tt, tt))) (tt, (tt, (tt, tt)))) $
    closes ! (spent 𝓤 (spent 𝓤 (spent 𝓤 (id⊢ 𝓤 _)))) (told 𝓤 (subst (V o) is_node found) (told_last 𝓤 (subst (X o) is_node why)))))))))))))
