-- The node asked of what names the item, and the call at a value. Assumes `Logic`.
use Rattle.std.proofs.Common.{◌≡◌, [], ◌∷◌, refl, subst, MutBor, Option, option_map, OnSome}
use Rattle.std.proofs.raw_atomic.Walks.{proved}
use Rattle.std.specs.Borrow.{LendsSo}
use Rattle.sonic_owned.proofs.Calls.{closes, spent, told_last}
use Rattle.sonic_owned.specs.TreePuts.{put}
use Rattle.sonic_pointer.specs.Nodes.{node_of}
use Rattle.sonic_pointer.specs.declared.node.PointerNode.{PointerNode}
use Rattle.sonic_text.specs.Paths.{Node}
use Rattle.sonic_text.specs.TreePaths.{child}
use Rattle.sonic_value.proofs.AskedNode.{Named_at, asks}
use Rattle.sonic_value.proofs.LentValues.{Lent_at, Answer_at, answer_typed}
use Rattle.sonic_value.proofs.index.AnyIndex.index_into_mut.Code as code
use Rattle.sonic_value.proofs.index.AnyIndex.index_into_mut.Statement.{statement}
use Rattle.sonic_value.proofs.value.Value.get_mut.Met.{met}
use Rattle.sonic_value.specs.Views.{tree}
use Rattle.sonic_value.specs.contracts.index.AnyIndex.index_into_mut as f
use Rattle.sonic_value.specs.contracts.value.Value.get_mut as g
use Rattle.sonic_value.specs.contracts.value.Value.{the_row as R}
use Rattle.sonic_value.specs.declared.index.Names.{Ghosts as Names}
use base.Fml.{Fml, ftrue, flft}
use base.Logic.{id⊢}
use contract.BorrowLft.{◌⊑◌}
use contract.Monad.{fact}
use contract.Running.{tables}
use denote.Builtin.{RefOf}
use denote.Exit.{yes, no}
use denote.Laws.{shows, Is}
use denote.Param.{param, bounded}
use denote.RattleType.{RattleType}
use denote.Ref.{mut_vals, mut_Tells, shr_vals, shr_Tells}
use denote.Signature.{plain, mut_ref_to}
use denote.Steps.{nothing, peeks, heard}
use denote.Triple.Call.{calls_at}
use denote.Triple.Clauses.{lasts, Ended, Lasts}
use denote.Triple.Spec.{triple_of}
use denote.Triple.Table.{framed}
use denote.Triple.Walked.{Stays, walk_of, stay_dropped, Goes-dropped, Goes-spent_ref, ends_at}
use mir.MapTy.{inst_fn}
use mir.Syntax.{Dict, Args, named, a_type, dcons, dnil}
use mir.Val.{Val}
use types.ByLocal.{alloc_all, pass_all, free_all, look_at, get, through, sets, lands_as}
use types.Kit.{‵, raw, ◌⊛◌, some, later, ◌$◌, ◌∵◌, !, qed, move, keep, drop, use1, use2, rewrite, split, join, pick, await, suffices}
use types.Run.{enter, addr, stop, no_more, and_then, returns}

module _ (S : RattleType) (names : Names S.Denot) (dict : Dict) where
  abbrev T : Ended
  T = f.ended S names dict

  abbrev stayed : Stays T.signature.params T.kept
  stayed = (
    stay_dropped (RefOf (0 ∷ []) tt (plain (λ _. param 0 S)) (λ _. tt)) yes,
    (stay_dropped (mut_ref_to (1 ∷ []) tt (plain (λ _. R))) no, tt),
  )

  abbrev given : Args
  given = bounded (a_type ∷ []) (S, tt) (dcons dict dnil)

pub index_into_mut_spec : {M : Type 1} → statement M
index_into_mut_spec {M} 𝓤 𝓛 𝓜 𝓡 wired S _ names dict asked =
    let T = T S names dict in let hs = stayed S names dict in
    let c = f.clauses S names dict 𝓛 𝓜.mem 𝓡.returns in let W = walk_of 𝓛 T hs c in
    proved 𝓛 T hs c 𝓜 𝓡 (
      Goes-dropped 𝓛 3 (RefOf (0 ∷ []) tt (plain (λ _. param 0 S)) (λ _. tt)) yes (λ κs x w. refl),
      (Goes-spent_ref 𝓛 3 (1 ∷ []) tt (plain (λ _. R)), tt),
    )
    (f.Key.name (given S names dict)) (inst_fn (given S names dict) code.function) (code.unfolded 𝓤 𝓛.H 𝓜 𝓡 wired (S, tt) dict)
    (λ κs. (shr_vals, (mut_vals, tt))) (λ κs. (shr_Tells (named 0) κs.0 (param 0 S), (mut_Tells (named 1) κs.1.0 R, tt))) (λ κs qs bounds a _ are.
    let κ = κs.0 in let κv = κs.1.0 in let κS = κs.1.1.0 in let q = qs.0 in let qv = qs.1.0 in let qS = qs.1.1.0 in
    let s = a.0 in let r = a.1.0 in let node = names.named s.now in
    let y : W.Ghost = ((κs, qs, bounds, a, (shr_vals s, (mut_vals r, tt))), tt) in
    let Key : RattleType = Named_at κ S in
    let Lent : RattleType = Lent_at κv R in
    let O : RattleType = Answer_at κv R in
    let G = triple_of 𝓛 g.signature (g.spec 𝓛 𝓜.mem 𝓡.returns) in
    let z : PointerNode → Val → G.Ghost = λ p v. (((κv, (κ, tt)), (qv, (q, tt)), tt, (r, (p, tt)), (mut_vals r, (v ∷ [], tt))), tt) in
    let F : Option (MutBor R.Denot) → Node → Fml = λ o m. LendsSo R R r o (λ n w. OnSome o (tree n ≡ put (m ∷ []) (tree w) (tree r.now))) (λ n. n ≡ r.now) in
    let V : Option (MutBor R.Denot) → Node → Type 0 = λ o m. option_map (λ found. tree found.now) o ≡ child m (tree r.now) in
    qed 𝓛 (((‵ (flft κ q) ⊛ ‵ (flft κv qv) ⊛ ‵ (flft κS qS) ⊛ ‵ ftrue) ⊛ ‵ (Key.own_val s (shr_vals s)) ⊛ ‵ (Lent.own_val r (mut_vals r)) ⊛ ‵ ftrue) ∷
    raw (fact 𝓤 (κS ⊑ S.lives)) ∷ ‵ ftrue ∷ []) ∵
    split ! $ move ! (2 ∷ []) $ heard ! (κS ⊑ S.lives) (λ lives. move ! (1 ∷ []) $ split ! $ move ! (1 ∷ []) $ split ! $ keep ! (3 ∷ 2 ∷ 0 ∷ []) $
    -- [the tokens; what names; r]
    split ! $ move ! (1 ∷ []) $ split ! $ move ! (1 ∷ []) $ split ! $ keep ! (3 ∷ 2 ∷ 0 ∷ 4 ∷ 5 ∷ []) $
    -- [the tokens one by one; what names; r]
    enter ! _ _ _ _ _ $ alloc_all ! (λ l. pass_all ! refl ((tt, tt), ((tt, tt), tt)) $
    sets ! (addr ! (through ! refl (stop !))) refl (tt, tt) $
    move ! (0 ∷ 2 ∷ 3 ∷ []) $
    asks S names dict 𝓛 𝓜 𝓡 κ κS q qS (bounds.0, tt) s ! asked.to_node lives (and_then ! (get ! refl) (no_more !)) (λ v p is_node typed.
    lands_as ! refl refl typed $
    -- [the node; the token of the node; the token of what names; the token of v; r]
    nothing ! $ move ! (2 ∷ 0 ∷ []) $ join ! $ move ! (3 ∷ 0 ∷ []) $ join ! $
    -- [the tokens; the node; the token of what names; r]
    nothing ! $ move ! (2 ∷ 0 ∷ []) $ join ! $ move ! (3 ∷ 0 ∷ []) $ join ! $ move ! (1 ∷ 0 ∷ []) $ join ! $
    nothing ! $ move ! (1 ∷ 0 ∷ []) $ use2 𝓛 (raw (G.pre (z p v))) (id⊢ 𝓤 _) $
    calls_at ! (framed 𝓤 𝓛.H 𝓜 (tables 𝓤 𝓛.H 𝓜 𝓡 𝓡.env)) G (met 𝓤 𝓛 𝓜 𝓡 (code.calls-sonic_value::value::Value::get_mut 𝓡.env wired)) (z p v)
    (and_then ! (get ! refl) (and_then ! (get ! refl) (no_more !))) (λ u.
    use1 𝓛 (later (some (λ (o : Option (MutBor R.Denot)). ((‵ (flft κv qv) ⊛ ‵ (flft κ q) ⊛ ‵ ftrue) ⊛ ‵ (O.own_val o (u ∷ []))) ⊛
    some (λ (ws : Lasts g.ended (z p v).0.0 (z p v).0.3). ‵ (lasts g.ended (z p v).0.0 (z p v).0.3 ws) ⊛ ‵ (F o (node_of p)) ⊛
    raw (fact 𝓤 (V o (node_of p)))))))
    (id⊢ 𝓤 _) $
    await ! tt $ pick ! (λ o. split ! $ split ! $ move ! (2 ∷ []) $ pick ! (λ ws. split ! $ drop ! $ split ! $
    move ! (1 ∷ []) $ heard ! (V o (node_of p)) (λ found. rewrite ! 0 (λ (m : Node). ‵ (F o m)) is_node refl $ move ! (2 ∷ []) $
    -- [the answer; what it leaves; the tokens; the token of what names]
    peeks ! O (Is O) (shows 𝓛 O) o (u ∷ []) (λ is.
    lands_as ! refl refl (answer_typed κv R 𝓛 o u is) $
    returns ! (look_at ! 0 refl) $ free_all ! refl $ move ! (2 ∷ []) $ split ! $ move ! (1 ∷ []) $ split ! $ move ! (1 ∷ []) $ drop ! $
    nothing ! $ move ! (5 ∷ 0 ∷ []) $ join ! $ move ! (2 ∷ 0 ∷ []) $ join ! $ move ! (3 ∷ 1 ∷ 0 ∷ 2 ∷ []) $
    suffices ! _ (ends_at 𝓛 T hs c y u o (tt, (tt, tt)) (tt, (tt, tt))) $
    closes ! (spent 𝓤 (spent 𝓤 (id⊢ 𝓤 _))) (told_last 𝓤 (subst (V o) is_node found)))))))))))
