-- The call that lends, and its answer. Assumes `Logic`.
use Rattle.sonic_owned.proofs.Steps.{proved, Fml, Lft, Share, ftrue, full_share, id⊢, ⊑_static, fact, tables, yes, no, follows_so, shows, Is, Laws, arg_laws, arg, layout, RattleType, MutRef, mut_vals, mut_Tells, plain, mut_ref_to, peeks, heard, struct_tells, calls_at, lasts, triple_of, framed, Stays, walk_of, stay_dropped, Goes-dropped, Goes-spent_ref, ends_at, bare, named, alloc_all, pass_all, free_all, look_at, get, through, sets, lands_as, Item, ‵, raw, ◌⊛◌, some, later, ◌$◌, ◌∵◌, !, qed, move, drop, use1, use2, split, pick, await, suffices, Logic, enter, addr, stop, no_more, and_then, returns}
use Rattle.std.proofs.Common.{List, [], ◌∷◌, refl, MutBor}
use Rattle.std.proofs.alloc.Global.TheLaws.{the_laws as global_laws}
use Rattle.std.specs.Borrow.{LendsSoOk}
use Rattle.std.specs.contracts.alloc.Global as GL
use Rattle.sonic_owned.proofs.AnswerLemmas.{path_says, path_back}
use Rattle.sonic_owned.proofs.Answered.{Lent_at, answers, lent_typed, answer_typed}
use Rattle.sonic_owned.proofs.Calls.{and_static, closes, enters, loses, spent, told, told_last, tokens}
use Rattle.sonic_owned.proofs.LevelWalk.{alloc_vals}
use Rattle.sonic_owned.proofs.value.OwnedLazyValue.TheLaws.{the_row_laws}
use Rattle.sonic_owned.proofs.value.OwnedLazyValue.pointer_mut.Code as code
use Rattle.sonic_owned.proofs.value.OwnedLazyValue.pointer_mut.Statement.{statement}
use Rattle.sonic_owned.proofs.value.lend.OwnedLazyValueWalks.TheImpl.Met.{passed}
use Rattle.sonic_owned.proofs.value.lend.found_or_error.Met as answering
use Rattle.sonic_owned.proofs.value.lend.lend_part.Met.{met}
use Rattle.sonic_owned.specs.Lends.{answer_name, LoanAnswer, IsLeftBehind, OfAnswer}
use Rattle.sonic_owned.specs.Internal.Lends.{IsPathFound, Lending, OfPart}
use Rattle.sonic_owned.specs.Puts.{IsPut}
use Rattle.sonic_owned.specs.Views.{form}
use Rattle.sonic_owned.specs.contracts.value.OwnedLazyValue.pointer_mut as f
use Rattle.sonic_owned.specs.contracts.value.OwnedLazyValue.{the_row as R}
use Rattle.sonic_owned.specs.contracts.value.lend.OwnedLazyValueWalks.TheImpl.{ghosts, dict}
use Rattle.sonic_owned.specs.contracts.value.lend.lend_part as g
use Rattle.sonic_pointer.specs.Nodes.{path_of}
use Rattle.sonic_pointer.specs.contracts.node.PointerNode.{the_row as PointerNode_at}
use Rattle.sonic_pointer.specs.declared.node.PointerNode.{PointerNode}
use denote.Builtin.{SliceRefOf}
use denote.Slice.{ShrSlice, shr_slice_vals, shr_slice_Tells, shr_slice_Lawful}

abbrev D : Type 0
D = R.Denot

abbrev A : RattleType
A = arg (bare (layout R)) no R

abbrev L : Laws A
L = arg_laws (bare (layout R)) no R the_row_laws refl

abbrev Node_at : Lft → RattleType
Node_at κ = PointerNode_at (record { mir = named 2; lft = κ })

abbrev stayed : Stays f.ended.signature.params f.ended.kept
stayed = (
  stay_dropped (mut_ref_to (0 ∷ []) tt (plain (λ _. R))) no,
  (
    stay_dropped (plain (λ _. GL.the_row)) yes,
    (stay_dropped (SliceRefOf (1 ∷ []) tt (plain (λ κs. Node_at κs.1.1.0)) (λ _. tt)) yes, tt),
  ),
)

-- what is left at the end of the loan
abbrev Left : List PointerNode → MutBor D → LoanAnswer D → Fml
Left path r a = follows_so R R r.ghost_name (answer_name a) (λ w m. OfAnswer a (λ i. IsPut (path_of path) (form r.now) i (form w) (form m)))
    (λ m. IsLeftBehind path (form r.now) (form m))

pub pointer_mut_spec : {M : Type 1} → statement M
pointer_mut_spec {M} 𝓤 𝓛 𝓜 𝓡 wired =
    let c = f.clauses 𝓛 𝓜.mem 𝓡.returns in
    let G = triple_of 𝓛 (g.signature A) (g.spec A ghosts dict 𝓛 𝓜.mem 𝓡.returns) in
    proved 𝓛 f.ended stayed c 𝓜 𝓡 (
      Goes-spent_ref 𝓛 3 (0 ∷ []) tt (plain (λ _. R)),
      (
        Goes-dropped 𝓛 3 (plain (λ _. GL.the_row)) yes (λ κs x w. refl),
        (Goes-dropped 𝓛 3 (SliceRefOf (1 ∷ []) tt (plain (λ κs. Node_at κs.1.1.0)) (λ _. tt)) yes (λ κs x w. refl), tt),
      ),
    )
    f.Key.name code.function (code.unfolded 𝓤 𝓛.H 𝓜 𝓡 wired)
    (λ κs. (mut_vals, (alloc_vals, (shr_slice_vals, tt)))) (λ κs. (
      mut_Tells (named 0) κs.0 R,
      (struct_tells GL.the_type global_laws, (shr_slice_Tells (named 1) κs.1.0 (Node_at κs.1.1.0), tt)),
    )) (λ κs qs bounds a _ are.
    let r = a.0 in let p = a.1.1.0 in let path = p.now in let old = form r.now in
    let y : (walk_of 𝓛 f.ended stayed c).Ghost = ((κs, qs, bounds, a, (mut_vals r, (alloc_vals a.1.0, (shr_slice_vals p, tt)))), tt) in
    let z : G.Ghost = (
      ((κs.0, (κs.1.0, (κs.1.1.0, ([], tt)))), (qs.0, (qs.1.0, (qs.1.1.0, (full_share, tt)))), (bounds.0, (⊑_static κs.0, tt)), a, y.0.4),
      tt,
    ) in
    let E = Lent_at κs.0 R in
    let Shown = ShrSlice (named 1) κs.1.0 (Node_at κs.1.1.0) in
    let own : Item 𝓤 = ‵ ((MutRef (named 0) κs.0 R).own_val r (mut_vals r)) ⊛ ‵ (GL.the_row.own_val a.1.0 (alloc_vals a.1.0)) ⊛
    ‵ (Shown.own_val p (shr_slice_vals p)) ⊛ ‵ ftrue in
    let typed = ((shr_slice_Lawful 𝓛 (named 1) κs.1.0 (Node_at κs.1.1.0)).typed p (shr_slice_vals p) are.1.1.0).0 in
    let others : List (Lft × Share) = (κs.1.0, qs.1.0) ∷ (κs.1.1.0, qs.1.1.0) ∷ [] in let ts : List (Lft × Share) = (κs.0, qs.0) ∷ others in
    qed 𝓛 ((tokens ts ⊛ own) ∷ ‵ ftrue ∷ []) ∵
    use2 𝓛 (raw (G.pre z)) (enters 𝓛 ts own (λ x m. m)) $
    enter ! _ _ _ _ _ $ alloc_all ! (λ l. pass_all ! refl ((tt, tt), ((tt, ((tt, tt), tt)), (typed, tt))) $
    sets ! (addr ! (through ! refl (stop !))) refl (tt, tt) $
    calls_at ! (framed 𝓤 𝓛.H 𝓜 (tables 𝓤 𝓛.H 𝓜 𝓡 𝓡.env)) G (met 𝓤 𝓛 𝓜 𝓡 (code.calls-sonic_owned::value::lend::lend_part 𝓡.env wired) A L ghosts dict
    (passed 𝓡.env (code.calls-sonic_owned::value::lend::OwnedLazyValueWalks::walk 𝓡.env wired) M 𝓤 𝓛 𝓜 𝓡)) z
    (and_then ! (get ! refl) (and_then ! (get ! refl) (and_then ! (get ! refl) (no_more !)))) (λ v.
    use1 𝓛 (later (some (λ (o : Lending). (tokens (and_static ts) ⊛ ‵ (E.own_val o (v ∷ []))) ⊛
    some (λ (ws : Unit {0} × (Unit {0} × (Unit {0} × Unit {0}))). ‵ (lasts (g.ended A ghosts dict) z.0.0 z.0.3 ws) ⊛
    ‵ (LendsSoOk R R r o (λ m w. OfPart o (λ i. IsPut (path_of path) old i (form w) (form m))) (λ m. IsLeftBehind path old (form m))) ⊛
    raw (fact 𝓤 (IsPathFound path old o)))))) (id⊢ 𝓤 _) $
    await ! tt $ pick ! (λ o. split ! $ split ! $ split ! $ move ! (2 ∷ []) $
    -- [what is lent; the token of r; the other tokens; the rest]
    peeks ! E (Is E) (shows 𝓛 E) o (v ∷ []) (λ is. lands_as ! refl refl (lent_typed κs.0 R 𝓛 o v is) $ move ! (1 ∷ 0 ∷ []) $
    answers A 𝓛 𝓜 𝓡 κs.0 qs.0 o v ! (answering.met 𝓤 𝓛 𝓜 𝓡 (code.calls-sonic_owned::value::lend::found_or_error 𝓡.env wired) A L) (λ x m. m)
    (and_then ! (get ! refl) (no_more !)) (λ v' a' is_a isa.
    lands_as ! refl refl (answer_typed κs.0 R 𝓛 a' v' isa) $ returns ! (look_at ! 0 refl) $ free_all ! refl $
    -- [the answer; the token of r; the other tokens; the rest]
    move ! (3 ∷ []) $ pick ! (λ ws. split ! $ drop ! $ split ! $ move ! (1 ∷ []) $ heard ! (IsPathFound path old o) (λ found.
    let says = path_says path old o a' found is_a in
    use1 𝓛 (‵ (Left path r a')) (path_back 𝓛 r path o a' is_a) $
    move ! (3 ∷ []) $ use1 𝓛 (tokens others) (loses 𝓛 others) $ move ! (1 ∷ 3 ∷ 0 ∷ []) $
    suffices ! _ (ends_at 𝓛 f.ended stayed c y v' a' (tt, (tt, (tt, tt))) (tt, (tt, (tt, tt)))) $
    closes ! (spent 𝓤 (spent 𝓤 (spent 𝓤 (id⊢ 𝓤 _)))) (told 𝓤 says.says.some (told 𝓤 says.says.none (told 𝓤 says.err (told 𝓤 says.limit (told_last 𝓤 says.memory)))))))))))))
