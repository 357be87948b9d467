-- `into_box` makes the box of its pointer again.
use Rattle.std.proofs.BoxSteps.Form as box
use Rattle.std.proofs.BoxSteps.Steps.{box_out, box_in}
use Rattle.std.proofs.Common.{◌≡◌, List, [], ◌∷◌, ◌++◌, refl, sym, ap, subst}
use Rattle.std.proofs.VecSteps.Shapes.{after}
use Rattle.std.proofs.alloc.Calls.{Goes-blank}
use Rattle.std.proofs.boxed.Box.from_raw.Met.{met}
use Rattle.std.proofs.raw_atomic.Walks.{proved_at}
use Rattle.std.specs.contracts.boxed.Box.from_raw as g
use Rattle.sonic_c.proofs.UnboxedValues.{Unboxed_at, pair_of, ptr_good, unboxed_good, unboxed_out}
use Rattle.sonic_c.proofs.unboxed.Unboxed.into_box.Code as code
use Rattle.sonic_c.proofs.unboxed.Unboxed.into_box.Statement.{statement}
use Rattle.sonic_c.specs.contracts.unboxed.Unboxed.into_box as f
use base.Fml.{ftrue, flft}
use base.Logic.{SProp, ent, id⊢}
use contract.BorrowLft.{◌⊑◌}
use contract.Monad.{fact}
use contract.Running.{tables}
use denote.Exit.{no}
use denote.Param.{bounded, layout}
use denote.RattleType.{owns}
use denote.Signature.{plain, types_at}
use denote.RawPtr.{ptr_val}
use denote.Steps.{nothing, only}
use denote.Triple.Call.{calls_at_last}
use denote.Triple.Clauses.{Lasts, lasts}
use denote.Triple.Spec.{triple_of}
use denote.Triple.Table.{framed}
use denote.Triple.Walked.{Stays, walk_of, stay_dropped, ends_at}
use mir.MapTy.{inst_fn}
use mir.Syntax.{a_type, dcons, dnil}
use mir.Val.{Val, has_ty, WT}
use lib.Dec.{T as T'}
use prog.Wp.{WpFn}
use types.ByLocal.{alloc_all, pass_all, free_all, look_at, get, get_in, sets, lands_last, env}
use types.Kit.{‵, raw, ◌⊛◌, some, later, at_ret, ◌$◌, ◌∵◌, !, qed, done, move, keep, drop, split, split3, join, fsplit, fjoin, feq_i, pick, suffices, use1, await, rewrite, group}
use types.Part.{sub, whole}
use types.Run.{enter, of_opd, fld, stop, no_more, and_then, first, blocks, exec, returns}

pub into_box_spec : {M : Type 1} → statement M
into_box_spec 𝓤 𝓛 𝓜 𝓡 wired T A L LA ghosts dict dropT dropA allocator glueT glueA =
    let 𝓣 = tables 𝓤 𝓛.H 𝓜 𝓡 𝓡.env in
    let E : box.Bx = record { row = T; laws = L; al = record { row = A; laws = LA; g = ghosts; d = dict; drops = dropA } } in
    let ended = f.ended T A ghosts dict dropT dropA in let c = f.clauses T A ghosts dict dropT dropA 𝓛 𝓜.mem 𝓡.returns in
    let at = bounded (a_type ∷ a_type ∷ []) (T, (A, tt)) (dcons dict (dcons dropT (dcons dropA dnil))) in let fn = inst_fn at code.function in
    let stayed : Stays ended.signature.params ended.kept = (stay_dropped (plain (λ _. Unboxed_at T E.al)) no, tt) in
    proved_at 𝓛 ended stayed c 𝓜 𝓡 (Goes-blank 𝓛 2 (plain (λ _. Unboxed_at T E.al)) no (λ κs x w. tt), tt)
    (f.Key.name at) fn (code.unfolded 𝓤 𝓛.H 𝓜 𝓡 wired (T, (A, tt)) dict dropT dropA) (λ z are.
    let κs = z.0.0 in let qs = z.0.1 in let d = z.0.3.0 in let a = d.alloc in let p = d.at in
    let Post : Val → SProp 𝓤 = (walk_of 𝓛 ended stayed c).post z in
    let Run : List Val → SProp 𝓤 = λ ws. WpFn 𝓤 𝓛.H 𝓣.C 𝓣.Λ fn ws Post in
    let Toks = ‵ (flft κs.0 qs.0) ⊛ ‵ (flft κs.1.0 qs.1.0) ⊛ ‵ ftrue in
    let In = raw (fact 𝓤 (κs.0 ⊑ T.lives)) ⊛ raw (fact 𝓤 (κs.1.0 ⊑ A.lives)) ⊛ ‵ ftrue in
    qed 𝓛 ((Toks ⊛ ‵ (owns (types_at ended.signature.params κs) z.0.3 z.0.4)) ∷ In ∷ []) ∵
    split ! $ move ! (1 ∷ []) $ fsplit ! $ unboxed_out T E.al ! d z.0.4.0 (λ h is fits.
    -- [the box's memory; the allocator; nothing; the tokens; what lives how long]
    let w : Val = pair_of p h in let G = triple_of 𝓛 (g.signature T A ghosts dict dropA) (g.spec T A ghosts dict dropA 𝓛 𝓜.mem 𝓡.returns) in
    let y : G.Ghost = ((κs, qs, tt, (a, (p, tt)), (h ∷ [], (ptr_val p ∷ [], tt))), d.value) in
    suffices ! (Run (w ∷ [])) (subst (λ (us : List Val). ent 𝓤 (Run (w ∷ [])) (Run us)) (sym (λ i. is i ++ [])) (id⊢ 𝓤 (Run (w ∷ [])))) $
    move ! (4 ∷ []) $ split3 ! $ move ! (2 ∷ []) $ drop ! $ move ! (1 ∷ 2 ∷ []) $ join ! $ move ! (1 ∷ 0 ∷ []) $ join ! $
    feq_i ! (List Val) (ptr_val p ∷ []) (ptr_val p ∷ []) refl $ move ! (0 ∷ 3 ∷ []) $ fjoin ! $ move ! (2 ∷ 0 ∷ []) $ fjoin ! $
    move ! (2 ∷ 0 ∷ []) $ join ! $ join ! $ use1 𝓛 (raw (G.pre y)) (id⊢ 𝓤 _) $
    enter ! 𝓣.C 𝓣.Λ fn (w ∷ []) Post $ alloc_all ! (λ l. pass_all ! refl (unboxed_good T E.al p h fits, tt) $ let Ev = env fn.locals l in
    sets ! (of_opd ! (get_in ! (fld ! refl (stop !)) (sub ! 0 refl (whole !)))) refl (ptr_good p) $
    sets ! (of_opd ! (get_in ! (fld ! refl (stop !)) (sub ! 1 refl (whole !)))) refl fits $
    first ! $ blocks ! $ sets ! (of_opd ! (get ! refl)) refl fits $
    calls_at_last ! (framed 𝓤 𝓛.H 𝓜 𝓣) G (met 𝓤 𝓛 𝓜 𝓡 (code.calls-std_alloc::boxed::Box::from_raw 𝓡.env wired) T A L LA ghosts dict dropA allocator glueA) y
    (and_then ! (get ! refl) (and_then ! (get ! refl) (no_more !))) (λ u.
    let Made = λ (r : box.D E). raw (fact 𝓤 (r.value ≡ d.value)) ⊛ raw (fact 𝓤 (r.alloc ≡ a)) in
    use1 𝓛 (later (some (λ (r : box.D E). (Toks ⊛ ‵ ((box.B E).own_val r (u ∷ []))) ⊛
    some (λ (ls : Lasts (g.ended T A ghosts dict dropA) κs y.0.3). ‵ (lasts (g.ended T A ghosts dict dropA) κs y.0.3 ls) ⊛ Made r)))) (id⊢ 𝓤 (G.post y u)) $
    await ! tt $ pick ! (λ r. split ! $ move ! (1 ∷ []) $ pick ! (λ _. split ! $ drop ! $ split ! $ move ! (2 ∷ []) $ split ! $ move ! (1 ∷ []) $
    -- [the box; the tokens; what is known of it]
    box_out E ! r (u ∷ []) (λ b o h' at us fits'. box_in E ! r b o r.value at refl $
    rewrite ! 0 (λ (vs : List Val). ‵ ((box.B E).own_val r vs)) (sym us) refl $
    let good : T' (has_ty (layout (box.B E)) u) × WT u = subst (λ (v : Val). T' (has_ty (layout (box.B E)) v) × WT v) (sym (ap only us)) (box.box_typed E h' b o fits') in
    lands_last ! refl good $ exec ! 𝓣.C 𝓣.Λ Ev (after 3 fn.body) (at_ret Ev Post) $ sets ! (of_opd ! (get ! refl)) refl good $
    returns ! (look_at ! 0 refl) $ free_all ! refl $ nothing ! $ nothing ! $ fjoin ! $ keep ! (2 ∷ 0 ∷ 1 ∷ 3 ∷ []) $
    suffices ! _ (ends_at 𝓛 ended stayed c z u r ((tt, (tt, tt)), tt) (tt, tt)) $ group ! 3 $ done !)))))))
