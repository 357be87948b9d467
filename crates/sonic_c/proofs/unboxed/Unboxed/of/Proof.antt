-- `of` takes the box apart.
use Rattle.std.proofs.BoxSteps.Form as box
use Rattle.std.proofs.BoxSteps.Steps.{box_out, box_in}
use Rattle.std.proofs.Common.{◌≡◌, List, [], ◌∷◌, ◌++◌, refl, sym, ap, ◌∙◌, subst}
use Rattle.std.proofs.alloc.Calls.{Goes-blank, handle_tells}
use Rattle.std.specs.Box.Ownership.{box_owns}
use Rattle.std.proofs.boxed.Box.into_raw_with_allocator.Met.{met}
use Rattle.std.proofs.raw_atomic.Walks.{proved_at}
use Rattle.std.specs.contracts.boxed.Box.into_raw_with_allocator as g
use Rattle.sonic_c.proofs.UnboxedValues.{R, Z, pair_of, ptr_good, unboxed_good, unboxed_in}
use Rattle.sonic_c.proofs.unboxed.Unboxed.of.Code as code
use Rattle.sonic_c.proofs.unboxed.Unboxed.of.Statement.{statement}
use Rattle.sonic_c.specs.contracts.unboxed.Unboxed.of as f
use base.Fml.{ftrue, flft}
use base.Logic.{SProp, ent, emp, id⊢}
use contract.BorrowLft.{◌⊑◌}
use contract.Monad.{fact, fact_i}
use contract.Running.{tables}
use denote.Exit.{no}
use denote.Param.{bounded}
use denote.RattleType.{owns}
use denote.Signature.{plain, types_at}
use denote.Builtin.{RawPtr}
use denote.RawPtr.{Ptr}
use denote.Struct.Tuple.{Tuple}
use denote.Steps.{nothing, only, heard}
use denote.Triple.Call.{calls_at}
use denote.Triple.Clauses.{Lasts, lasts}
use denote.Triple.Spec.{triple_of}
use denote.Triple.Table.{framed}
use denote.Triple.Walked.{Stays, walk_of, stay_dropped, ends_at}
use mir.MapTy.{inst_fn}
use mir.Syntax.{a_type, dcons, dnil}
use mir.Val.{Val, vstruct, of_list}
use prog.Wp.{WpFn}
use types.ByLocal.{alloc_all, pass_all, free_all, look_at, get, get_in, sets, lands_as}
use types.Kit.{‵, raw, ◌⊛◌, some, later, ◌$◌, ◌∵◌, !, qed, done, move, keep, drop, split, split3, join, fsplit, fjoin, fpick, feq_l, pick, suffices, use0, use1, await, rewrite, group}
use types.Part.{agg, sub, whole}
use types.Run.{enter, of_opd, fld, stop, no_more, and_then, returns}

pub of_spec : {M : Type 1} → statement M
of_spec 𝓤 𝓛 𝓜 𝓡 wired T A L LA ghosts dict dropT dropA allocator glueT glueA =
    let 𝓣 = tables 𝓤 𝓛.H 𝓜 𝓡 𝓡.env in
    let E : box.Bx = record { row = T; laws = L; al = record { row = A; laws = LA; g = ghosts; d = dict; drops = dropA } } in
    let ended = f.ended T A ghosts dict dropT dropA in let c = f.clauses T A ghosts dict dropT dropA 𝓛 𝓜.mem 𝓡.returns in
    let at = bounded (a_type ∷ a_type ∷ []) (T, (A, tt)) (dcons dict (dcons dropT (dcons dropA dnil))) in let fn = inst_fn at code.function in
    let stayed : Stays ended.signature.params ended.kept = (stay_dropped (plain (λ _. box.B E)) no, tt) in
    proved_at 𝓛 ended stayed c 𝓜 𝓡 (Goes-blank 𝓛 2 (plain (λ _. box.B E)) no (λ κs x w. tt), tt)
    (f.Key.name at) fn (code.unfolded 𝓤 𝓛.H 𝓜 𝓡 wired (T, (A, tt)) dict dropT dropA) (λ z are.
    let κs = z.0.0 in let qs = z.0.1 in let d = z.0.3.0 in let a = d.alloc in
    let Post : Val → SProp 𝓤 = (walk_of 𝓛 ended stayed c).post z in
    let Run : List Val → SProp 𝓤 = λ ws. WpFn 𝓤 𝓛.H 𝓣.C 𝓣.Λ fn ws Post in
    let Toks = ‵ (flft κs.0 qs.0) ⊛ ‵ (flft κs.1.0 qs.1.0) ⊛ ‵ ftrue in
    let In = raw (fact 𝓤 (κs.0 ⊑ T.lives)) ⊛ raw (fact 𝓤 (κs.1.0 ⊑ A.lives)) ⊛ ‵ ftrue in
    qed 𝓛 ((Toks ⊛ ‵ (owns (types_at ended.signature.params κs) z.0.3 z.0.4)) ∷ In ∷ []) ∵
    split ! $ move ! (1 ∷ []) $ fsplit ! $ box_out E ! d z.0.4.0 (λ b o h at' is fits. box_in E ! d b o d.value at' refl $
    -- [the box; nothing; the tokens; what lives how long]
    let w : Val = box.word E h b o in let typed = box.box_typed E h b o fits in
    let G = triple_of 𝓛 (g.signature T A ghosts dict dropA dropT) (g.spec T A ghosts dict dropA dropT 𝓛 𝓜.mem 𝓡.returns) in
    let y : G.Ghost = ((κs, qs, tt, (d, tt), (w ∷ [], tt)), tt) in let Pair = Tuple (RawPtr ∷ Z T E.al ∷ []) in
    suffices ! (Run (w ∷ [])) (subst (λ (us : List Val). ent 𝓤 (Run (w ∷ [])) (Run us)) (sym (λ i. is i ++ [])) (id⊢ 𝓤 (Run (w ∷ [])))) $
    fjoin ! $ move ! (1 ∷ 0 ∷ []) $ join ! $ join ! $ use1 𝓛 (raw (G.pre y)) (id⊢ 𝓤 _) $
    enter ! 𝓣.C 𝓣.Λ fn (w ∷ []) Post $ alloc_all ! (λ l. pass_all ! refl (typed, tt) $ sets ! (of_opd ! (get ! refl)) refl typed $
    calls_at ! (framed 𝓤 𝓛.H 𝓜 𝓣) G
    (met 𝓤 𝓛 𝓜 𝓡 (code.calls-std_alloc::boxed::Box::into_raw_with_allocator 𝓡.env wired) T A L LA ghosts dict dropA dropT allocator glueA glueT) y
    (and_then ! (get ! refl) (no_more !)) (λ u.
    let Given = λ (r : Ptr × A.Denot). raw (fact 𝓤 (r.1 ≡ a)) ⊛ ‵ (box_owns (ghosts.dealloc_token a) (R T E.al) r.0 d.value) in
    use1 𝓛 (later (some (λ (r : Ptr × A.Denot). (Toks ⊛ ‵ (Pair.own_val r (u ∷ []))) ⊛
    some (λ (ls : Lasts (g.ended T A ghosts dict dropA dropT) κs y.0.3). ‵ (lasts (g.ended T A ghosts dict dropA dropT) κs y.0.3 ls) ⊛ Given r))))
    (id⊢ 𝓤 (G.post y u)) $
    await ! tt $ pick ! (λ r. split ! $ move ! (1 ∷ []) $ pick ! (λ _. split3 ! $ drop ! $ heard ! (r.1 ≡ a) (λ same. move ! (1 ∷ []) $ split ! $
    move ! (1 ∷ []) $ fpick ! (λ vss. fsplit ! $ feq_l ! (λ pair. fsplit ! $ feq_l ! (λ ptr. fsplit ! $
    rewrite ! 0 (λ (x : A.Denot). ‵ (A.own_val x vss.1.0)) same refl $ handle_tells E.al ! a vss.1.0 (λ h' is' fits'.
    -- [the allocator; nothing; the tokens; the box's memory]
    let made = unboxed_good T E.al r.0 h' fits' in
    lands_as ! (ap only (pair ∙ (λ i. vstruct (of_list (ptr i ++ (is' i ++ []))) ∷ []))) refl made $
    sets ! (of_opd ! (get_in ! (fld ! refl (stop !)) (sub ! 0 refl (whole !)))) refl (ptr_good r.0) $
    sets ! (of_opd ! (get_in ! (fld ! refl (stop !)) (sub ! 1 refl (whole !)))) refl fits' $ sets ! (of_opd ! (get ! refl)) refl fits' $
    sets ! (agg ! (and_then ! (get ! refl) (and_then ! (get ! refl) (no_more !)))) refl made $
    returns ! (look_at ! 0 refl) $ free_all ! refl $ move ! (3 ∷ 0 ∷ []) $ unboxed_in T E.al ! r.0 h' a d.value $
    nothing ! $ nothing ! $ fjoin ! $ use0 𝓛 (raw (fact 𝓤 (d.value ≡ d.value))) (fact_i 𝓤 _ (emp 𝓤) refl) $ keep ! (4 ∷ 1 ∷ 2 ∷ 0 ∷ []) $
    suffices ! _ (ends_at 𝓛 ended stayed c z (pair_of r.0 h') (record { at = r.0; alloc = a; value = d.value }) ((tt, (tt, tt)), tt) (tt, tt)) $
    group ! 3 $ done !)))))))))))
