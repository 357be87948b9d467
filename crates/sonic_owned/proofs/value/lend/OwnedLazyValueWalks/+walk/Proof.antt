-- The recursion that lends. Assumes `Logic`.
use Rattle.sonic_owned.proofs.Steps.{Fml, Lft, Share, ftrue, flft, SProp, ent, sep, emp, id⊢, fact, Running, tables, RefOf, usize, shape, Enum-Lawful, yes, no, shows, Is, layout, uint_vals, uint_Tells, RattleType, MutRef, mut_vals, mut_Tells, mut_Lawful, ShrRef, shr_vals, shr_Tells, plain, mut_ref_to, nothing, peeks, heard, calls_at, lasts, triple_of, Contract, framed, Stays, walk_of, stay_dropped, Goes-dropped, Goes-spent_ref, ends_at, T, Body, Fn, named, w64, Val, of_list, has_ty, WT, Model, Env, Calls, Loops, WpFn, Ura, alloc_all, pass_all, free_all, look_at, get, through, sets, lands_as, Item, ‵, raw, ◌⊛◌, some, later, Post, ◌$◌, ◌∵◌, !, qed, done, move, keep, drop, use0, use1, use2, rewrite, split, join, fjoin, pick, await, suffices, Logic, sem, live, enter, addr, of_opd, stop, no_more, and_then, returns}
use Rattle.std.proofs.Common.{◌≡◌, ℕ, suc, ◌-◌, ◌<◌, [], ◌∷◌, ◌++◌, ◌^◌, refl, sym, subst, lit<, arith, Bor, MutBor, Ok, Err, IsOk, OnErr}
use Rattle.std.proofs.ResultValues.{ok_of, err_of, and_tt}
use Rattle.std.proofs.VecSteps.Shapes.{arm_body}
use Rattle.std.specs.Borrow.{LendsSoOk, name_if_ok}
use Rattle.std.specs.contracts.result.Result as RS
use Rattle.sonic_owned.proofs.Loans.{is_zero, is_suc, so_self, so_then, so_weaker, by_result}
use Rattle.sonic_owned.proofs.Lent.{of_part}
use Rattle.sonic_owned.proofs.ValueLemmas.{value_sound}
use Rattle.sonic_owned.proofs.WalkLemmas.{put_none, put_further, found_further, found_stop, IsWalked, left_along, along_further}
use Rattle.sonic_owned.proofs.value.lend.OwnedLazyValueWalks.+walk.{statement, functions}
use Rattle.sonic_owned.proofs.value.lend.OwnedLazyValueWalks.+walk.Code as code
use Rattle.sonic_owned.proofs.value.lend.OwnedLazyValueWalks.+walk.Code.+walk as the_mir
use Rattle.sonic_owned.proofs.value.lend.Stop.TheLaws.{the_row_laws as stop_laws, the_told as stop_told}
use Rattle.sonic_owned.proofs.value.lend.Way.TheLaws.{the_row_laws as way_laws}
use Rattle.sonic_owned.proofs.value.lend.item_next.Met.{met}
use Rattle.sonic_owned.specs.Internal.Lends.{AtNode, HasItem, HasNoItem, IfAtNode, IsLent, IsItemPut, IsLeft, Lending, OfPart, last_nodes}
use Rattle.sonic_owned.specs.Puts.{IsPartOf, IsPut}
use Rattle.sonic_owned.specs.Reached.{IsOpenedAlong}
use Rattle.sonic_owned.specs.Opened.{IsClosedOf}
use Rattle.sonic_find.specs.Paths.{kind_of}
use Rattle.sonic_owned.specs.Views.{form}
use Rattle.sonic_owned.specs.contracts.value.OwnedLazyValue.{the_row as R}
use Rattle.sonic_owned.specs.contracts.value.lend.OwnedLazyValueWalks.walk as f
use Rattle.sonic_owned.specs.contracts.value.lend.Stop.{the_row as StopRow}
use Rattle.sonic_owned.specs.contracts.value.lend.Way.{the_row as Way_at}
use Rattle.sonic_owned.specs.contracts.value.lend.item_next as g
use Rattle.sonic_owned.specs.declared.value.lend.Way.{Way}
use contract.Lifetimes.{AllOutlive, Lfts, Shares}
use contract.Running.{tables_of}
use denote.Plain.{uint_Makes}
use denote.Ref.{shr_copy}
use denote.Steps.{owned}
use denote.Triple.Call.{calls_from_last}
use denote.Triple.Clauses.{Clauses}
use denote.Triple.Cycle.{measured, at_on, mutual_elim}
use denote.Triple.Entry.{on_entry}
use denote.Triple.Walked.{says, walked_at, walk_meets_at}
use lib.WfN.{lt-wf_rel}
use mathlib.Core.Option as maybe
use prog.Wired.{Wired}
use prog.Wp.{Wp, Tables, after_seq}
use sound.WpLaws.{WpFn-mono}
use types.ByLocal.{get_in, get_tag, sets_last, lands_last, env}
use types.Kit.{at_ret, any_q, post, by, frame}
use types.Match.{vrt, in_variant}
use types.Part.{whole, agg}
use types.Run.{bin, lit, fld, returns_within, first, branches, skips, exec, switches_on}

abbrev D : Type 0
D = R.Denot

abbrev fn : Fn
fn = code.walk-function

abbrev Path : Lft → Lft → RattleType
Path κ λ₁ = Way_at (record { mir = named 2; lft = κ }) (record { mir = named 3; lft = λ₁ })

abbrev stayed : Stays f.ended.signature.params f.ended.kept
stayed = (
  stay_dropped (mut_ref_to (0 ∷ []) tt (plain (λ _. R))) no,
  (
    stay_dropped (RefOf (1 ∷ []) tt (plain (λ κs. Path κs.1.1.0 κs.1.1.1.0)) (λ _. tt)) yes,
    (stay_dropped (plain (λ _. usize)) yes, tt),
  ),
)

abbrev PathRef : Type 0
PathRef = Bor Way

-- what the result of `item_next` leaves, and that of `walk`
abbrev KidP : PathRef → ℕ → MutBor D → Lending → D → D → Type 0
KidP p n r o w m = IsOk o → OfPart o (λ i. AtNode n p.now.nodes.now (λ node. IsItemPut node (form r.now) i (form w) (form m)))

abbrev DownP : PathRef → ℕ → MutBor D → Lending → D → D → Type 0
DownP p n r o w m = IsOk o → OfPart o (λ i. IsPut (last_nodes n p.now.nodes.now) (form r.now) i (form w) (form m))

abbrev KidN : PathRef → ℕ → MutBor D → Lending → D → Type 0
KidN p n r o m = OnErr o (IsLeft (AtNode n p.now.nodes.now (λ node. IsOpenedAlong (node ∷ []) (form r.now) (form m))) o (form r.now) (form m))

abbrev DownN : PathRef → ℕ → MutBor D → Lending → D → Type 0
DownN p n r o m = OnErr o (IsOpenedAlong (last_nodes n p.now.nodes.now) (form r.now) (form m))

-- what each says of its result
abbrev KidV : PathRef → ℕ → MutBor D → Lending → Type 0
KidV p n r o = IsLent (λ i. AtNode n p.now.nodes.now (λ node. HasItem node (form r.now) i)) (AtNode n p.now.nodes.now (λ node. HasNoItem node (form r.now)))
    (IfAtNode n p.now.nodes.now (λ node. IsClosedOf (kind_of node) (form r.now))) o

abbrev DownV : PathRef → ℕ → MutBor D → Lending → Type 0
DownV p n r o = IsWalked n p.now.nodes.now (form r.now) o

abbrev Kid : PathRef → ℕ → MutBor D → Lending → Fml
Kid p n r o = LendsSoOk R R r o (λ m w. OfPart o (λ i. AtNode n p.now.nodes.now (λ node. IsItemPut node (form r.now) i (form w) (form m))))
    (λ m. IsLeft (AtNode n p.now.nodes.now (λ node. IsOpenedAlong (node ∷ []) (form r.now) (form m))) o (form r.now) (form m))

abbrev Down : PathRef → ℕ → MutBor D → Lending → Fml
Down p n r o = LendsSoOk R R r o (λ m w. OfPart o (λ i. IsPut (last_nodes n p.now.nodes.now) (form r.now) i (form w) (form m)))
    (λ m. IsOpenedAlong (last_nodes n p.now.nodes.now) (form r.now) (form m))

-- the part of an item
down_put : (p : PathRef) (n : ℕ) (r x : MutBor D) (o : Lending) (w k m : D) → DownP p (n - 1) x o w k → KidP p n r (Ok x) k m → DownP p n r o w m
down_put p n r x o w k m d e ok = of_part o _ _ (λ i u. put_further (e refl) u) (d ok)

down_left : (p : PathRef) (n : ℕ) (r x : MutBor D) (o : Lending) (k m : D) → DownN p (n - 1) x o k → KidP p n r (Ok x) k m → DownN p n r o m
down_left p n r x (Ok y) k m d e = tt
down_left p n r x (Err stop) k m d e = along_further (e refl) d

module _ {M : Type 1} (𝓤 : Ura M) (𝓛 : Logic 𝓤) (𝓜 : Model 𝓤 𝓛.H) (𝓡 : Running 𝓤 𝓛.H 𝓜) (wired : Wired 𝓡.env code.code) where
  open 𝓛 use {H}

  abbrev C : Calls 𝓤 H
  C = (tables 𝓤 H 𝓜 𝓡 𝓡.env).C

  abbrev Λ : Loops 𝓤 H
  Λ = (tables 𝓤 H 𝓜 𝓡 𝓡.env).Λ

  abbrev then_runs : Env 𝓤 H → Body → Post 𝓤 H → Post 𝓤 H
  then_runs E b q = any_q (after_seq 𝓤 H (Wp 𝓤 H C Λ E b (post 𝓤 H q)) (post 𝓤 H q))

  abbrev c : Clauses 𝓤 f.ended
  c = f.clauses 𝓛 𝓜.mem 𝓡.returns

  abbrev W : Contract 𝓤
  W = walk_of 𝓛 f.ended stayed c

  abbrev G : Contract 𝓤
  G = triple_of 𝓛 f.signature (f.spec 𝓛 𝓜.mem 𝓡.returns)

  abbrev K : Contract 𝓤
  K = triple_of 𝓛 g.signature (g.spec 𝓛 𝓜.mem 𝓡.returns)

  module _ (κs : Lfts 4) (qs : Shares 4) (bounds : AllOutlive 4 f.signature.outlives κs) (p : PathRef) where
    abbrev κ : Lft
    κ = κs.0

    abbrev q : Share
    q = qs.0

    abbrev Lent : RattleType
    Lent = MutRef (named 0) κ R

    abbrev Shown : RattleType
    Shown = ShrRef (named 1) κs.1.0 (Path κs.1.1.0 κs.1.1.1.0)

    abbrev E : RattleType
    E = RS.the_row Lent StopRow

    -- the tokens
    abbrev Toks : Item 𝓤
    Toks = ‵ (flft κ q) ⊛ ‵ (flft κs.1.0 qs.1.0) ⊛ ‵ (flft κs.1.1.0 qs.1.1.0) ⊛ ‵ (flft κs.1.1.1.0 qs.1.1.1.0) ⊛ ‵ ftrue

    abbrev toks : SProp 𝓤
    toks = sep 𝓤 (𝓛.A.lft κ q) (sep 𝓤 (𝓛.A.lft κs.1.0 qs.1.0) (sep 𝓤 (𝓛.A.lft κs.1.1.0 qs.1.1.0) (sep 𝓤 (𝓛.A.lft κs.1.1.1.0 qs.1.1.1.0) (emp 𝓤))))

    abbrev at : MutBor D → ℕ → W.Ghost
    at r n = ((κs, qs, bounds, (r, (p, (n, tt))), (mut_vals r, (shr_vals p, (uint_vals w64 n, tt)))), tt)

    abbrev entry : MutBor D → ℕ → Item 𝓤
    entry r n = Toks ⊛ ‵ (Lent.own_val r (mut_vals r)) ⊛ ‵ (Shown.own_val p (shr_vals p)) ⊛ ‵ (usize.own_val n (uint_vals w64 n)) ⊛ ‵ ftrue

    both : ent 𝓤 (sem 𝓛 (Shown.own_val p (shr_vals p))) (sep 𝓤 (sem 𝓛 (Shown.own_val p (shr_vals p))) (sem 𝓛 (Shown.own_val p (shr_vals p))))
    both = (shr_copy 𝓛 (named 1) κs.1.0 (Path κs.1.1.0 κs.1.1.1.0) (way_laws (record { mir = named 2; lft = κs.1.1.0 })
        (record { mir = named 3; lft = κs.1.1.1.0 })).shr_laws).twice p (shr_vals p)

    typed : (o : Lending) (v : Val) → Is E o (v ∷ []) → T (has_ty (layout E) v) × WT v
    typed o v is = ((Enum-Lawful 𝓛 (shape (RS.the_type Lent StopRow)) tt ((mut_Lawful 𝓛 (named 0) κ R, tt), ((stop_laws.lawful 𝓛, tt), tt))).typed _
        (v ∷ []) is).0

    -- what a call asks, at the references and the tokens
    asks : (r : MutBor D) (n : ℕ) → n < 2 ^ 64 → ent 𝓤 (sep 𝓤 (sem 𝓛 (Lent.own_val r (mut_vals r))) (sep 𝓤 (sem 𝓛 (Shown.own_val p (shr_vals p))) toks))
        (sep 𝓤 (on_entry 𝓛 f.signature κs qs (r, (p, (n, tt))) (mut_vals r, (shr_vals p, (uint_vals w64 n, tt)))) (emp 𝓤))
    asks r n fits =
        qed 𝓛 (‵ (Lent.own_val r (mut_vals r)) ∷ ‵ (Shown.own_val p (shr_vals p)) ∷ Toks ∷ []) ∵
        nothing ! $ owned ! usize _ (uint_Makes 𝓛 w64) n _ (refl, fits) $ fjoin ! $ move ! (2 ∷ 0 ∷ []) $ fjoin ! $ move ! (1 ∷ 0 ∷ []) $ fjoin ! $
        move ! (1 ∷ 0 ∷ []) $ join ! $ nothing ! $ move ! (1 ∷ 0 ∷ []) $ done !

    out : (r : MutBor D) (n : ℕ) (o : Lending) (v : Val) → DownV p n r o → ent 𝓤 (sep 𝓤 (sem 𝓛 (E.own_val o (v ∷ []))) (sep 𝓤 toks (sem 𝓛 (Down p n r o))))
        (W.post (at r n) v)
    out r n o v found =
        qed 𝓛 (‵ (E.own_val o (v ∷ [])) ∷ Toks ∷ ‵ (Down p n r o) ∷ []) ∵
        suffices ! _ (ends_at 𝓛 f.ended stayed c (at r n) v o (tt, (tt, (tt, tt))) (tt, (tt, (tt, tt)))) $
        nothing ! $ nothing ! $ fjoin ! $ nothing ! $ fjoin ! $ nothing ! $ fjoin ! $ join ! $ move ! (1 ∷ 0 ∷ []) $ join ! $ frame ! $ says ! found $ done !

    walk : (r : MutBor D) (n : ℕ) → n < 2 ^ 64 → ((y : G.Ghost) → y.0.3.1.1.0 < n → ent 𝓤 (G.pre y) (C f.Key.name (G.args y) (G.post y)))
        → ent 𝓤 (sep 𝓤 (on_entry 𝓛 f.signature κs qs (r, (p, (n, tt))) (mut_vals r, (shr_vals p, (uint_vals w64 n, tt)))) (emp 𝓤))
        (WpFn 𝓤 H C Λ fn (mut_vals r ++ (shr_vals p ++ uint_vals w64 n)) (W.post (at r n)))
    walk r n fits self =
        let path = p.now.nodes.now in let old = form r.now in
        qed 𝓛 (entry r n ∷ ‵ ftrue ∷ []) ∵
        split ! $ move ! (1 ∷ []) $ split ! $ move ! (1 ∷ []) $ split ! $ keep ! (2 ∷ 0 ∷ 3 ∷ []) $
        enter ! C Λ fn (mut_vals r ++ (shr_vals p ++ uint_vals w64 n)) _ $
        alloc_all ! (λ l. pass_all ! refl ((tt, tt), ((tt, tt), ((tt, record { fits = fits }), tt))) $
        let En : Env 𝓤 H = env fn.locals l in
        -- [r; p; the tokens]
        sets ! (bin ! (get ! refl) (lit ! tt) tt) refl (tt, tt) $
        first ! $ branches ! (get ! refl)
        (λ zero.
        sets ! (addr ! (through ! refl (stop !))) refl (tt, tt) $
        sets ! (agg ! (and_then ! (lit ! tt) (and_then ! (get ! refl) (no_more !)))) refl (tt, (record { fits = lit< tt }, (tt, tt))) $
        returns_within ! (W.post (at r n)) refl (look_at ! 0 refl) $ free_all ! refl $
        use1 𝓛 (‵ (E.own_val (Ok r) (live 0 (of_list (mut_vals r)) ∷ []))) (ok_of 𝓛 Lent StopRow r _) $
        use0 𝓛 (‵ (Down p n r (Ok r))) (so_self 𝓛 R r.ghost_name (λ w m. DownP p n r (Ok r) w m) (λ m. DownN p n r (Ok r) m)
        (λ w _. subst (λ k. IsPut (last_nodes k path) old old (form w) (form w)) (sym (is_zero n zero)) (put_none path old (form w))) r.now tt) $
        keep ! (1 ∷ 3 ∷ 0 ∷ []) $ by ! (out r n (Ok r) (live 0 (of_list (mut_vals r)))
        (subst (λ k. IsPartOf (last_nodes k path) old old) (sym (is_zero n zero)) (old, put_none path old old))))
        (λ more. skips ! $ exec ! C Λ En the_mir.t-3 (at_ret En (W.post (at r n))) $
        let less : n ≡ suc (n - 1) = is_suc n more in
        sets ! (addr ! (through ! refl (stop !))) refl (tt, tt) $
        let z : K.Ghost = at r n in
        move ! (1 ∷ []) $ use1 𝓛 (‵ (Shown.own_val p (shr_vals p)) ⊛ ‵ (Shown.own_val p (shr_vals p))) both $ split ! $
        move ! (3 ∷ []) $ move ! (1 ∷ 0 ∷ []) $ join ! $ move ! (2 ∷ 0 ∷ []) $
        use2 𝓛 (raw (K.pre z)) (asks r n fits) $
        calls_at ! (framed 𝓤 H 𝓜 (tables 𝓤 H 𝓜 𝓡 𝓡.env)) K (met 𝓤 𝓛 𝓜 𝓡 (code.calls-sonic_owned::value::lend::item_next 𝓡.env wired)) z
        (and_then ! (get ! refl) (and_then ! (get ! refl) (and_then ! (get ! refl) (no_more !)))) (λ v.
        use1 𝓛 (later (some (λ (o : Lending). (Toks ⊛ ‵ (E.own_val o (v ∷ []))) ⊛
        some (λ (ws : Unit {0} × (Unit {0} × (Unit {0} × Unit {0}))). ‵ (lasts g.ended z.0.0 z.0.3 ws) ⊛ ‵ (Kid p n r o) ⊛ raw (fact 𝓤 (KidV p n r o))))))
        (id⊢ 𝓤 _) $
        await ! tt $ pick ! (λ o. split ! $ split ! $ move ! (1 ∷ []) $
        -- [the result; the tokens; the rest; p]
        by_result 𝓛 R StopRow stop_told κ ! o v
        -- an item
        (λ x ex ev. lands_as ! ev refl (tt, (record { fits = lit< tt }, (tt, tt))) $
        first ! $ switches_on ! (get_tag ! (vrt ! refl (fld ! refl (stop !))) (whole !)) $
        exec ! C Λ En (arm_body 0 the_mir.s-5) (then_runs En the_mir.t-6 (at_ret En (W.post (at r n)))) $
        sets ! (of_opd ! (get_in ! (vrt ! refl (fld ! refl (stop !))) (in_variant ! 0 0 refl refl (whole !)))) refl (tt, tt) $
        sets ! (addr ! (through ! refl (stop !))) refl (tt, tt) $
        sets ! (bin ! (get ! refl) (lit ! tt) (omega (arith, less))) refl (tt, record { fits = omega (arith, less, fits) }) $
        let y : G.Ghost = at x (n - 1) in
        move ! (3 ∷ 1 ∷ []) $ join ! $ move ! (1 ∷ 0 ∷ []) $
        use2 𝓛 (raw (G.pre y)) (asks x (n - 1) (omega (arith, less, fits))) $
        calls_from_last ! (framed 𝓤 H 𝓜 (tables 𝓤 H 𝓜 𝓡 𝓡.env)) (raw (G.pre y)) (G.args y) (G.post y) (self y (omega (arith, less)))
        (and_then ! (get ! refl) (and_then ! (get ! refl) (and_then ! (get ! refl) (no_more !)))) (λ v'.
        use1 𝓛 (later (some (λ (o' : Lending). (Toks ⊛ ‵ (E.own_val o' (v' ∷ []))) ⊛
        some (λ (ws : Unit {0} × (Unit {0} × (Unit {0} × Unit {0}))). ‵ (lasts f.ended y.0.0 y.0.3 ws) ⊛ ‵ (Down p (n - 1) x o') ⊛ raw
        (fact 𝓤 (DownV p (n - 1) x o')))))) (id⊢ 𝓤 _) $
        await ! tt $ pick ! (λ o'. split ! $ split ! $ move ! (1 ∷ []) $
        peeks ! E (Is E) (shows 𝓛 E) o' (v' ∷ []) (λ is.
        lands_last ! refl (typed o' v' is) $
        exec ! C Λ En the_mir.t-6 (at_ret En (W.post (at r n))) $
        sets ! (of_opd ! (get ! refl)) refl (typed o' v' is) $
        returns ! (look_at ! 0 refl) $ free_all ! refl $
        -- [the result; the tokens; what `walk` says; what `item_next` says]
        move ! (2 ∷ []) $ pick ! (λ ws. split ! $ drop ! $ split ! $ move ! (1 ∷ []) $ heard ! (DownV p (n - 1) x o') (λ found. move ! (3 ∷ []) $
        pick ! (λ ws'. split ! $ drop ! $ split ! $ move ! (1 ∷ []) $ heard ! (KidV p n r o) (λ was.
        rewrite ! 0 (λ (u : Lending). ‵ (Kid p n r u)) ex refl $
        use2 𝓛 (‵ (Down p n r o')) (so_then 𝓛 R r.ghost_name x.ghost_name (name_if_ok (λ (z : MutBor D). z.ghost_name) o') (λ w m. KidP p n r (Ok x) w m)
        (λ m. KidN p n r (Ok x) m) (λ w m. DownP p (n - 1) x o' w m) (λ m. DownN p (n - 1) x o' m)
        (λ w m. DownP p n r o' w m) (λ m. DownN p n r o' m) (λ w k m d e. down_put p n r x o' w k m d e) (λ k m d e. down_left p n r x o' k m d e)) $
        keep ! (1 ∷ 2 ∷ 0 ∷ []) $ by ! (out r n o' v' (found_further o' (subst (λ u. KidV p n r u) ex was) found))))))))))
        -- none
        (λ e en ev. peeks ! StopRow (Is StopRow) (shows 𝓛 StopRow) e (stop_told.val e ∷ [])
        (λ is. let t = ((stop_laws.lawful 𝓛).typed e (stop_told.val e ∷ []) is).0 in
        lands_as ! ev refl (and_tt _ t.0, (record { fits = lit< tt }, (t.1, tt))) $
        first ! $ switches_on ! (get_tag ! (vrt ! refl (fld ! refl (stop !))) (whole !)) $
        exec ! C Λ En (arm_body 1 the_mir.s-5) (then_runs En the_mir.t-6 (at_ret En (W.post (at r n)))) $
        sets ! (of_opd ! (get_in ! (vrt ! refl (fld ! refl (stop !))) (in_variant ! 1 0 refl refl (whole !)))) refl t $
        sets ! (of_opd ! (get ! refl)) refl t $
        sets_last ! (agg ! (and_then ! (lit ! tt) (and_then ! (get ! refl) (no_more !)))) refl (and_tt _ t.0, (record { fits = lit< tt }, (t.1, tt))) $
        exec ! C Λ En the_mir.t-6 (at_ret En (W.post (at r n))) $
        sets ! (of_opd ! (get ! refl)) refl (and_tt _ t.0, (record { fits = lit< tt }, (t.1, tt))) $
        returns ! (look_at ! 0 refl) $ free_all ! refl $
        move ! (2 ∷ []) $ pick ! (λ ws. split ! $ drop ! $ split ! $ move ! (1 ∷ []) $
        heard ! (KidV p n r o) (λ was. rewrite ! 0 (λ (u : Lending). ‵ (Kid p n r u)) en refl $
        use1 𝓛 (‵ (Down p n r (Err e))) (so_weaker 𝓛 R R r.ghost_name maybe.none (λ w m. KidP p n r (Err e) w m) (λ w m. DownP p n r (Err e) w m)
        (λ m. KidN p n r (Err e) m) (λ m. DownN p n r (Err e) m) (λ w m _ _. tt) (λ m left. left_along n path e old (form m) left)) $
        move ! (1 ∷ []) $ use1 𝓛 (‵ (E.own_val (Err e) (live 1 (of_list (stop_told.val e ∷ [])) ∷ []))) (err_of 𝓛 Lent StopRow e (stop_told.val e)) $
        keep ! (0 ∷ 2 ∷ 1 ∷ []) $ by ! (out r n (Err e) (live 1 (of_list (stop_told.val e ∷ [])))
        (found_stop n path e (λ i. AtNode n path (λ node. HasItem node old i)) (value_sound r.now) (omega (arith, less)) (subst (λ u. KidV p n r u) en was)))))))))))

pub +walk_spec : {M : Type 1} → statement M
unfolding tables_of
+walk_spec {M} 𝓤 𝓛 𝓜 𝓡 wired =
    let H = 𝓛.H in
    let 𝓣 : Tables 𝓤 H = tables_of 𝓤 H 𝓜 (tables 𝓤 H 𝓜 𝓡 𝓡.env) in
    let run = WpFn 𝓤 H 𝓣.C 𝓣.Λ fn in
    mutual_elim 𝓛 (functions 𝓛 𝓜.mem 𝓡.run 𝓡.returns 𝓡.env) ◌<◌ lt-wf_rel.wf (measured 𝓛 _ (λ y. y.0.3.1.1.0)) (λ t below.
    at_on 𝓛 f.signature (f.spec 𝓛 𝓜.mem 𝓡.returns) run (𝓣.C f.Key.name) (code.walk-unfolded 𝓤 H 𝓜 𝓡 wired) (λ y. y.0.3.1.1.0) t (λ y e.
    walk_meets_at 𝓛 f.ended stayed (
      Goes-spent_ref 𝓛 4 (0 ∷ []) tt (plain (λ _. R)),
      (
        Goes-dropped 𝓛 4 (RefOf (1 ∷ []) tt (plain (λ κs. Path κs.1.1.0 κs.1.1.1.0)) (λ _. tt)) yes (λ κs x w. refl),
        (Goes-dropped 𝓛 4 (plain (λ _. usize)) yes (λ κs x w. refl), tt),
      ),
    )
    (f.clauses 𝓛 𝓜.mem 𝓡.returns) run (WpFn-mono 𝓤 H 𝓛.laws 𝓣 fn) y
    (walked_at 𝓛 f.ended stayed (f.clauses 𝓛 𝓜.mem 𝓡.returns) run y (mut_vals, (shr_vals, (uint_vals w64, tt)))
    (mut_Tells (named 0) y.0.0.0 R, (shr_Tells (named 1) y.0.0.1.0 (Path y.0.0.1.1.0 y.0.0.1.1.1.0), (uint_Tells w64, tt)))
    (λ are. walk 𝓤 𝓛 𝓜 𝓡 wired y.0.0 y.0.1 y.0.2 y.0.3.1.0 y.0.3.0 y.0.3.1.1.0 are.1.1.0.1
    (λ y' lt. below y'.0.3.1.1.0 (subst (λ (s : ℕ). y'.0.3.1.1.0 < s) e lt) y' refl)))))
