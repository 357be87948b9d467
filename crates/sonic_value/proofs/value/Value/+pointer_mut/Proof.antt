-- The recursion that lends. Assumes `Logic`.
use Rattle.std.proofs.Common.{◌≡◌, ◌==◌, ◌<◌, ℕ, List, [], ◌∷◌, ◌++◌, refl, ap, sym, subst, lit<, length, drop, Bool, Bor, MutBor, Option, Some, None, option_map, OnSome, IfSome}
use Rattle.std.proofs.VecSteps.Element.{Some-of, none_of}
use Rattle.std.proofs.VecSteps.Shapes.{arm_body}
use Rattle.std.specs.Borrow.{LendsSo}
use Rattle.std.specs.Option.{ghost_name_of}
use Rattle.sonic_owned.proofs.Loans.{so_self, so_then, so_weaker}
use Rattle.sonic_owned.specs.TreePuts.{put}
use Rattle.sonic_pointer.proofs.node.PointerNode.TheLaws.{the_row_laws as node_laws}
use Rattle.sonic_pointer.specs.Nodes.{path_of}
use Rattle.sonic_pointer.specs.contracts.node.PointerNode.{the_row as PointerNode_at}
use Rattle.sonic_pointer.specs.declared.node.PointerNode.{PointerNode}
use Rattle.sonic_text.specs.TreePaths.{child, leads}
use Rattle.sonic_value.proofs.LentValues.{Lent_at, Answer_at, answer_typed, by_option}
use Rattle.sonic_value.proofs.PathLemmas.{GoesOn, none_left, some_left, fewer, leads_further, leads_nowhere, put_further}
use Rattle.sonic_value.proofs.value.Value.+pointer_mut.{statement, functions}
use Rattle.sonic_value.proofs.value.Value.+pointer_mut.Code as code
use Rattle.sonic_value.proofs.value.Value.+pointer_mut.Code.+pointer_mut as the_mir
use Rattle.sonic_value.proofs.value.Value.TheLaws.{the_row_laws}
use Rattle.sonic_value.proofs.value.lend.ValueHolds.TheImpl.Met.{passed}
use Rattle.sonic_value.proofs.value.lend.after_first.Met as after
use Rattle.sonic_value.proofs.value.lend.ends.Met as ending
use Rattle.sonic_value.proofs.value.lend.lend_first.Met.{met}
use Rattle.sonic_value.specs.Internal.Loans.{AtFirst}
use Rattle.sonic_value.specs.Views.{tree}
use Rattle.sonic_value.specs.contracts.value.Value.pointer_mut as f
use Rattle.sonic_value.specs.contracts.value.Value.{the_row as R}
use Rattle.sonic_value.specs.contracts.value.lend.ValueHolds.TheImpl.{ghosts, dict}
use Rattle.sonic_value.specs.contracts.value.lend.after_first as tc
use Rattle.sonic_value.specs.contracts.value.lend.ends as ec
use Rattle.sonic_value.specs.contracts.value.lend.lend_first as g
use base.Fml.{Fml, Lft, ftrue, flft}
use base.Fraction.{full_share}
use base.Logic.{SProp, ent, sep, emp, id⊢}
use contract.BorrowLft.{◌⊑◌, ⊑_static}
use contract.Lifetimes.{AllOutlive, Lfts, Shares}
use contract.Monad.{fact, fact_i}
use contract.Running.{Running, tables, tables_of}
use denote.Builtin.{SliceRefOf, bool}
use denote.Exit.{yes, no}
use denote.Laws.{shows, Is}
use denote.Param.Laws.{Laws, arg_laws}
use denote.Param.{arg, layout}
use denote.Plain.{bool_Tells}
use denote.RattleType.{RattleType}
use denote.Ref.{mut_vals, mut_Tells}
use denote.Signature.{plain, mut_ref_to}
use denote.Slice.{ShrSlice, shr_slice_vals, shr_slice_Tells, shr_slice_Lawful, shr_slice_copy}
use denote.Steps.{nothing, only, peeks, heard}
use denote.Triple.Call.{calls_at, calls_from_last}
use denote.Triple.Clauses.{lasts, Clauses, Lasts}
use denote.Triple.Cycle.{measured, at_on, mutual_elim}
use denote.Triple.Entry.{on_entry}
use denote.Triple.Spec.{triple_of}
use denote.Triple.Statement.{Contract}
use denote.Triple.Table.{framed}
use denote.Triple.Walked.{says, Stays, walk_of, stay_dropped, Goes-dropped, Goes-spent_ref, ends_at, walked_at, walk_meets_at}
use lib.WfN.{lt-wf_rel}
use mathlib.Core.Option as maybe
use mir.Raw.{raw as bare}
use mir.Syntax.{Body, Fn, named}
use mir.Val.{Val, of_list}
use prog.Model.{Model}
use prog.Wired.{Wired}
use prog.Wp.{Env, Calls, Loops, WpFn, Wp, Tables, after_seq}
use seplogic.Ra.Ura.{Ura}
use sound.WpLaws.{WpFn-mono}
use types.ByLocal.{alloc_all, pass_all, free_all, look_at, get, get_in, get_tag, through, sets, sets_last, lands_as, lands_last, env}
use types.Kit.{Item, ‵, raw, ◌⊛◌, some, later, at_ret, any_q, post, Post, ◌$◌, ◌∵◌, !, qed, by, done, move, keep, drop as forget, use0, use1, use2, rewrite, split, join, fjoin, pick, await, suffices, frame}
use types.Logic.{Logic, sem}
use types.Match.{live, vrt, in_variant}
use types.Part.{whole, agg}
use types.Run.{enter, addr, lit, of_opd, stop, fld, no_more, and_then, returns, returns_within, first, branches, skips, exec, switches_on}

abbrev D : Type 0
D = R.Denot

abbrev A : RattleType
A = arg (bare (layout R)) no R

abbrev L : Laws A
L = arg_laws (bare (layout R)) no R the_row_laws refl

abbrev fn : Fn
fn = code.pointer_mut-function

abbrev Node_at : Lft → RattleType
Node_at κ = PointerNode_at (record { mir = named 2; lft = κ })

abbrev stayed : Stays f.ended.signature.params f.ended.kept
stayed = (
  stay_dropped (mut_ref_to (0 ∷ []) tt (plain (λ _. R))) no,
  (stay_dropped (SliceRefOf (1 ∷ []) tt (plain (λ κs. Node_at κs.1.1.0)) (λ _. tt)) yes, tt),
)

abbrev Path : Type 0
Path = Bor (List PointerNode)

-- what the item of the first node leaves, and what the part does
abbrev KidP : Path → MutBor D → Option (MutBor D) → D → D → Type 0
KidP p r o w m = IfSome o (λ x. AtFirst p.now (λ node. tree m ≡ put (node ∷ []) (tree w) (tree r.now)) × (w ≡ x.now → m ≡ r.now))

abbrev DownP : Path → MutBor D → Option (MutBor D) → D → D → Type 0
DownP p r o w m = OnSome o (tree m ≡ put (path_of p.now) (tree w) (tree r.now))

-- what is said of what is lent
abbrev KidV : Path → MutBor D → Option (MutBor D) → Type 0
KidV p r o = AtFirst p.now (λ node. option_map (λ found. tree found.now) o ≡ child node (tree r.now))

abbrev DownV : Path → MutBor D → Option (MutBor D) → Type 0
DownV p r o = option_map (λ found. tree found.now) o ≡ leads (tree r.now) (path_of p.now)

abbrev Kid : Path → MutBor D → Option (MutBor D) → Fml
Kid p r o = LendsSo R R r o (λ m w. KidP p r o w m) (λ m. m ≡ r.now)

abbrev Down : Path → MutBor D → Option (MutBor D) → Fml
Down p r o = LendsSo R R r o (λ m w. DownP p r o w m) (λ m. m ≡ r.now)

-- the part of an item
down_put : (p p' : Path) (r x : MutBor D) (o : Option (MutBor D)) (w k m : D) → GoesOn p.now → p'.now ≡ drop 1 p.now → KidV p r (Some x) → DownP p' x o w k
    → KidP p r (Some x) k m
    → DownP p r o w m
down_put p p' r x None w k m on rest at d e = tt
down_put p p' r x (Some z) w k m on rest at d e = put_further (tree r.now) (tree x.now) (tree w) on rest at e.0 d

module _ {M : Type 1} (𝓤 : Ura M) (𝓛 : Logic 𝓤) (𝓜 : Model 𝓤 𝓛.H) (𝓡 : Running 𝓤 𝓛.H 𝓜) (wired : Wired 𝓡.env code.code) where
  open 𝓛 use {H}

  abbrev C : Calls 𝓤 H
  C = (tables 𝓤 H 𝓜 𝓡 𝓡.env).C

  abbrev Λ : Loops 𝓤 H
  Λ = (tables 𝓤 H 𝓜 𝓡 𝓡.env).Λ

  abbrev then_runs : Env 𝓤 H → Body → Post 𝓤 H → Post 𝓤 H
  then_runs E b q = any_q (after_seq 𝓤 H (Wp 𝓤 H C Λ E b (post 𝓤 H q)) (post 𝓤 H q))

  abbrev c : Clauses 𝓤 f.ended
  c = f.clauses 𝓛 𝓜.mem 𝓡.returns

  abbrev W : Contract 𝓤
  W = walk_of 𝓛 f.ended stayed c

  abbrev G : Contract 𝓤
  G = triple_of 𝓛 f.signature (f.spec 𝓛 𝓜.mem 𝓡.returns)

  abbrev K : Contract 𝓤
  K = triple_of 𝓛 (g.signature A) (g.spec A ghosts dict 𝓛 𝓜.mem 𝓡.returns)

  abbrev E : Contract 𝓤
  E = triple_of 𝓛 ec.signature (ec.spec 𝓛 𝓜.mem 𝓡.returns)

  abbrev F : Contract 𝓤
  F = triple_of 𝓛 tc.signature (tc.spec 𝓛 𝓜.mem 𝓡.returns)

  module _ (κs : Lfts 3) (qs : Shares 3) (bounds : AllOutlive 3 f.signature.outlives κs) where
    abbrev Lent : RattleType
    Lent = Lent_at κs.0 R

    abbrev O : RattleType
    O = Answer_at κs.0 R

    abbrev Shown : RattleType
    Shown = ShrSlice (named 1) κs.1.0 (Node_at κs.1.1.0)

    -- the tokens of a path, and all of them
    abbrev Paths : Item 𝓤
    Paths = ‵ (flft κs.1.0 qs.1.0) ⊛ ‵ (flft κs.1.1.0 qs.1.1.0) ⊛ ‵ ftrue

    abbrev Toks : Item 𝓤
    Toks = ‵ (flft κs.0 qs.0) ⊛ Paths

    abbrev toks : SProp 𝓤
    toks = sep 𝓤 (𝓛.A.lft κs.0 qs.0) (sep 𝓤 (𝓛.A.lft κs.1.0 qs.1.0) (sep 𝓤 (𝓛.A.lft κs.1.1.0 qs.1.1.0) (emp 𝓤)))

    abbrev at : MutBor D → Path → W.Ghost
    at r p = ((κs, qs, bounds, (r, (p, tt)), (mut_vals r, (shr_slice_vals p, tt))), tt)

    both : (p : Path) → ent 𝓤 (sem 𝓛 (Shown.own_val p (shr_slice_vals p)))
        (sep 𝓤 (sem 𝓛 (Shown.own_val p (shr_slice_vals p))) (sem 𝓛 (Shown.own_val p (shr_slice_vals p))))
    both p = (shr_slice_copy 𝓛 (named 1) κs.1.0 (Node_at κs.1.1.0) (node_laws (record { mir = named 2; lft = κs.1.1.0 })).shr_laws).twice p (shr_slice_vals p)

    -- what a call asks, at the references and the tokens
    asks : (r : MutBor D) (p : Path) → ent 𝓤 (sep 𝓤 (sem 𝓛 (Lent.own_val r (mut_vals r))) (sep 𝓤 (sem 𝓛 (Shown.own_val p (shr_slice_vals p))) toks))
        (sep 𝓤 (on_entry 𝓛 f.signature κs qs (r, (p, tt)) (mut_vals r, (shr_slice_vals p, tt))) (emp 𝓤))
    asks r p =
        qed 𝓛 (‵ (Lent.own_val r (mut_vals r)) ∷ ‵ (Shown.own_val p (shr_slice_vals p)) ∷ Toks ∷ []) ∵
        nothing ! $ move ! (2 ∷ 0 ∷ []) $ fjoin ! $ move ! (1 ∷ 0 ∷ []) $ fjoin ! $ move ! (1 ∷ 0 ∷ []) $ join ! $ nothing ! $ move ! (1 ∷ 0 ∷ []) $ done !

    out : (r : MutBor D) (p : Path) (o : Option (MutBor D)) (v : Val) → DownV p r o
        → ent 𝓤 (sep 𝓤 (sem 𝓛 (O.own_val o (v ∷ []))) (sep 𝓤 toks (sem 𝓛 (Down p r o)))) (W.post (at r p) v)
    out r p o v found =
        qed 𝓛 (‵ (O.own_val o (v ∷ [])) ∷ Toks ∷ ‵ (Down p r o) ∷ []) ∵
        suffices ! _ (ends_at 𝓛 f.ended stayed c (at r p) v o (tt, (tt, tt)) (tt, (tt, tt))) $
        nothing ! $ nothing ! $ fjoin ! $ nothing ! $ fjoin ! $ join ! $ move ! (1 ∷ 0 ∷ []) $ join ! $ frame ! $ says ! found $ done !

    walk : (r : MutBor D) (p : Path) → Is Shown p (shr_slice_vals p)
        → ((y : G.Ghost) → length y.0.3.1.0.now < length p.now → ent 𝓤 (G.pre y) (C f.Key.name (G.args y) (G.post y)))
        → ent 𝓤 (sep 𝓤 (on_entry 𝓛 f.signature κs qs (r, (p, tt)) (mut_vals r, (shr_slice_vals p, tt))) (emp 𝓤))
        (WpFn 𝓤 H C Λ fn (mut_vals r ++ shr_slice_vals p) (W.post (at r p)))
    walk r p pis self =
        let lawful = shr_slice_Lawful 𝓛 (named 1) κs.1.0 (Node_at κs.1.1.0) in
        qed 𝓛 ((Toks ⊛ ‵ (Lent.own_val r (mut_vals r)) ⊛ ‵ (Shown.own_val p (shr_slice_vals p)) ⊛ ‵ ftrue) ∷ ‵ ftrue ∷ []) ∵
        split ! $ move ! (1 ∷ []) $ split ! $ move ! (1 ∷ []) $ split ! $ keep ! (3 ∷ 0 ∷ 2 ∷ []) $ split ! $ keep ! (2 ∷ 1 ∷ 0 ∷ 3 ∷ []) $
        -- [p; the tokens of the path; that of r; r]
        enter ! C Λ fn (mut_vals r ++ shr_slice_vals p) _ $
        alloc_all ! (λ l. pass_all ! refl ((tt, tt), ((lawful.typed p (shr_slice_vals p) pis).0, tt)) $
        let En : Env 𝓤 H = env fn.locals l in
        use1 𝓛 (‵ (Shown.own_val p (shr_slice_vals p)) ⊛ ‵ (Shown.own_val p (shr_slice_vals p))) (both p) $ split ! $
        nothing ! $ move ! (1 ∷ 0 ∷ []) $ join ! $ move ! (2 ∷ 0 ∷ []) $ join ! $ nothing ! $ move ! (1 ∷ 0 ∷ []) $
        let ze : E.Ghost = (((κs.1.0, (κs.1.1.0, tt)), (qs.1.0, (qs.1.1.0, tt)), (bounds.0, tt), (p, tt), (shr_slice_vals p, tt)), tt) in
        use2 𝓛 (raw (E.pre ze)) (id⊢ 𝓤 _) $
        calls_at ! (framed 𝓤 H 𝓜 (tables 𝓤 H 𝓜 𝓡 𝓡.env)) E (ending.met 𝓤 𝓛 𝓜 𝓡 (code.calls-sonic_value::value::lend::ends 𝓡.env wired)) ze
        (and_then ! (get ! refl) (no_more !)) (λ v.
        use1 𝓛 (later (some (λ (b : Bool). (Paths ⊛ ‵ (bool.own_val b (v ∷ []))) ⊛
        some (λ (ws : Lasts ec.ended ze.0.0 ze.0.3). ‵ (lasts ec.ended ze.0.0 ze.0.3 ws) ⊛ raw (fact 𝓤 (b ≡ (length p.now == 0))))))) (id⊢ 𝓤 _) $
        await ! tt $ pick ! (λ b. split ! $ split ! $ move ! (2 ∷ []) $ pick ! (λ ws. split ! $ forget ! $ heard ! (b ≡ (length p.now == 0)) (λ empty.
        move ! (1 ∷ []) $
        peeks ! bool (Is bool) (shows 𝓛 bool) b (v ∷ []) (λ isb. lands_as ! (ap only (bool_Tells b (v ∷ []) isb)) refl (tt, tt) $ forget ! $
        -- [the tokens of the path; p; the token of r; r]
        first ! $ branches ! (get ! refl)
        (λ none.
        let here = none_left p.now b empty none in
        sets ! (addr ! (through ! refl (stop !))) refl (tt, tt) $
        sets ! (agg ! (and_then ! (lit ! tt) (and_then ! (get ! refl) (no_more !)))) refl (tt, (record { fits = lit< tt }, (tt, tt))) $
        returns_within ! (W.post (at r p)) refl (look_at ! 0 refl) $ free_all ! refl $
        move ! (2 ∷ 0 ∷ []) $ join ! $ keep ! (2 ∷ 0 ∷ []) $
        use1 𝓛 (‵ (O.own_val (Some r) (live 1 (of_list (mut_vals r)) ∷ []))) (Some-of 𝓛 Lent r _) $
        use0 𝓛 (‵ (Down p r (Some r))) (so_self 𝓛 R r.ghost_name (λ w m. DownP p r (Some r) w m) (λ m. m ≡ r.now)
        (λ w. subst (λ (l : List PointerNode). tree w ≡ put (path_of l) (tree w) (tree r.now)) (sym here) refl) r.now refl) $
        keep ! (1 ∷ 2 ∷ 0 ∷ []) $ by ! (out r p (Some r) (live 1 (of_list (mut_vals r)))
        (subst (λ (l : List PointerNode). Some (tree r.now) ≡ leads (tree r.now) (path_of l)) (sym here) refl)))
        (λ more.
        let on = some_left p.now b empty more in
        skips ! $ exec ! C Λ En the_mir.t-3 (at_ret En (W.post (at r p))) $
        sets ! (addr ! (through ! refl (stop !))) refl (tt, tt) $
        split ! $ move ! (1 ∷ []) $ split ! $ move ! (3 ∷ []) $
        use1 𝓛 (‵ (Shown.own_val p (shr_slice_vals p)) ⊛ ‵ (Shown.own_val p (shr_slice_vals p))) (both p) $ split ! $
        -- [p; p; the token of the nodes; nothing; that of the slice; that of r; r]
        nothing ! $ use0 𝓛 (‵ (flft [] full_share)) (𝓛.lfts.lft-nil full_share) $ join ! $ move ! (3 ∷ 0 ∷ []) $ join ! $ move ! (4 ∷ 0 ∷ []) $ join ! $
        move ! (4 ∷ 0 ∷ []) $ join ! $
        nothing ! $ move ! (2 ∷ 0 ∷ []) $ join ! $ move ! (4 ∷ 0 ∷ []) $ join ! $ move ! (1 ∷ 0 ∷ []) $ join ! $
        nothing ! $ use0 𝓛 (raw (fact 𝓤 ([] ⊑ R.lives))) (fact_i 𝓤 _ (emp 𝓤) (λ x m. m)) $ join ! $ move ! (1 ∷ 0 ∷ []) $
        let z : K.Ghost = (
          (
            (κs.0, (κs.1.0, (κs.1.1.0, ([], tt)))),
            (qs.0, (qs.1.0, (qs.1.1.0, (full_share, tt)))),
            (bounds.0, (⊑_static κs.0, tt)),
            (r, (p, tt)),
            (mut_vals r, (shr_slice_vals p, tt)),
          ),
          tt,
        ) in
        use2 𝓛 (raw (K.pre z)) (id⊢ 𝓤 _) $
        calls_at ! (framed 𝓤 H 𝓜 (tables 𝓤 H 𝓜 𝓡 𝓡.env)) K
        (met 𝓤 𝓛 𝓜 𝓡 (code.calls-sonic_value::value::lend::lend_first 𝓡.env wired) A L ghosts dict
        (passed 𝓡.env (code.calls-sonic_value::value::lend::ValueHolds::elements 𝓡.env wired)
        (code.calls-sonic_value::value::lend::ValueHolds::members 𝓡.env wired) M 𝓤 𝓛 𝓜 𝓡)) z
        (and_then ! (get ! refl) (and_then ! (get ! refl) (no_more !))) (λ v₁.
        use1 𝓛 (later (some (λ (o : Option (MutBor D)). ((‵ (flft κs.0 qs.0) ⊛ ‵ (flft κs.1.0 qs.1.0) ⊛ ‵ (flft κs.1.1.0 qs.1.1.0) ⊛ ‵ (flft [] full_share) ⊛
        ‵ ftrue) ⊛ ‵ (O.own_val o (v₁ ∷ []))) ⊛
        some (λ (ws₁ : Unit {0} × (Unit {0} × Unit {0})). ‵ (lasts (g.ended A ghosts dict) z.0.0 z.0.3 ws₁) ⊛ ‵ (Kid p r o) ⊛ raw (fact 𝓤 (KidV p r o))))))
        (id⊢ 𝓤 _) $
        await ! tt $ pick ! (λ o. split ! $ split ! $ split ! $ move ! (1 ∷ []) $ split ! $ move ! (1 ∷ []) $ split ! $ move ! (4 ∷ []) $
        -- [the answer; the token of the nodes; another one; that of the slice; that of r; the rest; p]
        by_option κs.0 R 𝓛 ! o v₁
        -- an item
        (λ x ex ev. lands_as ! ev refl (tt, (record { fits = lit< tt }, (tt, tt))) $
        first ! $ switches_on ! (get_tag ! (vrt ! refl (fld ! refl (stop !))) (whole !)) $
        exec ! C Λ En (arm_body 0 the_mir.s-5) (then_runs En the_mir.t-6 (at_ret En (W.post (at r p)))) $
        sets ! (of_opd ! (get_in ! (vrt ! refl (fld ! refl (stop !))) (in_variant ! 1 0 refl refl (whole !)))) refl (tt, tt) $
        sets ! (addr ! (through ! refl (stop !))) refl (tt, tt) $
        nothing ! $ move ! (7 ∷ 0 ∷ []) $ join ! $ nothing ! $ move ! (3 ∷ 0 ∷ []) $ join ! $ move ! (4 ∷ 0 ∷ []) $ join ! $ join ! $
        nothing ! $ move ! (1 ∷ 0 ∷ []) $
        let zt : F.Ghost = (((κs.1.0, (κs.1.1.0, tt)), (qs.1.0, (qs.1.1.0, tt)), (bounds.0, tt), (p, tt), (shr_slice_vals p, tt)), tt) in
        use2 𝓛 (raw (F.pre zt)) (id⊢ 𝓤 _) $
        calls_at ! (framed 𝓤 H 𝓜 (tables 𝓤 H 𝓜 𝓡 𝓡.env)) F (after.met 𝓤 𝓛 𝓜 𝓡 (code.calls-sonic_value::value::lend::after_first 𝓡.env wired)) zt
        (and_then ! (get ! refl) (no_more !)) (λ v₂.
        use1 𝓛 (later (some (λ (p' : Path). (Paths ⊛ ‵ (Shown.own_val p' (v₂ ∷ []))) ⊛
        some (λ (ws₂ : Lasts tc.ended zt.0.0 zt.0.3). ‵ (lasts tc.ended zt.0.0 zt.0.3 ws₂) ⊛ raw (fact 𝓤 (p'.now ≡ drop 1 p.now)))))) (id⊢ 𝓤 _) $
        await ! tt $ pick ! (λ p'. split ! $ split ! $ move ! (2 ∷ []) $ pick ! (λ ws₂. split ! $ forget ! $ heard ! (p'.now ≡ drop 1 p.now) (λ rest.
        move ! (1 ∷ []) $
        peeks ! Shown (Is Shown) (shows 𝓛 Shown) p' (v₂ ∷ []) (λ isp.
        let t' = shr_slice_Tells (named 1) κs.1.0 (Node_at κs.1.1.0) p' (v₂ ∷ []) isp in
        let isp' : Is Shown p' (shr_slice_vals p') = subst (λ (l : List Val). Is Shown p' l) t' isp in
        rewrite ! 0 (λ (l : List Val). ‵ (Shown.own_val p' l)) t' refl $
        lands_as ! (ap only t') refl (lawful.typed p' (shr_slice_vals p') isp').0 $
        -- [p'; the tokens of the path; x; another one; that of r; the rest]
        let y : G.Ghost = at x p' in
        let less : length p'.now < length p.now = fewer on rest in
        move ! (4 ∷ 1 ∷ []) $ join ! $ move ! (1 ∷ 0 ∷ []) $ join ! $ move ! (1 ∷ 0 ∷ []) $
        use2 𝓛 (raw (G.pre y)) (asks x p') $
        calls_from_last ! (framed 𝓤 H 𝓜 (tables 𝓤 H 𝓜 𝓡 𝓡.env)) (raw (G.pre y)) (G.args y) (G.post y) (self y less)
        (and_then ! (get ! refl) (and_then ! (get ! refl) (no_more !))) (λ v₃.
        use1 𝓛 (later (some (λ (o' : Option (MutBor D)). (Toks ⊛ ‵ (O.own_val o' (v₃ ∷ []))) ⊛
        some (λ (ws₃ : Unit {0} × (Unit {0} × Unit {0})). ‵ (lasts f.ended y.0.0 y.0.3 ws₃) ⊛ ‵ (Down p' x o') ⊛ raw (fact 𝓤 (DownV p' x o')))))) (id⊢ 𝓤 _) $
        await ! tt $ pick ! (λ o'. split ! $ split ! $ move ! (1 ∷ []) $
        peeks ! O (Is O) (shows 𝓛 O) o' (v₃ ∷ []) (λ is.
        lands_last ! refl (answer_typed κs.0 R 𝓛 o' v₃ is) $
        exec ! C Λ En the_mir.t-6 (at_ret En (W.post (at r p))) $
        sets ! (of_opd ! (get ! refl)) refl (answer_typed κs.0 R 𝓛 o' v₃ is) $
        returns ! (look_at ! 0 refl) $ free_all ! refl $
        -- [the answer; the tokens; what the recursion says; another one; what the item says]
        move ! (2 ∷ []) $ pick ! (λ ws₃. split ! $ forget ! $ split ! $ move ! (1 ∷ []) $ heard ! (DownV p' x o') (λ found. move ! (4 ∷ []) $
        pick ! (λ ws₁. split ! $ forget ! $ split ! $ move ! (1 ∷ []) $ heard ! (KidV p r o) (λ was.
        let at_x = subst (λ (u : Option (MutBor D)). KidV p r u) ex was in
        rewrite ! 0 (λ (u : Option (MutBor D)). ‵ (Kid p r u)) ex refl $
        use2 𝓛 (‵ (Down p r o')) (so_then 𝓛 R r.ghost_name x.ghost_name (ghost_name_of o') (λ w m. KidP p r (Some x) w m) (λ m. m ≡ r.now)
        (λ w m. DownP p' x o' w m) (λ m. m ≡ x.now) (λ w m. DownP p r o' w m) (λ m. m ≡ r.now)
        (λ w k m d s. down_put p p' r x o' w k m on rest at_x d s) (λ k m d s. s.1 d)) $
        keep ! (1 ∷ 2 ∷ 0 ∷ []) $ by ! (out r p o' v₃ (leads_further (tree r.now) (tree x.now) on rest at_x found)))))))))))))))
        -- none
        (λ en ev. lands_as ! ev refl (tt, (record { fits = lit< tt }, tt)) $
        first ! $ switches_on ! (get_tag ! (vrt ! refl (fld ! refl (stop !))) (whole !)) $
        exec ! C Λ En (arm_body 1 the_mir.s-5) (then_runs En the_mir.t-6 (at_ret En (W.post (at r p)))) $
        sets_last ! (agg ! (and_then ! (lit ! tt) (no_more !))) refl (tt, (record { fits = lit< tt }, tt)) $
        exec ! C Λ En the_mir.t-6 (at_ret En (W.post (at r p))) $
        sets ! (of_opd ! (get ! refl)) refl (tt, (record { fits = lit< tt }, tt)) $
        returns ! (look_at ! 0 refl) $ free_all ! refl $
        -- [nothing; the token of the nodes; another one; that of the slice; that of r; the rest; p]
        move ! (5 ∷ []) $ pick ! (λ ws₁. split ! $ forget ! $ split ! $ move ! (1 ∷ []) $ heard ! (KidV p r o) (λ was.
        rewrite ! 0 (λ (u : Option (MutBor D)). ‵ (Kid p r u)) en refl $
        use1 𝓛 (‵ (Down p r None)) (so_weaker 𝓛 R R r.ghost_name maybe.none (λ w m. KidP p r None w m) (λ w m. DownP p r None w m) (λ m. m ≡ r.now) (λ m. m ≡ r.now)
        (λ w m _. tt) (λ m same. same)) $
        nothing ! $ move ! (3 ∷ 0 ∷ []) $ join ! $ move ! (4 ∷ 0 ∷ []) $ join ! $ move ! (4 ∷ 0 ∷ []) $ join ! $
        use0 𝓛 (‵ (O.own_val None (live 0 (of_list []) ∷ []))) (none_of 𝓛 Lent) $
        keep ! (0 ∷ 1 ∷ 2 ∷ []) $ by ! (out r p None (live 0 (of_list []))
        (leads_nowhere (tree r.now) on (subst (λ (u : Option (MutBor D)). KidV p r u) en was)))))))))))))))

pub +pointer_mut_spec : {M : Type 1} → statement M
unfolding tables_of
+pointer_mut_spec {M} 𝓤 𝓛 𝓜 𝓡 wired =
    let H = 𝓛.H in
    let 𝓣 : Tables 𝓤 H = tables_of 𝓤 H 𝓜 (tables 𝓤 H 𝓜 𝓡 𝓡.env) in
    let run = WpFn 𝓤 H 𝓣.C 𝓣.Λ fn in
    mutual_elim 𝓛 (functions 𝓛 𝓜.mem 𝓡.run 𝓡.returns 𝓡.env) ◌<◌ lt-wf_rel.wf (measured 𝓛 _ (λ y. length y.0.3.1.0.now)) (λ n below.
    at_on 𝓛 f.signature (f.spec 𝓛 𝓜.mem 𝓡.returns) run (𝓣.C f.Key.name) (code.pointer_mut-unfolded 𝓤 H 𝓜 𝓡 wired) (λ y. length y.0.3.1.0.now) n (λ y e.
    walk_meets_at 𝓛 f.ended stayed (
      Goes-spent_ref 𝓛 3 (0 ∷ []) tt (plain (λ _. R)),
      (Goes-dropped 𝓛 3 (SliceRefOf (1 ∷ []) tt (plain (λ κs. Node_at κs.1.1.0)) (λ _. tt)) yes (λ κs x w. refl), tt),
    )
    (f.clauses 𝓛 𝓜.mem 𝓡.returns) run (WpFn-mono 𝓤 H 𝓛.laws 𝓣 fn) y
    (walked_at 𝓛 f.ended stayed (f.clauses 𝓛 𝓜.mem 𝓡.returns) run y (mut_vals, (shr_slice_vals, tt))
    (mut_Tells (named 0) y.0.0.0 R, (shr_slice_Tells (named 1) y.0.0.1.0 (Node_at y.0.0.1.1.0), tt))
    (λ are. walk 𝓤 𝓛 𝓜 𝓡 wired y.0.0 y.0.1 y.0.2 y.0.3.0 y.0.3.1.0 are.1.0
    (λ y' lt. below (length y'.0.3.1.0.now) (subst (λ (s : ℕ). length y'.0.3.1.0.now < s) e lt) y' refl)))))
