-- `into_unboxed` gives the box's pointer, where there is one.
use Rattle.std.proofs.Common.{◌≡◌, ℕ, List, [], ◌∷◌, ◌++◌, refl, sym, ap, ◌∙◌, subst, lit<}
use Rattle.std.proofs.raw_atomic.Walks.{proved_at}
use base.Fml.{Fml, ftrue}
use base.Logic.{SProp, ent, emp, id⊢}
use contract.Monad.{fact, fact_i}
use denote.RawPtr.{Ptr}
use mir.Val.{Val, vcons, vnil}
use prog.Wp.{WpFn}
use types.ByLocal.{alloc_all, pass_all, free_all, look_at, get, get_in, sets, env}
use Rattle.std.proofs.option.Made.{Some-of, none_of}
use Rattle.std.proofs.VecSteps.Shapes.{after}
use Rattle.std.specs.Prelude.{None, Some}
use types.Part.{agg, sub, whole}
use types.Run.{enter, of_opd, fld, stop, no_more, and_then, returns, returns_within, first, branches, skips, exec, lit, bin}
use contract.Running.{tables}
use Rattle.sonic_c.specs.contracts.paths.Paths as P
use denote.Exit.{yes}
use denote.RattleType.{owns}
use denote.Signature.{plain, types_at}
use denote.Steps.{nothing}
use denote.Triple.Walked.{Stays, walk_of, stay_dropped, Goes-dropped, ends_at}
use types.Kit.{‵, raw, ◌⊛◌, ◌$◌, ◌∵◌, !, qed, done, move, keep, drop, split, join, fsplit, feq_l, rewrite, suffices, use0, use1, group, at_ret}
use Rattle.sonic_c.specs.contracts.paths.Paths.into_unboxed as f
use Rattle.sonic_c.proofs.PathsValues.{Kept_at, word, pair, unboxed_in, paths_out, pair_good, word_good, is_kept, boxed, some_good}
use Rattle.sonic_c.proofs.UnboxedValues.{ptr_good}
use Rattle.std.specs.Prelude.{length}
use Rattle.sonic_c.specs.Kept.{PathList, no_list}
use Rattle.sonic_c.specs.Internal.Owned.{memory}
use Rattle.std.proofs.Math.Facts.{eqb_yes}
use Rattle.std.proofs.lemmas.Option.{none-some}
use Rattle.std.specs.contracts.option.Option as OP
use types.Match.{live}
use Rattle.sonic_c.proofs.paths.Paths.into_unboxed.Statement.{statement}
use Rattle.sonic_c.proofs.paths.Paths.into_unboxed.Code as code

abbrev stayed : Stays f.ended.signature.params f.ended.kept
stayed = (stay_dropped (plain (λ _. P.the_row)) yes, tt)

pub into_unboxed_spec : {M : Type 1} → statement M
into_unboxed_spec 𝓤 𝓛 𝓜 𝓡 wired =
    let c = f.clauses 𝓛 𝓜.mem 𝓡.returns in let 𝓣 = tables 𝓤 𝓛.H 𝓜 𝓡 𝓡.env in
    proved_at 𝓛 f.ended stayed c 𝓜 𝓡 (Goes-dropped 𝓛 0 (plain (λ _. P.the_row)) yes (λ κs x f. refl), tt)
    f.Key.name code.function (code.unfolded 𝓤 𝓛.H 𝓜 𝓡 wired) (λ z are.
    let d = z.0.3.0 in let n = d.held in let m = d.count in let p : Ptr = d.kept in let a = d.alloc in
    let Post : Val → SProp 𝓤 = (walk_of 𝓛 f.ended stayed c).post z in
    let Run : List Val → SProp 𝓤 = λ ws. WpFn 𝓤 𝓛.H 𝓣.C 𝓣.Λ code.function ws Post in
    let args : List Val = word p n m a ∷ [] in
    qed 𝓛 ((‵ ftrue ⊛ ‵ (owns (types_at f.ended.signature.params z.0.0) z.0.3 z.0.4)) ∷ ‵ ftrue ∷ []) ∵
    split ! $ drop ! $ fsplit ! $ keep ! (0 ∷ []) $ paths_out ! d z.0.4.0 (λ is fits fits' long.
    suffices ! (Run args) (subst (λ (us : List Val). ent 𝓤 (Run args) (Run us)) (sym (λ i. is i ++ [])) (id⊢ 𝓤 (Run args))) $
    enter ! 𝓣.C 𝓣.Λ code.function args Post $ alloc_all ! (λ l. pass_all ! refl (word_good p n m a fits fits', tt) $ let Ev = env (code.function).locals l in
    sets ! (of_opd ! (get_in ! (fld ! refl (stop !)) (sub ! 0 refl (whole !)))) refl (ptr_good p) $
    sets ! (of_opd ! (get_in ! (fld ! refl (stop !)) (sub ! 1 refl (whole !)))) refl (tt, record { fits = fits }) $
    sets ! (of_opd ! (get_in ! (fld ! refl (stop !)) (sub ! 3 refl (whole !)))) refl (tt, ((tt, tt), tt)) $
    sets ! (bin ! (get ! refl) (lit ! tt) tt) refl (tt, tt) $
    first ! $ branches ! (get ! refl)
    (λ none. sets ! (agg ! (and_then ! (lit ! tt) (no_more !))) refl (tt, (record { fits = lit< tt }, tt)) $
    returns_within ! Post refl (look_at ! 0 refl) $ free_all ! refl $ move ! (1 ∷ []) $ drop ! $
    let empty : n ≡ 0 = eqb_yes none in
    rewrite ! 0 (λ (held : ℕ). ‵ (memory held d.list (boxed p a d.list))) empty refl $ feq_l ! (λ is_none.
    use0 𝓛 (‵ ((OP.the_row Kept_at).own_val None (live 0 vnil ∷ []))) (none_of 𝓛 Kept_at) $
    suffices ! _ (ends_at 𝓛 f.ended stayed c z (live 0 vnil) None (tt, tt) (tt, tt)) $
    nothing ! $ nothing ! $ join ! $ nothing ! $ group ! 3 $
    use0 𝓛 (raw (fact 𝓤 (None ≡ None → (d.list ≡ no_list) × (m ≡ 0)))) (fact_i 𝓤 _ (emp 𝓤) (λ _. (is_none, long ∙ ap (λ (x : PathList). length x.paths) is_none))) $
    use0 𝓛 (raw (fact 𝓤 (Unit {0}))) (fact_i 𝓤 _ (emp 𝓤) tt) $ join ! $ move ! (1 ∷ 0 ∷ []) $ done !))
    (λ some. skips ! $ exec ! 𝓣.C 𝓣.Λ Ev (after 5 (code.function).body) (at_ret Ev Post) $
    sets ! (of_opd ! (get ! refl)) refl (ptr_good p) $ sets ! (agg ! (and_then ! (get ! refl) (and_then ! (get ! refl) (no_more !)))) refl (pair_good p a) $
    sets ! (agg ! (and_then ! (lit ! tt) (and_then ! (get ! refl) (no_more !)))) refl (some_good p a) $
    returns ! (look_at ! 0 refl) $ free_all ! refl $
    let u : Kept_at.Denot = record { at = p; alloc = a; value = d.list } in let v : Val = live 1 (vcons (pair p a) vnil) in
    rewrite ! 0 (λ (held : Fml). ‵ held) (is_kept n d.list (boxed p a d.list) some) refl $ unboxed_in ! p a d.list $
    use1 𝓛 (‵ ((OP.the_row Kept_at).own_val (Some u) (v ∷ []))) (Some-of 𝓛 Kept_at u (pair p a)) $
    suffices ! _ (ends_at 𝓛 f.ended stayed c z v (Some u) (tt, tt) (tt, tt)) $
    nothing ! $ nothing ! $ join ! $ nothing ! $ group ! 3 $
    use0 𝓛 (raw (fact 𝓤 (Some u ≡ None → (d.list ≡ no_list) × (m ≡ 0)))) (fact_i 𝓤 _ (emp 𝓤) (λ same. absurd (none-some u (sym same)))) $
    use0 𝓛 (raw (fact 𝓤 ((d.list ≡ d.list) × (m ≡ length d.list.paths)))) (fact_i 𝓤 _ (emp 𝓤) (refl, long)) $ join ! $ move ! (1 ∷ 0 ∷ []) $ done !))))
