-- `none` owns nothing.
use Rattle.std.proofs.Common.{◌≡◌, [], ◌∷◌, refl, lit<}
use Rattle.std.proofs.raw_atomic.Walks.{proved}
use Rattle.std.specs.contracts.alloc.Global as GL
use Rattle.std.proofs.alloc.Global.TheLaws.{the_laws as global_laws}
use base.Fml.{ftrue}
use contract.Running.{tables}
use denote.Exit.{yes}
use denote.RawPtr.{null_ptr}
use denote.Signature.{plain}
use denote.Steps.{nothing}
use denote.Struct.Laws.{tells as struct_tells}
use denote.Triple.Walked.{Stays, walk_of, stay_dropped, Goes-dropped, ends_at}
use mir.Val.{Val}
use types.ByLocal.{alloc_all, pass_all, free_all, look_at, get, sets}
use types.Kit.{‵, raw, ◌⊛◌, ◌$◌, ◌∵◌, !, qed, done, move, keep, drop, split, join, feq_i, suffices, group, use0}
use types.Part.{agg}
use types.Run.{enter, lit, no_more, and_then, returns}
use Rattle.sonic_c.specs.contracts.paths.Paths.none as f
use Rattle.sonic_c.proofs.PathsValues.{global_val, word, word_good, paths_in}
use Rattle.sonic_c.specs.Kept.{PathList, no_list}
use base.Logic.{emp}
use contract.Monad.{fact, fact_i}
use Rattle.sonic_c.proofs.paths.Paths.none.Statement.{statement}
use Rattle.sonic_c.proofs.paths.Paths.none.Code as code

abbrev stayed : Stays f.ended.signature.params f.ended.kept
stayed = (stay_dropped (plain (λ _. GL.the_row)) yes, tt)

pub none_spec : {M : Type 1} → statement M
none_spec 𝓤 𝓛 𝓜 𝓡 wired =
    let c = f.clauses 𝓛 𝓜.mem 𝓡.returns in let W = walk_of 𝓛 f.ended stayed c in let 𝓣 = tables 𝓤 𝓛.H 𝓜 𝓡 𝓡.env in
    proved 𝓛 f.ended stayed c 𝓜 𝓡 (Goes-dropped 𝓛 0 (plain (λ _. GL.the_row)) yes (λ κs x w. refl), tt)
    f.Key.name code.function (code.unfolded 𝓤 𝓛.H 𝓜 𝓡 wired)
    (λ κs. ((λ x. global_val x ∷ []), tt)) (λ κs. (struct_tells GL.the_type global_laws, tt)) (λ κs qs bounds a _ are.
    let y : W.Ghost = ((κs, qs, bounds, a, (global_val a.0 ∷ [], tt)), tt) in
    let v : Val = word null_ptr 0 0 a.0 in
    qed 𝓛 ((‵ ftrue ⊛ (‵ (GL.the_row.own_val a.0 (global_val a.0 ∷ [])) ⊛ ‵ ftrue)) ∷ ‵ ftrue ∷ []) ∵
    split ! $ drop ! $ split ! $ keep ! (0 ∷ []) $
    enter ! _ _ _ _ _ $ alloc_all ! (λ l. pass_all ! refl ((tt, ((tt, tt), tt)), tt) $
    sets ! (agg ! (and_then ! (lit ! tt) (and_then ! (lit ! tt) (and_then ! (lit ! tt) (and_then ! (get ! refl) (no_more !)))))) refl
    (word_good null_ptr 0 0 a.0 (lit< tt) (lit< tt)) $
    returns ! (look_at ! 0 refl) $ free_all ! refl $ feq_i ! PathList no_list no_list refl $
    paths_in ! null_ptr 0 0 a.0 no_list (lit< tt) (lit< tt) refl $
    suffices ! _ (ends_at 𝓛 f.ended stayed c y v (record { kept = null_ptr; held = 0; count = 0; alloc = a.0; list = no_list }) (tt, tt) (tt, tt)) $
    nothing ! $ nothing ! $ join ! $ nothing ! $ group ! 3 $
    use0 𝓛 (raw (fact 𝓤 (no_list ≡ no_list))) (fact_i 𝓤 _ (emp 𝓤) refl) $ use0 𝓛 (raw (fact 𝓤 (0 ≡ 0))) (fact_i 𝓤 _ (emp 𝓤) refl) $ join ! $
    use0 𝓛 (raw (fact 𝓤 (0 ≡ 0))) (fact_i 𝓤 _ (emp 𝓤) refl) $ join ! $
    move ! (1 ∷ 0 ∷ []) $ done !))
