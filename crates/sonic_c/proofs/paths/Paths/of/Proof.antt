-- `of` keeps the box's pointer.
use Rattle.std.proofs.Common.{◌≡◌, List, [], ◌∷◌, ◌++◌, refl, sym, subst, lit<}
use Rattle.std.proofs.raw_atomic.Walks.{proved_at}
use base.Fml.{ftrue}
use base.Logic.{SProp, ent, emp, id⊢}
use contract.Monad.{fact, fact_i}
use denote.RawPtr.{Ptr}
use denote.Steps.{heard}
use mir.Syntax.{w64}
use mir.Val.{Val, vint}
use prog.Wp.{WpFn}
use types.ByLocal.{alloc_all, pass_all, free_all, look_at, get, get_in, sets}
use types.Part.{agg, sub, whole}
use types.Run.{enter, of_opd, fld, lit, stop, no_more, and_then, returns}
use contract.Running.{tables}
use denote.Builtin.{usize}
use denote.Exit.{yes}
use denote.RattleType.{owns}
use denote.Signature.{plain, types_at}
use denote.Steps.{nothing}
use denote.Triple.Walked.{Stays, walk_of, stay_dropped, Goes-dropped, ends_at}
use types.Kit.{‵, raw, ◌⊛◌, ◌$◌, ◌∵◌, !, qed, done, move, drop, split, join, fsplit, suffices, use0, group}
use Rattle.sonic_c.specs.contracts.paths.Paths.of as f
use Rattle.sonic_c.proofs.PathsValues.{Kept_at, word, pair, paths_in, unboxed_out, pair_good, word_good}
use Rattle.sonic_c.proofs.UnboxedValues.{ptr_good}
use Rattle.std.specs.Prelude.{length}
use Rattle.sonic_c.proofs.paths.Paths.of.Statement.{statement}
use Rattle.sonic_c.proofs.paths.Paths.of.Code as code

abbrev stayed : Stays f.ended.signature.params f.ended.kept
stayed = (stay_dropped (plain (λ _. Kept_at)) yes, (stay_dropped (plain (λ _. usize)) yes, tt))

pub of_spec : {M : Type 1} → statement M
of_spec 𝓤 𝓛 𝓜 𝓡 wired =
    let c = f.clauses 𝓛 𝓜.mem 𝓡.returns in let 𝓣 = tables 𝓤 𝓛.H 𝓜 𝓡 𝓡.env in
    proved_at 𝓛 f.ended stayed c 𝓜 𝓡 (Goes-dropped 𝓛 0 (plain (λ _. Kept_at)) yes (λ κs x f. refl), (Goes-dropped 𝓛 0 (plain (λ _. usize)) yes (λ κs x w. refl), tt))
    f.Key.name code.function (code.unfolded 𝓤 𝓛.H 𝓜 𝓡 wired) (λ z are.
    let d = z.0.3.0 in let n = z.0.3.1.0 in let p : Ptr = d.at in let a = d.alloc in
    let Post : Val → SProp 𝓤 = (walk_of 𝓛 f.ended stayed c).post z in
    let Run : List Val → SProp 𝓤 = λ ws. WpFn 𝓤 𝓛.H 𝓣.C 𝓣.Λ code.function ws Post in
    let args : List Val = pair p a ∷ vint w64 n ∷ [] in
    qed 𝓛 ((‵ ftrue ⊛ ‵ (owns (types_at f.ended.signature.params z.0.0) z.0.3 z.0.4)) ∷ raw ((c z.0.0 z.0.3).requires z.1) ∷ []) ∵
    split ! $ drop ! $ fsplit ! $ move ! (1 ∷ []) $ drop ! $ move ! (1 ∷ []) $ heard ! (n ≡ length d.value.paths) (λ long. unboxed_out ! d z.0.4.0 (λ is.
    suffices ! (Run args) (subst (λ (us : List Val). ent 𝓤 (Run args) (Run us)) (sym (λ i. is i ++ (are.1.0.0 i ++ []))) (id⊢ 𝓤 (Run args))) $
    enter ! 𝓣.C 𝓣.Λ code.function args Post $ alloc_all ! (λ l. pass_all ! refl (pair_good p a, ((tt, record { fits = are.1.0.1 }), tt)) $
    sets ! (of_opd ! (get_in ! (fld ! refl (stop !)) (sub ! 0 refl (whole !)))) refl (ptr_good p) $
    sets ! (of_opd ! (get_in ! (fld ! refl (stop !)) (sub ! 1 refl (whole !)))) refl (tt, ((tt, tt), tt)) $
    sets ! (of_opd ! (get ! refl)) refl (ptr_good p) $
    sets ! (agg ! (and_then ! (get ! refl) (and_then ! (lit ! tt) (and_then ! (get ! refl) (and_then ! (get ! refl) (no_more !)))))) refl
    (word_good p 1 n a (lit< tt) are.1.0.1) $
    returns ! (look_at ! 0 refl) $ free_all ! refl $
    paths_in ! p 1 n a d.value (lit< tt) are.1.0.1 long $
    suffices ! _ (ends_at 𝓛 f.ended stayed c z (word p 1 n a) (record { kept = p; held = 1; count = n; alloc = a; list = d.value }) (tt, (tt, tt)) (tt, (tt, tt))) $
    nothing ! $ nothing ! $ join ! $ nothing ! $ join ! $ nothing ! $ group ! 3 $
    use0 𝓛 (raw (fact 𝓤 (d.value ≡ d.value))) (fact_i 𝓤 _ (emp 𝓤) refl) $ use0 𝓛 (raw (fact 𝓤 (n ≡ n))) (fact_i 𝓤 _ (emp 𝓤) refl) $ join ! $
    move ! (1 ∷ 0 ∷ []) $ done !))))
