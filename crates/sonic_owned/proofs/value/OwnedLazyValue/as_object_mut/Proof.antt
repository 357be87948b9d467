-- The call that lends the object, and its answer. Assumes `Logic`.
use Rattle.sonic_owned.proofs.Steps.{proved, yes, no, Laws, arg_laws, arg, layout, RattleType, mut_vals, mut_Tells, plain, mut_ref_to, struct_tells, lasts, Stays, walk_of, stay_dropped, Goes-dropped, Goes-spent_ref, ends_at, bare, named}
use Rattle.std.proofs.Common.{[], ◌∷◌, refl}
use Rattle.std.proofs.alloc.Global.TheLaws.{the_laws as global_laws}
use Rattle.std.specs.contracts.alloc.Global as GL
use Rattle.sonic_owned.proofs.Answered.{lent_typed, answer_typed}
use Rattle.sonic_owned.proofs.LevelWalk.{alloc_vals, level_walk}
use Rattle.sonic_owned.proofs.value.LazyObject.TheLaws.{the_row_laws}
use Rattle.sonic_owned.proofs.value.OwnedLazyValue.as_object_mut.Code as code
use Rattle.sonic_owned.proofs.value.OwnedLazyValue.as_object_mut.Statement.{statement}
use Rattle.sonic_owned.proofs.value.lend.found_or_error.Met as answers
use Rattle.sonic_owned.proofs.value.lend_level.lend_object.Met.{met}
use Rattle.sonic_owned.specs.Forms.{named as with_keys}
use Rattle.sonic_owned.specs.Views.{members}
use Rattle.sonic_owned.specs.contracts.value.LazyObject.{the_row as S}
use Rattle.sonic_owned.specs.contracts.value.OwnedLazyValue.{the_row as R}
use Rattle.sonic_owned.specs.contracts.value.OwnedLazyValue.as_object_mut as f
use Rattle.sonic_owned.specs.contracts.value.lend_level.lend_object as g
use Rattle.sonic_text.specs.declared.kind.Kind.TheVariants.{Object}

abbrev A : RattleType
A = arg (bare (layout S)) no S

abbrev L : Laws A
L = arg_laws (bare (layout S)) no S the_row_laws refl

abbrev stayed : Stays f.ended.signature.params f.ended.kept
stayed = (stay_dropped (mut_ref_to (0 ∷ []) tt (plain (λ _. R))) no, (stay_dropped (plain (λ _. GL.the_row)) yes, tt))

pub as_object_mut_spec : {M : Type 1} → statement M
as_object_mut_spec 𝓤 𝓛 𝓜 𝓡 wired =
    let c = f.clauses 𝓛 𝓜.mem 𝓡.returns in
    proved 𝓛 f.ended stayed c 𝓜 𝓡
    (Goes-spent_ref 𝓛 1 (0 ∷ []) tt (plain (λ _. R)), (Goes-dropped 𝓛 1 (plain (λ _. GL.the_row)) yes (λ κs x w. refl), tt))
    f.Key.name code.function (code.unfolded 𝓤 𝓛.H 𝓜 𝓡 wired)
    (λ κs. (mut_vals, (alloc_vals, tt))) (λ κs. (mut_Tells (named 0) κs.0 R, (struct_tells GL.the_type global_laws, tt))) (λ κs qs bounds a _ are.
    let y : (walk_of 𝓛 f.ended stayed c).Ghost = ((κs, qs, bounds, a, (mut_vals a.0, (alloc_vals a.1.0, tt))), tt) in
    level_walk A Object (λ l. with_keys (members l)) a.0 𝓛 𝓜 𝓡 κs.0 qs.0 a.1.0 _ _ _ _ _ _ (lasts g.ended (κs.0, tt) a) ((tt, tt), ((tt, ((tt, tt), tt)), tt)) tt
    (lent_typed κs.0 S 𝓛) (answer_typed κs.0 S 𝓛)
    (met 𝓤 𝓛 𝓜 𝓡 (code.calls-sonic_owned::value::lend_level::lend_object 𝓡.env wired) (((κs.0, tt), (qs.0, tt), tt, a, (mut_vals a.0, (alloc_vals a.1.0, tt))), tt))
    (answers.met 𝓤 𝓛 𝓜 𝓡 (code.calls-sonic_owned::value::lend::found_or_error 𝓡.env wired) A L) (λ x m. m)
    (λ o v. ends_at 𝓛 f.ended stayed c y v o (tt, (tt, tt)) (tt, (tt, tt))))
