-- Values that are lent, or none, as types, and how such an answer is taken apart. Assumes `Logic`.
use Rattle.std.proofs.Common.{◌≡◌, List, [], ◌∷◌, ◌++◌, ap, ◌∙◌, refl, MutBor, Option, Some, None}
use Rattle.std.specs.contracts.option.Option as OP
use base.Fml.{Lft}
use base.Logic.{ent, guard, emp}
use denote.Enum.Declared.{shape}
use denote.Enum.Enum.{Enum-Lawful}
use denote.Laws.{shows, Is}
use denote.Param.{layout}
use denote.RattleType.{RattleType}
use denote.Ref.{MutRef, mut_Lawful, mut_vals, mut_Tells}
use denote.Steps.{only, peeks}
use lib.Dec.{T}
use mir.Syntax.{named}
use mir.Val.{Val, of_list, has_ty, WT}
use seplogic.Ra.Ura.{Ura}
use types.Kit.{Item, Seq, Goal, ‵, raw, given, learn, check, ◌$◌, ◌∵◌, !, qed, done, keep, use1, rewrite, fsplit, fpick, feq_l}
use types.Logic.{Logic, sem}
use types.Match.{live}

module _ (κ : Lft) (S : RattleType) where
  abbrev pub Lent_at : RattleType
  Lent_at = MutRef (named 0) κ S

  -- what is lent, or none
  abbrev pub Answer_at : RattleType
  Answer_at = OP.the_row Lent_at

  module _ {M : Type 1} {𝓤 : Ura M} (𝓛 : Logic 𝓤) where
    -- it has its type as a machine value
    pub answer_typed : (o : Option (MutBor S.Denot)) (v : Val) → Is Answer_at o (v ∷ []) → T (has_ty (layout Answer_at) v) × WT v
    answer_typed o v is = ((Enum-Lawful 𝓛 (shape (OP.the_type Lent_at)) tt (tt, ((mut_Lawful 𝓛 (named 0) κ S, tt), tt))).typed _ (v ∷ []) is).0

    -- it is taken apart
    some_out : (x : MutBor S.Denot) (v : Val) → ent 𝓤 (sem 𝓛 (Answer_at.own_val (Some x) (v ∷ [])))
        (guard 𝓤 (v ≡ live 1 (of_list (mut_vals x))) (sem 𝓛 (Lent_at.own_val x (mut_vals x))))
    some_out x v = qed 𝓛 (‵ (Answer_at.own_val (Some x) (v ∷ [])) ∷ []) ∵ fpick ! (λ us. fsplit ! $ feq_l ! (λ e. fpick ! (λ vss. fsplit ! $ feq_l ! (λ e'. fsplit ! $
        peeks ! Lent_at (Is Lent_at) (shows 𝓛 Lent_at) x vss.0 (λ is. let t = mut_Tells (named 0) κ S x vss.0 is in
        rewrite ! 0 (λ (l : List Val). ‵ (Lent_at.own_val x l)) t refl $
        check ! (ap only e ∙ ap (λ (l : List Val). live 1 (of_list l)) (e' ∙ ap (λ (l : List Val). l ++ []) t)) $ keep ! (0 ∷ []) $ done !)))))

    none_out : (v : Val) → ent 𝓤 (sem 𝓛 (Answer_at.own_val None (v ∷ []))) (guard 𝓤 (v ≡ live 0 (of_list [])) (emp 𝓤))
    none_out v = qed 𝓛 (‵ (Answer_at.own_val None (v ∷ [])) ∷ []) ∵ fpick ! (λ us. fsplit ! $ feq_l ! (λ e. fpick ! (λ vss. fsplit ! $ feq_l ! (λ e'.
        check ! (ap only e ∙ ap (λ (l : List Val). live 0 (of_list l)) e') $ done !))))

    pub by_option : {K : Type 0} {Γ : List (Item 𝓤)} {G : Goal 𝓤 𝓛.H} → K → (o : Option (MutBor S.Denot)) (v : Val)
        → ((x : MutBor S.Denot) → o ≡ Some x → v ≡ live 1 (of_list (mut_vals x)) → Seq K 𝓛 (‵ (Lent_at.own_val x (mut_vals x)) ∷ Γ) G)
        → (o ≡ None → v ≡ live 0 (of_list []) → Seq K 𝓛 (raw (emp 𝓤) ∷ Γ) G)
        → Seq K 𝓛 (‵ (Answer_at.own_val o (v ∷ [])) ∷ Γ) G
    by_option t (Some x) v s n = use1 𝓛 (given (v ≡ live 1 (of_list (mut_vals x))) (‵ (Lent_at.own_val x (mut_vals x)))) (some_out x v) $ learn t (λ e. s x refl e)
    by_option t None v s n = use1 𝓛 (given (v ≡ live 0 (of_list [])) (raw (emp 𝓤))) (none_out v) $ learn t (λ e. n refl e)
