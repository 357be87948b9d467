-- How proofs by hand pass on a loan, above all from a type to itself. They assume `Logic`.
use Rattle.sonic_owned.proofs.Steps.{T, Ura, ent, sep, emp, Fml, Lft, named, Val, of_list, Logic, sem, Item, Seq, ‵, ◌$◌, ◌∵◌, !, qed, done, move, keep, use0, use1, use2, rewrite, fjoin, live, RattleType, shows, Is, MutRef, mut_vals, mut_Tells, follows_so, peeks}
use Rattle.std.proofs.Common.{◌≡◌, ℕ, zero, suc, ◌-◌, List, [], ◌∷◌, ◌++◌, refl, ap, ◌∙◌, subst, MutBor, Result, Ok, Err, arith}
use mathlib.Core.Option as maybe
use mathlib.Core.Bool.{not}
use lib.Dec.{eqb, eqb-suc-zero}
use base.Logic.{wand, guard}
use base.Fml.{GName, fex, feq, fsep, fres, fauth}
use types.Kit.{Goal, given, learn, check, each, assume, fsplit, fpick, fpack, feq_l, feq_i}
use denote.Follow.{follows, follows_by, such_by, followed, follows_then}
use denote.Steps.{only}
use Rattle.std.specs.contracts.result.Result as RS
use denote.Param.Laws.{Told}

pub is_zero : (n : ℕ) → T (eqb n 0) → n ≡ 0
is_zero zero t = refl
is_zero (suc m) t = absurd (subst T (eqb-suc-zero m) t)

pub is_suc : (n : ℕ) → T (not (eqb n 0)) → n ≡ suc (n - 1)
is_suc zero t = absurd t
is_suc (suc m) t = omega arith

module _ {M : Type 1} {𝓤 : Ura M} (𝓛 : Logic 𝓤) (R : RattleType) where
  open 𝓛 use {A}

  abbrev D : Type 0
  D = R.Denot

  -- a reference's name follows itself
  pub follows_self : (γ : GName) → ent 𝓤 (emp 𝓤) (sem 𝓛 (follows R R γ γ (λ w. w)))
  follows_self γ =
      let From : D → D → Fml = λ z w. fsep (feq D z w) (fauth γ (R.coded.code w)) in
      let said = qed 𝓛 [] ∵ each ! (λ (w : D). wand 𝓤 (A.res γ (R.coded.code w)) (A.res γ (R.coded.code w))) (λ w. assume ! (‵ (fres γ (R.coded.code w))) $
      done !) in
      let back = qed 𝓛 [] ∵ each ! (λ (z : D). wand 𝓤 (A.auth γ (R.coded.code z)) (sem 𝓛 (fex D (From z)))) (λ z. assume ! (‵ (fauth γ (R.coded.code z))) $
      feq_i ! D z z refl $ fjoin ! $ fpack ! D (From z) z $ done !) in
      record { apply = λ a p. (said.apply a p, back.apply a p) }

  -- what a `follows_so` hides
  abbrev Hidden : (D → D → Type 0) → (D → Type 0) → Type 0
  Hidden P P₀ = (s : (D → D) × D) × ((w : D) → P w (s.0 w)) × P₀ s.1

  abbrev Shown : GName → maybe.Option GName → (P : D → D → Type 0) (P₀ : D → Type 0) → Hidden P P₀ → Fml
  Shown γ m P P₀ s = follows_by D D R.coded.code R.coded.code γ m s.0.0 s.0.1

  pub so_self : (γ : GName) (P : D → D → Type 0) (P₀ : D → Type 0) → ((w : D) → P w w) → (v : D) → P₀ v
      → ent 𝓤 (emp 𝓤) (sem 𝓛 (follows_so R R γ (maybe.some γ) P P₀))
  unfolding such_by follows_by
  so_self γ P P₀ p v p₀ = qed 𝓛 [] ∵ use0 𝓛 (‵ (follows R R γ γ (λ w. w))) (follows_self γ) $ fpack ! (Hidden P P₀) (Shown γ (maybe.some γ) P P₀)
      (((λ w. w), v), p, p₀) $ done !

  -- a part of a part
  pub so_then : (γ δ : GName) (m : maybe.Option GName) (P₁ : D → D → Type 0) (P₁₀ : D → Type 0) (P₂ : D → D → Type 0) (P₂₀ : D → Type 0) (P : D → D → Type 0)
      (P₀ : D → Type 0)
      → ((w y z : D) → P₂ w y → P₁ y z → P w z) → ((y z : D) → P₂₀ y → P₁ y z → P₀ z)
      → ent 𝓤 (sep 𝓤 (sem 𝓛 (follows_so R R γ (maybe.some δ) P₁ P₁₀)) (sem 𝓛 (follows_so R R δ m P₂ P₂₀))) (sem 𝓛 (follows_so R R γ m P P₀))
  unfolding such_by follows_by
  so_then γ δ maybe.none P₁ P₁₀ P₂ P₂₀ P P₀ p p₀ = qed 𝓛 (‵ (follows_so R R γ (maybe.some δ) P₁ P₁₀) ∷ ‵ (follows_so R R δ maybe.none P₂ P₂₀) ∷ []) ∵ fpick !
      (λ s. move ! (1 ∷ 0 ∷ []) $ fpick ! (λ t. move ! (1 ∷ 0 ∷ []) $
      use2 𝓛 (‵ (fres γ (R.coded.code (s.0.0 t.0.1)))) (followed 𝓛 R R s.0.0 γ δ t.0.1) $
      fpack ! (Hidden P P₀) (Shown γ maybe.none P P₀) (
        ((λ w. s.0.0 (t.0.0 w)), s.0.0 t.0.1),
        (λ w. p w (t.0.0 w) (s.0.0 (t.0.0 w)) (t.1 w) (s.1 (t.0.0 w))),
        p₀
            t.0.1 (s.0.0 t.0.1) t.2 (s.1 t.0.1),
      ) $ done !))
  so_then γ δ (maybe.some ε) P₁ P₁₀ P₂ P₂₀ P P₀ p p₀ = qed 𝓛 (‵ (follows_so R R γ (maybe.some δ) P₁ P₁₀) ∷ ‵
      (follows_so R R δ (maybe.some ε) P₂ P₂₀) ∷ []) ∵ fpick
      ! (λ s. move ! (1 ∷ 0 ∷ []) $ fpick ! (λ t. move ! (1 ∷ 0 ∷ []) $
      use2 𝓛 (‵ (follows R R γ ε (λ w. s.0.0 (t.0.0 w)))) (follows_then 𝓛 R R R s.0.0 t.0.0 γ δ ε) $
      fpack ! (Hidden P P₀) (Shown γ (maybe.some ε) P P₀) (
        ((λ w. s.0.0 (t.0.0 w)), s.0.0 t.0.1),
        (λ w. p w (t.0.0 w) (s.0.0 (t.0.0 w)) (t.1 w) (s.1 (t.0.0 w))),
        p₀ t.0.1 (s.0.0 t.0.1) t.2 (s.1 t.0.1),
      ) $ done !))

-- of a part of another type
module _ {M : Type 1} {𝓤 : Ura M} (𝓛 : Logic 𝓤) (R S : RattleType) where
  open 𝓛 use {A}

  abbrev Whole : Type 0
  Whole = R.Denot

  abbrev Part : Type 0
  Part = S.Denot

  abbrev Kept : (Part → Whole → Type 0) → (Whole → Type 0) → Type 0
  Kept P P₀ = (s : (Part → Whole) × Whole) × ((w : Part) → P w (s.0 w)) × P₀ s.1

  abbrev Says : GName → maybe.Option GName → (P : Part → Whole → Type 0) (P₀ : Whole → Type 0) → Kept P P₀ → Fml
  Says γ m P P₀ s = follows_by Whole Part R.coded.code S.coded.code γ m s.0.0 s.0.1

  -- what is said of a loan's end, in fewer words
  pub so_weaker : (γ : GName) (m : maybe.Option GName) (P Q : Part → Whole → Type 0) (P₀ Q₀ : Whole → Type 0) → ((w : Part) (n : Whole) → P w n → Q w n)
      → ((v : Whole) → P₀ v → Q₀ v) → ent 𝓤 (sem 𝓛 (follows_so R S γ m P P₀)) (sem 𝓛 (follows_so R S γ m Q Q₀))
  unfolding such_by follows_by
  so_weaker γ m P Q P₀ Q₀ p p₀ = qed 𝓛 (‵ (follows_so R S γ m P P₀) ∷ []) ∵ fpick !
      (λ s. fpack ! (Kept Q Q₀) (Says γ m Q Q₀) (s.0, (λ w. p w (s.0.0 w) (s.1 w)), p₀ s.0.1 s.2) $ done !)

  -- a part is lent, with other words
  pub so_lent : (γ δ : GName) (P Q : Part → Whole → Type 0) (P₀ Q₀ : Whole → Type 0) → ((w : Part) (n : Whole) → P w n → Q w n) → (v : Whole) → Q₀ v
      → ent 𝓤 (sem 𝓛 (follows_so R S γ (maybe.some δ) P P₀)) (sem 𝓛 (follows_so R S γ (maybe.some δ) Q Q₀))
  unfolding such_by follows_by
  so_lent γ δ P Q P₀ Q₀ p v q = qed 𝓛 (‵ (follows_so R S γ (maybe.some δ) P P₀) ∷ []) ∵ fpick ! (λ s.
      fpack ! (Kept Q Q₀) (Says γ (maybe.some δ) Q Q₀) ((s.0.0, v), (λ w. p w (s.0.0 w) (s.1 w)), q) $ done !)

-- a `Result<&mut R, X>` is taken apart
module _ {M : Type 1} {𝓤 : Ura M} (𝓛 : Logic 𝓤) (R X : RattleType) (told : Told X) (κ : Lft) where
  abbrev Given : RattleType
  Given = MutRef (named 0) κ R

  abbrev E : RattleType
  E = RS.the_row Given X

  ok-out : (x : MutBor R.Denot) (v : Val) → ent 𝓤 (sem 𝓛 (E.own_val (Ok x) (v ∷ [])))
      (guard 𝓤 (v ≡ live 0 (of_list (mut_vals x))) (sem 𝓛 (Given.own_val x (mut_vals x))))
  ok-out x v = qed 𝓛 (‵ (E.own_val (Ok x) (v ∷ [])) ∷ []) ∵ fpick ! (λ us. fsplit ! $ feq_l ! (λ e. fpick ! (λ vss. fsplit ! $ feq_l ! (λ e'. fsplit ! $
      peeks ! Given (Is Given) (shows 𝓛 Given) x vss.0 (λ is. let t = mut_Tells (named 0) κ R x vss.0 is in
      rewrite ! 0 (λ (l : List Val). ‵ (Given.own_val x l)) t refl $
      check ! (ap only e ∙ ap (λ (l : List Val). live 0 (of_list l)) (e' ∙ ap (λ (l : List Val). l ++ []) t)) $ keep ! (0 ∷ []) $ done !)))))

  err-out : (x : X.Denot) (v : Val) → ent 𝓤 (sem 𝓛 (E.own_val (Err x) (v ∷ []))) (guard 𝓤 (v ≡ live 1 (of_list (told.val x ∷ [])))
      (sem 𝓛 (X.own_val x (told.val x ∷ []))))
  err-out x v = qed 𝓛 (‵ (E.own_val (Err x) (v ∷ [])) ∷ []) ∵ fpick ! (λ us. fsplit ! $ feq_l ! (λ e. fpick ! (λ vss. fsplit ! $ feq_l ! (λ e'. fsplit ! $
      peeks ! X (Is X) (shows 𝓛 X) x vss.0 (λ is. let t = told.tells x vss.0 is in
      rewrite ! 0 (λ (l : List Val). ‵ (X.own_val x l)) t refl $
      check ! (ap only e ∙ ap (λ (l : List Val). live 1 (of_list l)) (e' ∙ ap (λ (l : List Val). l ++ []) t)) $ keep ! (0 ∷ []) $ done !)))))

  pub by_result : {K : Type 0} {Γ : List (Item 𝓤)} {G : Goal 𝓤 𝓛.H} → K → (o : Result (MutBor R.Denot) X.Denot) (v : Val)
      → ((x : MutBor R.Denot) → o ≡ Ok x → v ≡ live 0 (of_list (mut_vals x)) → Seq K 𝓛 (‵ (Given.own_val x (mut_vals x)) ∷ Γ) G)
      → ((x : X.Denot) → o ≡ Err x → v ≡ live 1 (of_list (told.val x ∷ [])) → Seq K 𝓛 (‵ (X.own_val x (told.val x ∷ [])) ∷ Γ) G)
      → Seq K 𝓛 (‵ (E.own_val o (v ∷ [])) ∷ Γ) G
  by_result t (Ok x) v s n = use1 𝓛 (given (v ≡ live 0 (of_list (mut_vals x))) (‵ (Given.own_val x (mut_vals x)))) (ok-out x v) $ learn t (λ e. s x refl e)
  by_result t (Err x) v s n = use1 𝓛 (given (v ≡ live 1 (of_list (told.val x ∷ []))) (‵ (X.own_val x (told.val x ∷ [])))) (err-out x v) $ learn t
      (λ e. n x refl e)
