-- The machine values of an `Unboxed`, at any type and allocator.
use Rattle.std.proofs.Common.{◌≡◌, List, [], ◌∷◌, ◌++◌, refl, lit<, ◌∙◌}
use Rattle.std.proofs.ResultValues.{and_tt}
use Rattle.std.proofs.alloc.Calls.{Al, Fits, handle_tells}
use Rattle.std.specs.Box.Ownership.{box_owns}
use denote.Param.{layout, param}
use denote.RattleType.{RattleType, Valss}
use denote.RawPtr.{Ptr, RawPtr, block_ptr, null_ptr, ptr_val}
use denote.Steps.{nothing}
use denote.Struct.Owning.{shape}
use denote.Struct.Struct.{within}
use lib.Dec.{T}
use mir.Syntax.{ty_ptr}
use mir.Val.{Val, vstruct, vcons, vnil, of_list, has_ty, WT}
use seplogic.Ra.Ura.{Ura}
use types.Kit.{Item, Goal, Step, Seq, step, ‵, ◌$◌, move, drop, fsplit, fjoin, fpick, fpack, feq_i, feq_l}
use types.Logic.{Logic}
use Rattle.sonic_c.specs.contracts.unboxed.Unboxed as U

pub ptr_good : (p : Ptr) → T (has_ty ty_ptr (ptr_val p)) × WT (ptr_val p)
ptr_good (block_ptr b o) = (tt, tt)
ptr_good null_ptr = (tt, record { fits = lit< tt })

abbrev pub pair_of : Ptr → Val → Val
pair_of p h = vstruct (vcons (ptr_val p) (vcons h vnil))

module _ (X : RattleType) (E : Al) where
  abbrev pub R : RattleType
  R = param 0 X

  abbrev pub Z : RattleType
  Z = param 1 E.row

  abbrev pub Unboxed_at : RattleType
  Unboxed_at = U.the_row R Z E.g

  pub unboxed_good : (p : Ptr) (h : Val) → Fits E h → T (has_ty (layout Unboxed_at) (pair_of p h)) × WT (pair_of p h)
  unboxed_good (block_ptr b o) h fits = (and_tt (has_ty (layout Z) h) fits.0, (tt, (fits.1, tt)))
  unboxed_good null_ptr h fits = (and_tt (has_ty (layout Z) h) fits.0, (record { fits = lit< tt }, (fits.1, tt)))

  module _ {M : Type 1} {𝓤 : Ura M} {𝓛 : Logic 𝓤} {J : Type 0} {Γ : List (Item 𝓤)} {G : Goal 𝓤 𝓛.H} where
    pub unboxed_out : J → (d : Unboxed_at.Denot) (vs : List Val)
        → ((h : Val) → vs ≡ pair_of d.at h ∷ [] → Fits E h
        → Seq J 𝓛 (‵ (box_owns (E.g.dealloc_token d.alloc) R d.at d.value) ∷ ‵ (Z.own_val d.alloc (h ∷ [])) ∷ Γ) G)
        → Seq J 𝓛 (‵ (Unboxed_at.own_val d vs) ∷ Γ) G
    unboxed_out t d vs k =
        fsplit t $ fpick t (λ vss. fsplit t $ feq_l t (λ is. fsplit t $ feq_l t (λ at. fsplit t $
        handle_tells E t d.alloc vss.1.0 (λ h alloc fits. move t (1 ∷ []) $ drop t $ move t (1 ∷ 0 ∷ []) $
        k h (is ∙ (λ i. vstruct (of_list (at i ++ (alloc i ++ []))) ∷ [])) fits))))

    pub unboxed_in : J → (p : Ptr) (h : Val) (a : E.row.Denot) (x : X.Denot)
        → Step J 𝓛 (‵ (Unboxed_at.own_val (record { at = p; alloc = a; value = x }) (pair_of p h ∷ [])) ∷ Γ) G
        (‵ (box_owns (E.g.dealloc_token a) R p x) ∷ ‵ (Z.own_val a (h ∷ [])) ∷ Γ) G
    unboxed_in t p h a x = step (λ s. let v : Val = pair_of p h in
        nothing t $ move t (2 ∷ 0 ∷ []) $ fjoin t $ feq_i t (List Val) (ptr_val p ∷ []) (ptr_val p ∷ []) refl $ fjoin t $
        feq_i t (List Val) (v ∷ []) (v ∷ []) refl $ fjoin t $
        fpack t (Valss (RawPtr ∷ Z ∷ [])) (within (shape (U.the_type R Z E.g)) (p, (a, tt)) (v ∷ [])) (ptr_val p ∷ [], (h ∷ [], tt)) $ fjoin t $ s)
