-- The machine values of `Paths` and of what it keeps.
use Rattle.std.proofs.Common.{◌≡◌, ℕ, zero, suc, List, [], ◌∷◌, ◌++◌, ◌<◌, ◌^◌, refl, lit<, ◌∙◌}
use mir.Syntax.{w64}
use mir.Val.{Val, vint, vstruct, vcons, vnil, of_list, has_ty, WT}
use lib.Dec.{T, eqb}
use mathlib.Core.Bool.{not}
use types.Match.{live}
use Rattle.std.specs.contracts.option.Option as OP
use seplogic.Ra.Ura.{Ura}
use base.Fml.{Fml}
use types.Logic.{Logic}
use types.Kit.{Item, Goal, Step, Seq, step, ‵, ◌$◌, move, drop, rewrite, fsplit, fjoin, fpick, fpack, feq_i, feq_l}
use Rattle.std.specs.Prelude.{length}
use denote.Builtin.{usize}
use denote.Laws.{Is, shows}
use denote.Plain.{uint_Makes}
use denote.Param.{layout}
use denote.RattleType.{RattleType, Valss}
use denote.RawPtr.{Ptr, RawPtr, block_ptr, null_ptr, ptr_val}
use denote.Steps.{nothing, owned, peeks}
use denote.Struct.Laws.{val as struct_val, tells as struct_tells}
use denote.Struct.Owning.{shape}
use denote.Struct.Struct.{within}
use Rattle.std.proofs.alloc.Global.TheLaws.{the_laws as global_laws}
use Rattle.std.specs.contracts.alloc.Global as GL
use Rattle.std.specs.contracts.impls.GlobalAllocator.TheImpl.{ghosts}
use Rattle.sonic_c.specs.Kept.{PathList}
use Rattle.sonic_c.specs.Internal.Owned.{memory}
use Rattle.sonic_c.specs.contracts.kept.Kept as K
use Rattle.sonic_c.specs.contracts.paths.Paths as P
use Rattle.sonic_c.specs.contracts.unboxed.Unboxed as U

abbrev pub global_val : GL.the_row.Denot → Val
global_val x = struct_val GL.the_type global_laws x

-- what `Paths` is to the machine
abbrev pub word : Ptr → ℕ → ℕ → GL.the_row.Denot → Val
word p held count a = vstruct (vcons (ptr_val p) (vcons (vint w64 held) (vcons (vint w64 count) (vcons (global_val a) vnil))))

-- the box of what is kept, as its pointer
abbrev pub Kept_at : RattleType
Kept_at = U.the_row K.the_row GL.the_row ghosts

abbrev pub pair : Ptr → GL.the_row.Denot → Val
pair p a = vstruct (vcons (ptr_val p) (vcons (global_val a) vnil))

-- what it owns beside its fields
abbrev pub boxed : Ptr → GL.the_row.Denot → PathList → Fml
boxed p a x = U.the_heap K.the_row GL.the_row ghosts (record { at = p; alloc = a; value = x })

abbrev Good : RattleType → Val → Type 0
Good R v = T (has_ty (layout R) v) × WT v

pub pair_good : (p : Ptr) (a : GL.the_row.Denot) → Good Kept_at (pair p a)
pair_good (block_ptr b o) a = (tt, (tt, (((tt, tt), tt), tt)))
pair_good null_ptr a = (tt, (record { fits = lit< tt }, (((tt, tt), tt), tt)))

pub word_good : (p : Ptr) (n m : ℕ) (a : GL.the_row.Denot) → n < 2 ^ 64 → m < 2 ^ 64 → Good P.the_row (word p n m a)
word_good (block_ptr b o) n m a fits fits' = (tt, (tt, (record { fits = fits }, (record { fits = fits' }, (((tt, tt), tt), tt)))))
word_good null_ptr n m a fits fits' = (tt, (record { fits = lit< tt }, (record { fits = fits }, (record { fits = fits' }, (((tt, tt), tt), tt)))))

pub some_good : (p : Ptr) (a : GL.the_row.Denot) → Good (OP.the_row Kept_at) (live 1 (vcons (pair p a) vnil))
some_good (block_ptr b o) a = (tt, (record { fits = lit< tt }, ((tt, (((tt, tt), tt), tt)), tt)))
some_good null_ptr a = (tt, (record { fits = lit< tt }, ((record { fits = lit< tt }, (((tt, tt), tt), tt)), tt)))

-- where something is kept, that is the memory
pub is_kept : (held : ℕ) (x : PathList) (kept : Fml) → T (not (eqb held 0)) → memory held x kept ≡ kept
is_kept zero x kept some = absurd some
is_kept (suc n) x kept some = refl

module _ {M : Type 1} {𝓤 : Ura M} {𝓛 : Logic 𝓤} {J : Type 0} {Γ : List (Item 𝓤)} {G : Goal 𝓤 𝓛.H} where
  pub paths_in : J → (p : Ptr) (n m : ℕ) (a : GL.the_row.Denot) (x : PathList) → n < 2 ^ 64 → m < 2 ^ 64 → m ≡ length x.paths
      → Step J 𝓛 (‵ (P.the_row.own_val (record { kept = p; held = n; count = m; alloc = a; list = x }) (word p n m a ∷ [])) ∷ Γ) G
      (‵ (memory n x (boxed p a x)) ∷ ‵ (GL.the_row.own_val a (global_val a ∷ [])) ∷ Γ) G
  paths_in t p n m a x fits fits' long = step (λ s. let v : Val = word p n m a in
      feq_i t ℕ m (length x.paths) long $ fjoin t $
      nothing t $ move t (2 ∷ 0 ∷ []) $ fjoin t $ owned t usize _ (uint_Makes 𝓛 w64) m (vint w64 m ∷ []) (refl, fits') $ fjoin t $
      owned t usize _ (uint_Makes 𝓛 w64) n (vint w64 n ∷ []) (refl, fits) $ fjoin t $
      feq_i t (List Val) (ptr_val p ∷ []) (ptr_val p ∷ []) refl $ fjoin t $ feq_i t (List Val) (v ∷ []) (v ∷ []) refl $ fjoin t $
      fpack t (Valss (RawPtr ∷ usize ∷ usize ∷ GL.the_field.row ∷ [])) (within (shape P.the_type) (p, (n, (m, (((a.memory.seal, tt), tt), tt)))) (v ∷ []))
      (ptr_val p ∷ [], (vint w64 n ∷ [], (vint w64 m ∷ [], (global_val a ∷ [], tt)))) $ fjoin t $ s)

  pub paths_out : J → (d : P.the_row.Denot) (vs : List Val)
      → (vs ≡ word d.kept d.held d.count d.alloc ∷ [] → d.held < 2 ^ 64 → d.count < 2 ^ 64 → d.count ≡ length d.list.paths
      → Seq J 𝓛 (‵ (memory d.held d.list (boxed d.kept d.alloc d.list)) ∷ ‵ (GL.the_row.own_val d.alloc (global_val d.alloc ∷ [])) ∷ Γ) G)
      → Seq J 𝓛 (‵ (P.the_row.own_val d vs) ∷ Γ) G
  paths_out t d vs k =
      fsplit t $ fpick t (λ vss. fsplit t $ feq_l t (λ is. fsplit t $ feq_l t (λ at. fsplit t $
      peeks t usize (Is usize) (shows 𝓛 usize) d.held vss.1.0 (λ held. drop t $ fsplit t $
      peeks t usize (Is usize) (shows 𝓛 usize) d.count vss.1.1.0 (λ count. drop t $ fsplit t $
      peeks t GL.the_row (Is GL.the_row) (shows 𝓛 GL.the_row) d.alloc vss.1.1.1.0 (λ shown.
      let alloc : vss.1.1.1.0 ≡ global_val d.alloc ∷ [] = struct_tells GL.the_type global_laws d.alloc vss.1.1.1.0 shown in
      rewrite t 0 (λ (us : List Val). ‵ (GL.the_row.own_val d.alloc us)) alloc refl $ move t (1 ∷ []) $ drop t $ move t (1 ∷ []) $ fsplit t $ feq_l t (λ long.
      k (is ∙ (λ i. vstruct (of_list (at i ++ (held.0 i ++ (count.0 i ++ (alloc i ++ []))))) ∷ [])) held.1 count.1 long)))))))

  pub unboxed_in : J → (p : Ptr) (a : GL.the_row.Denot) (x : PathList)
      → Step J 𝓛 (‵ (Kept_at.own_val (record { at = p; alloc = a; value = x }) (pair p a ∷ [])) ∷ Γ) G
      (‵ (boxed p a x) ∷ ‵ (GL.the_row.own_val a (global_val a ∷ [])) ∷ Γ) G
  unboxed_in t p a x = step (λ s. let v : Val = pair p a in
      nothing t $ move t (2 ∷ 0 ∷ []) $ fjoin t $ feq_i t (List Val) (ptr_val p ∷ []) (ptr_val p ∷ []) refl $ fjoin t $
      feq_i t (List Val) (v ∷ []) (v ∷ []) refl $ fjoin t $
      fpack t (Valss (RawPtr ∷ GL.the_row ∷ [])) (within (shape (U.the_type K.the_row GL.the_row ghosts)) (p, (a, tt)) (v ∷ []))
      (ptr_val p ∷ [], (global_val a ∷ [], tt)) $ fjoin t $ s)

  pub unboxed_out : J → (d : Kept_at.Denot) (vs : List Val)
      → (vs ≡ pair d.at d.alloc ∷ [] → Seq J 𝓛 (‵ (boxed d.at d.alloc d.value) ∷ ‵ (GL.the_row.own_val d.alloc (global_val d.alloc ∷ [])) ∷ Γ) G)
      → Seq J 𝓛 (‵ (Kept_at.own_val d vs) ∷ Γ) G
  unboxed_out t d vs k =
      fsplit t $ fpick t (λ vss. fsplit t $ feq_l t (λ is. fsplit t $ feq_l t (λ at. fsplit t $
      peeks t GL.the_row (Is GL.the_row) (shows 𝓛 GL.the_row) d.alloc vss.1.0 (λ shown.
      let alloc : vss.1.0 ≡ global_val d.alloc ∷ [] = struct_tells GL.the_type global_laws d.alloc vss.1.0 shown in
      rewrite t 0 (λ (us : List Val). ‵ (GL.the_row.own_val d.alloc us)) alloc refl $ move t (1 ∷ []) $ drop t $ move t (1 ∷ 0 ∷ []) $
      k (is ∙ (λ i. vstruct (of_list (at i ++ (alloc i ++ []))) ∷ []))))))
