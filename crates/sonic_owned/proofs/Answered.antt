-- What is lent, and the answer that says so, as types, and the call that makes it. Assumes `Logic`.
use Rattle.sonic_owned.proofs.Steps.{Lft, Share, ftrue, flft, full_share, emp, id⊢, ◌⊑◌, ⊑_static, fact, fact_i, Running, tables, shape, Enum-Lawful, shows, Is, layout, param, RattleType, MutRef, mut_Lawful, nothing, peeks, heard, calls_at, lasts, triple_of, Meets, Contract, framed, T, Body, Callee, named, seq, call, Val, has_ty, WT, Model, Env, Calls, Loops, Ura, Item, Post, Seq, ‵, raw, ◌⊛◌, some, later, ◌$◌, move, drop, use0, use1, use2, split, join, pick, await, Logic}
use Rattle.std.proofs.Common.{List, [], ◌∷◌, Result, MutBor}
use Rattle.std.specs.contracts.option.Option as OP
use Rattle.std.specs.contracts.result.Result as RS
use Rattle.sonic_error.proofs.error.Error.TheLaws.{the_row_laws as error_laws}
use Rattle.sonic_error.specs.contracts.error.Error.{the_row as ErrorRow}
use Rattle.sonic_owned.proofs.value.lend.Stop.TheLaws.{the_row_laws as stop_laws}
use Rattle.sonic_owned.specs.Internal.Lends.{IsLoanAnswer}
use Rattle.sonic_owned.specs.Lends.{LoanAnswer}
use Rattle.sonic_owned.specs.contracts.value.lend.Stop.{the_row as StopRow}
use Rattle.sonic_owned.specs.contracts.value.lend.found_or_error as h
use Rattle.sonic_owned.specs.declared.value.lend.Stop.{Stop}
use denote.Enum.Declared.{Declared}
use denote.Enum.Enum.{Enum}
use denote.Laws.{Lawful}
use denote.Struct.Recorded.{recorded_lawful}
use denote.Triple.Clauses.{Lasts}
use mir.Syntax.{Opd, Place}
use types.Kit.{runs, lands}
use types.Run.{Opds}

module _ (κ : Lft) (S : RattleType) where
  abbrev Part : RattleType
  Part = MutRef (named 0) κ S

  abbrev Maybe : RattleType
  Maybe = OP.the_row Part

  -- what is lent, or why nothing is
  abbrev pub Lent_at : RattleType
  Lent_at = RS.the_row Part StopRow

  -- what is answered
  abbrev pub Answer_at : RattleType
  Answer_at = RS.the_row Maybe ErrorRow

  module _ {M : Type 1} {𝓤 : Ura M} (𝓛 : Logic 𝓤) where
    -- both have their types as machine values
    pub lent_typed : (o : Result (MutBor S.Denot) Stop) (v : Val) → Is Lent_at o (v ∷ []) → T (has_ty (layout Lent_at) v) × WT v
    lent_typed o v is = ((Enum-Lawful 𝓛 (shape (RS.the_type Part StopRow)) tt ((mut_Lawful 𝓛 (named 0) κ S, tt), ((stop_laws.lawful 𝓛, tt), tt))).typed _
        (v ∷ []) is).0

    maybe_laws : Lawful 𝓛 Maybe
    maybe_laws =
        let t : Declared = OP.the_type Part in
        recorded_lawful (Enum (shape t)) t.D t.to t.to_one 𝓛 (Enum-Lawful 𝓛 (shape t) tt (tt, ((mut_Lawful 𝓛 (named 0) κ S, tt), tt)))

    pub answer_typed : (a : LoanAnswer S.Denot) (v : Val) → Is Answer_at a (v ∷ []) → T (has_ty (layout Answer_at) v) × WT v
    answer_typed a v is = ((Enum-Lawful 𝓛 (shape (RS.the_type Maybe ErrorRow)) tt ((maybe_laws, tt), ((error_laws.lawful 𝓛, tt), tt))).typed _ (v ∷ []) is).0

-- the call that answers, as a step of a walk
module _ (A : RattleType) {M : Type 1} {𝓤 : Ura M} (𝓛 : Logic 𝓤) (𝓜 : Model 𝓤 𝓛.H) (𝓡 : Running 𝓤 𝓛.H 𝓜) where
  open 𝓛 use {H}

  abbrev C : Calls 𝓤 H
  C = (tables 𝓤 H 𝓜 𝓡 𝓡.env).C

  abbrev Λ : Loops 𝓤 H
  Λ = (tables 𝓤 H 𝓜 𝓡 𝓡.env).Λ

  abbrev N : Contract 𝓤
  N = triple_of 𝓛 (h.signature A) (h.spec A 𝓛 𝓜.mem 𝓡.returns)

  module _ (κ : Lft) (q : Share) (o : Result (MutBor A.Denot) Stop) (v : Val) where
    abbrev z : N.Ghost
    z = (((κ, ([], tt)), (q, (full_share, tt)), (⊑_static κ, tt), (o, tt), (v ∷ [], tt)), tt)

    -- the token comes back with the answer
    pub answers : {K : Type 0} {Γ : List (Item 𝓤)} {E : Env 𝓤 H} {f : Callee} {xs : List Opd} {d : Place} {rest : Body} {out : Post 𝓤 H} → K
        → Meets 𝓛 (h.signature A) (C f) (h.spec A 𝓛 𝓜.mem 𝓡.returns) → [] ⊑ A.lives
        → Opds K 𝓛 (raw (N.pre z) ∷ Γ) E xs (v ∷ [])
        → ((v' : Val) (a : LoanAnswer A.Denot) → IsLoanAnswer o a → Is (Answer_at κ (param 0 A)) a (v' ∷ [])
        → Seq K 𝓛 (‵ ((Answer_at κ (param 0 A)).own_val a (v' ∷ [])) ∷ ‵ (flft κ q) ∷ Γ) (lands C Λ E d v' rest out))
        → Seq K 𝓛 (‵ (flft κ q) ∷ ‵ ((Lent_at κ (param 0 A)).own_val o (v ∷ [])) ∷ Γ) (runs C Λ E (seq (call f xs d) rest) out)
    answers t met lives args k =
        nothing t $ use0 𝓛 (‵ (flft [] full_share)) (𝓛.lfts.lft-nil full_share) $ join t $ move t (1 ∷ 0 ∷ []) $ join t $
        -- [the tokens; what is lent]
        nothing t $ move t (2 ∷ 0 ∷ []) $ join t $ move t (1 ∷ 0 ∷ []) $ join t $
        nothing t $ use0 𝓛 (raw (fact 𝓤 ([] ⊑ A.lives))) (fact_i 𝓤 _ (emp 𝓤) lives) $ join t $ move t (1 ∷ 0 ∷ []) $
        use2 𝓛 (raw (N.pre z)) (id⊢ 𝓤 _) $
        calls_at t (framed 𝓤 H 𝓜 (tables 𝓤 H 𝓜 𝓡 𝓡.env)) N met z args (λ v'.
        use1 𝓛 (later (some (λ (a : LoanAnswer A.Denot). ((‵ (flft κ q) ⊛ ‵ (flft [] full_share) ⊛ ‵ ftrue) ⊛ ‵ ((Answer_at κ (param 0 A)).own_val a (v' ∷ []))) ⊛
        some (λ (ws : Lasts (h.ended A) z.0.0 z.0.3). ‵ (lasts (h.ended A) z.0.0 z.0.3 ws) ⊛ raw (fact 𝓤 (IsLoanAnswer o a)))))) (id⊢ 𝓤 _) $
        await t tt $ pick t (λ a. split t $ split t $ move t (2 ∷ []) $ pick t (λ ws. split t $ drop t $ heard t (IsLoanAnswer o a) (λ is_a.
        split t $ move t (1 ∷ []) $ drop t $ move t (1 ∷ 0 ∷ []) $
        peeks t (Answer_at κ (param 0 A)) (Is (Answer_at κ (param 0 A))) (shows 𝓛 (Answer_at κ (param 0 A))) a (v' ∷ []) (λ is. k v' a is_a is)))))
