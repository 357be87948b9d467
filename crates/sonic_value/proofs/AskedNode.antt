-- The call that asks what names an item for its node. Assumes `Logic`.
use Rattle.std.proofs.Common.{◌≡◌, List, [], ◌∷◌, Bor}
use Rattle.sonic_pointer.proofs.node.PointerNode.TheLaws.{the_row_laws as node_laws}
use Rattle.sonic_pointer.specs.Nodes.{node_of}
use Rattle.sonic_pointer.specs.contracts.node.PointerNode.{the_row as PointerNode_at}
use Rattle.sonic_pointer.specs.declared.node.PointerNode.{PointerNode}
use Rattle.sonic_value.specs.contracts.index.Names.to_node as f
use Rattle.sonic_value.specs.declared.index.Names.{Ghosts as Names}
use base.Fml.{Lft, Share, ftrue, flft}
use base.Logic.{id⊢, emp}
use contract.BorrowLft.{◌⊑◌}
use contract.Lifetimes.{AllOutlive}
use contract.Monad.{fact, fact_i}
use contract.Running.{Running, tables}
use denote.Laws.{shows, Is}
use denote.Param.{param, layout}
use denote.RattleType.{RattleType}
use denote.Ref.{ShrRef, shr_vals}
use denote.Steps.{nothing, peeks, heard}
use denote.Triple.Call.{calls_at}
use denote.Triple.Clauses.{lasts, Ended, Lasts}
use denote.Triple.Spec.{triple_of, Meets}
use denote.Triple.Statement.{Contract}
use denote.Triple.Table.{framed}
use lib.Dec.{T}
use mir.Syntax.{Body, Dict, Opd, Place, named, seq, call, method, no_args}
use mir.Val.{Val, has_ty, WT}
use prog.Model.{Model}
use prog.Wp.{Env, Calls, Loops}
use seplogic.Ra.Ura.{Ura}
use types.Kit.{Item, Post, Seq, ‵, raw, ◌⊛◌, some, later, runs, lands, ◌$◌, move, drop, use0, use1, use2, split, join, pick, await}
use types.Logic.{Logic}
use types.Run.{Opds}

-- what names an item, and the node that it is
abbrev pub Named_at : Lft → RattleType → RattleType
Named_at κ S = ShrRef (named 0) κ (param 0 S)

abbrev Node_at : Lft → RattleType
Node_at κ = PointerNode_at (record { mir = named 0; lft = κ })

module _ (S : RattleType) (names : Names S.Denot) (dict : Dict) where
  abbrev asked : Ended
  asked = f.ended S names dict

  module _ {M : Type 1} {𝓤 : Ura M} (𝓛 : Logic 𝓤) (𝓜 : Model 𝓤 𝓛.H) (𝓡 : Running 𝓤 𝓛.H 𝓜) where
    open 𝓛 use {H}

    abbrev C : Calls 𝓤 H
    C = (tables 𝓤 H 𝓜 𝓡 𝓡.env).C

    abbrev Λ : Loops 𝓤 H
    Λ = (tables 𝓤 H 𝓜 𝓡 𝓡.env).Λ

    abbrev N : Contract 𝓤
    N = triple_of 𝓛 (f.signature S) (f.spec S names dict 𝓛 𝓜.mem 𝓡.returns)

    module _ (κ κS : Lft) (q qS : Share) (bound : AllOutlive 2 (f.signature S).outlives (κ, (κS, tt))) (s : Bor S.Denot) where
      abbrev z : N.Ghost
      z = (((κ, (κS, tt)), (q, (qS, tt)), bound, (s, tt), (shr_vals s, tt)), tt)

      -- the node is that which is named, and the tokens come back
      pub asks : {K : Type 0} {Γ : List (Item 𝓤)} {E : Env 𝓤 H} {xs : List Opd} {d : Place} {rest : Body} {out : Post 𝓤 H} → K
          → Meets 𝓛 (f.signature S) (C (method dict 0 no_args)) (f.spec S names dict 𝓛 𝓜.mem 𝓡.returns) → κS ⊑ S.lives
          → Opds K 𝓛 (raw (N.pre z) ∷ Γ) E xs (shr_vals s)
          → ((v : Val) (p : PointerNode) → node_of p ≡ names.named s.now → T (has_ty (layout (Node_at κ)) v) × WT v
          → Seq K 𝓛 (‵ ((Node_at κ).own_val p (v ∷ [])) ∷ ‵ (flft κ q) ∷ ‵ (flft κS qS) ∷ Γ) (lands C Λ E d v rest out))
          → Seq K 𝓛 (‵ (flft κ q) ∷ ‵ (flft κS qS) ∷ ‵ ((Named_at κ S).own_val s (shr_vals s)) ∷ Γ)
          (runs C Λ E (seq (call (method dict 0 no_args) xs d) rest) out)
      asks t met lives args k =
          nothing t $ move t (2 ∷ 0 ∷ []) $ join t $ move t (1 ∷ 0 ∷ []) $ join t $
          -- [the tokens; what names]
          nothing t $ move t (2 ∷ 0 ∷ []) $ join t $ move t (1 ∷ 0 ∷ []) $ join t $
          nothing t $ use0 𝓛 (raw (fact 𝓤 (κS ⊑ S.lives))) (fact_i 𝓤 _ (emp 𝓤) lives) $ join t $ move t (1 ∷ 0 ∷ []) $
          use2 𝓛 (raw (N.pre z)) (id⊢ 𝓤 _) $
          calls_at t (framed 𝓤 H 𝓜 (tables 𝓤 H 𝓜 𝓡 𝓡.env)) N met z args (λ v.
          use1 𝓛 (later (some (λ (p : PointerNode). ((‵ (flft κ q) ⊛ ‵ (flft κS qS) ⊛ ‵ ftrue) ⊛ ‵ ((Node_at κ).own_val p (v ∷ []))) ⊛
          some (λ (ws : Lasts asked z.0.0 z.0.3). ‵ (lasts asked z.0.0 z.0.3 ws) ⊛ raw (fact 𝓤 (node_of p ≡ names.named s.now)))))) (id⊢ 𝓤 _) $
          await t tt $ pick t (λ p. split t $ split t $ move t (2 ∷ []) $ pick t (λ ws. split t $ drop t $ heard t (node_of p ≡ names.named s.now) (λ is_node.
          split t $ move t (1 ∷ []) $ split t $ move t (1 ∷ []) $ drop t $ move t (2 ∷ 1 ∷ []) $
          peeks t (Node_at κ) (Is (Node_at κ)) (shows 𝓛 (Node_at κ)) p (v ∷ []) (λ is.
          k v p is_node (((node_laws (record { mir = named 0; lft = κ })).lawful 𝓛).typed p (v ∷ []) is).0)))))
