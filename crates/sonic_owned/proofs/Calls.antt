-- The two ends of a walk: what the callee is given, and what the caller is left with.
use Rattle.sonic_owned.proofs.Steps.{Lft, Share, ftrue, flft, full_share, SProp, ent, sep, emp, id⊢, fact, fact_i, Ura, Item, Seq, ‵, raw, mean, ◌⊛◌, ◌$◌, ◌∵◌, !, qed, done, move, use0, join, Logic, sem}
use Rattle.std.proofs.Common.{List, [], ◌∷◌, ◌++◌}
use base.Logic.{via, emp∗, mono∗, mono_l, mono_r, snd∗}
use types.Kit.{prop}

module _ {M : Type 1} (𝓤 : Ura M) where
  -- a fact holds, before what else does
  pub told : {φ : Type 0} {Q : SProp 𝓤} → φ → ent 𝓤 (emp 𝓤) Q → ent 𝓤 (emp 𝓤) (sep 𝓤 (fact 𝓤 φ) Q)
  told {φ} x q = via 𝓤 (sep 𝓤 (emp 𝓤) (emp 𝓤)) (emp∗ 𝓤 (emp 𝓤)) (mono∗ 𝓤 (fact_i 𝓤 φ (emp 𝓤) x) q)

  pub told_last : {φ : Type 0} → φ → ent 𝓤 (emp 𝓤) (fact 𝓤 φ)
  told_last {φ} = fact_i 𝓤 φ (emp 𝓤)

  -- nothing is had of a parameter that was spent
  pub spent : {Q : SProp 𝓤} → ent 𝓤 (emp 𝓤) Q → ent 𝓤 (emp 𝓤) (sep 𝓤 (emp 𝓤) Q)
  spent {Q} q = via 𝓤 Q q (emp∗ 𝓤 Q)

-- the tokens of lifetimes
abbrev pub tokens : {M : Type 1} {𝓤 : Ura M} → List (Lft × Share) → Item 𝓤
tokens [] = ‵ ftrue
tokens (t ∷ ts) = ‵ (flft t.0 t.1) ⊛ tokens ts

-- and that of `'static`
abbrev pub and_static : List (Lft × Share) → List (Lft × Share)
and_static ts = ts ++ ([], full_share) ∷ []

-- They assume `Logic`.
module _ {M : Type 1} {𝓤 : Ura M} (𝓛 : Logic 𝓤) where
  gains : (ts : List (Lft × Share)) → ent 𝓤 (mean 𝓛 (tokens ts)) (mean 𝓛 (tokens (and_static ts)))
  gains [] = qed 𝓛 (‵ ftrue ∷ []) ∵ use0 𝓛 (‵ (flft [] full_share)) (𝓛.lfts.lft-nil full_share) $ join ! $ done !
  gains (t ∷ ts) = mono_r 𝓤 (sem 𝓛 (flft t.0 t.1)) (gains ts)

  pub loses : (ts : List (Lft × Share)) → ent 𝓤 (mean 𝓛 (tokens (and_static ts))) (mean 𝓛 (tokens ts))
  loses [] = snd∗ 𝓤 (sem 𝓛 (flft [] full_share)) (sem 𝓛 ftrue)
  loses (t ∷ ts) = mono_r 𝓤 (sem 𝓛 (flft t.0 t.1)) (loses ts)

  -- the callee has all that the caller has on entry, and a fact
  pub enters : (ts : List (Lft × Share)) (own : Item 𝓤) {φ : Type 0} → φ → ent 𝓤 (sep 𝓤 (sep 𝓤 (mean 𝓛 (tokens ts)) (mean 𝓛 own)) (emp 𝓤))
      (sep 𝓤 (sep 𝓤 (mean 𝓛 (tokens (and_static ts))) (mean 𝓛 own)) (sep 𝓤 (fact 𝓤 φ) (emp 𝓤)))
  enters ts own x = mono∗ 𝓤 (mono_l 𝓤 (mean 𝓛 own) (gains ts)) (told 𝓤 x (id⊢ 𝓤 (emp 𝓤)))

module _ {M : Type 1} {𝓤 : Ura M} {𝓛 : Logic 𝓤} where
  -- what is left at the end of the loan, the tokens and the answer are the end of a call
  pub closes : {K : Type 0} {l i t o : Item 𝓤} {P Q : SProp 𝓤} → K → ent 𝓤 (emp 𝓤) P → ent 𝓤 (emp 𝓤) Q
      → Seq K 𝓛 (l ∷ i ∷ t ∷ o ∷ []) (prop (sep 𝓤 (sep 𝓤 (sep 𝓤 (mean 𝓛 i) (mean 𝓛 t)) (sep 𝓤 P (mean 𝓛 o))) (sep 𝓤 (mean 𝓛 l) Q)))
  closes {P = P} {Q} k had says =
      use0 𝓛 (raw Q) says $ move k (1 ∷ 0 ∷ []) $ join k $ move k (3 ∷ []) $ use0 𝓛 (raw P) had $ join k $
      -- [the answer; the clauses; the tokens]
      move k (2 ∷ 3 ∷ []) $ join k $ join k $ join k $ done k
