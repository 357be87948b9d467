-- What strings denote, as it is lent.
use Rattle.std.proofs.Common.{◌≡◌, ◌∙◌, ap, ℕ, List, Option, None, Result, IfOk, IfSome, inl, inr}
use Rattle.std.specs.declared.borrow.CowStr.{CowStr}
use Rattle.sonic_lazy.specs.StringTexts.{IsTextOf}
use Rattle.sonic_owned.proofs.ReachLemmas.{if_some_then}
use Rattle.sonic_owned.specs.Seen.{IsLentText}
use Rattle.sonic_owned.specs.Views.{made_text, node_text}
use Rattle.sonic_owned.specs.declared.raw.RawValue.{RawValue}
use Rattle.sonic_owned.specs.declared.value.Node.TheOpen.{Node-F}
use Rattle.sonic_owned.specs.declared.value.Node.TheViews.{out-roll-Node}
use Rattle.sonic_owned.specs.declared.value.Node.{Raw, out-Node}
use Rattle.sonic_owned.specs.declared.value.OwnedLazyValue.{OwnedLazyValue}

-- what isn't opened wasn't made of a text
pub raw_not_made : (v : OwnedLazyValue) (r : RawValue) → v.node ≡ Raw r → made_text v ≡ None
unfolding Rattle.sonic_owned.specs.declared.value.Node.TheViews.roll-Node denote.Hole.Carrier.roll
raw_not_made v r is = ap (λ n. node_text (out-Node n)) is ∙ ap node_text (out-roll-Node (Node-F.Raw r))

-- the text of a string that wasn't made is borrowed exactly where it has no backslash
pub raw_lent : {Z E : Type 0} (r : Result (Option (CowStr Z)) E) {made : Option (List ℕ)} {t u : List ℕ} → made ≡ None → t ≡ u
    → IfOk r (λ found. IfSome found (IsTextOf u)) → IfOk r (λ found. IfSome found (IsLentText made t))
raw_lent r none same = if_some_then r (λ shown is. rw (none, same) (
  (λ lent. inr (is.borrowed.0 lent)),
  λ either. elim either [
    | inl made ↦ absurd cc
    | inr plain ↦ is.borrowed.1 plain
  ],
))
