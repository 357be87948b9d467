use Rattle.std.proofs.Common.{◌≢◌, Bool, true, false, not, refl, sym, ◌∙◌, IsTrue}
use mathlib.Core.Bool.{beq}
use Rattle.sonic_pointer.specs.Nodes.{node_of}
use Rattle.sonic_pointer.proofs.trie.Trie.mixes.Goals as goal

differ : (a b : Bool) → IsTrue (not (beq a b)) → a ≢ b
differ true true h e = absurd (cc)
differ true false h e = cc
differ false true h e = cc
differ false false h e = absurd (cc)

differs : (a b : Bool) → a ≢ b → IsTrue (not (beq a b))
differs true true h = absurd (h refl)
differs true false h = refl
differs false true h = refl
differs false false h = absurd (h refl)

pub returns-in-None : goal.returns-in-None
returns-in-None c = (λ h. absurd (cc), λ h. absurd (c.in-None.ensures.none h.other h.next))

pub returns-in-Some : goal.returns-in-Some
returns-in-Some c =
    let next = c.in-Some.ensures.some in
    let own = c.is_key.ensures in
    let node = c.is_key-in-Some.ensures in (
      λ h. record { other = node_of c.in-Some.first; next = next; kinds = λ e. differ c.is_key.result c.is_key-in-Some.result h (own ∙ (e ∙ sym node)) },
      λ h. differs c.is_key.result c.is_key-in-Some.result (λ e. h.kinds (c.requires.trie.tree.unmixed _ h.other (node_of c.in-Some.first) h.next next ∙ (sym own ∙ (e ∙ node)))),
    )
