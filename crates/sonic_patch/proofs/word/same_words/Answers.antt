use Rattle.std.proofs.Common.{◌∙◌, sym, refl}
use Rattle.sonic_patch.proofs.SameLemmas.{texts_equal}
use Rattle.sonic_patch.proofs.WordLemmas.{word_one}
use Rattle.sonic_patch.proofs.word.same_words.Goals as goal

pub returns-then-eq : goal.returns-then-eq
returns-then-eq c = λ yes b d x y. word_one (texts_equal _ _ (sym c.if-eq.ensures)) x y

pub returns : goal.returns
returns c = λ yes b d x y.
    word_one refl x c.in_ok-bytes.ensures ∙ texts_equal c.in_ok-bytes.bytes.items c.in_ok-others.others.items (sym c.eq-2.ensures ∙ yes)
    ∙ word_one refl c.in_ok-others.ensures y
