use Rattle.std.proofs.Common.{◌≡◌, ◌<◌, inl, inr, arith, refl}
use Rattle.std.proofs.lemmas.Bool.{cases_lt}
use Rattle.sonic_text.specs.Strings.{IsHigh, IsEscape}
use Rattle.sonic_text.proofs.EscapeFaultLemmas.{half_missing}
use Rattle.sonic_text.proofs.EscapeLemmas.{plain_char, paired_char, lone_char}
use Rattle.sonic_text.proofs.HexDigitLemmas.{low_all}
use Rattle.sonic_text.proofs.StringReadingLemmas.{escape_within}
use Rattle.sonic_text.proofs.string.unicode_end.Goals as goal

pub returns-then-number-lt55296-clause-ok : goal.returns-then-number-lt55296-clause-ok
returns-then-number-lt55296-clause-ok c =
    let f = c.in_ok-number.ensures.ok in
    let h : IsEscape c.args.text.now c.args.place c.in_ok-number.number = (c.requires.backslash, c.requires.letter, f.1) in
    let no : ¬ IsHigh c.in_ok-number.number = λ w. grind (arith, c.then-number-lt55296.either) in
    let (b, k) = plain_char h no f.2 _ refl in
    (omega arith, f.0, b, k)

pub returns-in-Some-clause-ok : goal.returns-in-Some-clause-ok
returns-in-Some-clause-ok c =
    let f = c.in_ok-number.ensures.ok in
    let h : IsEscape c.args.text.now c.args.place c.in_ok-number.number = (c.requires.backslash, c.requires.letter, f.1) in
    let low = c.in-Some.ensures.some in
    let (b, k) = paired_char h (omega arith, omega arith) (_, low.0, low.1) _ refl in
    (omega arith, omega (arith, escape_within _ _ _ low.0), b, k)

pub returns-in-None-clause-ok : goal.returns-in-None-clause-ok
returns-in-None-clause-ok c =
    let f = c.in_ok-number.ensures.ok in
    let h : IsEscape c.args.text.now c.args.place c.in_ok-number.number = (c.requires.backslash, c.requires.letter, f.1) in
    let (b, k) = lone_char c.if-lossy.true h (omega arith, omega arith) (c.in-None.ensures.none refl) _ refl in
    (omega arith, f.0, b, k)

pub returns-in-None-2-clause-err : goal.returns-in-None-2-clause-err
returns-in-None-2-clause-err c =
    let f = c.in_ok-number.ensures.ok in
    let n = c.low_surrogate_bytes-n in
    let l : n.result < 6 = elim (cases_lt n.result 6) [
      | inl l ↦ l
      | inr m ↦
          let six : n.result ≡ 6 = omega (arith, n.ensures.few) in
          absurd (c.in-None.ensures.none refl (low_all _ _ (rw six at n.ensures.right)))
    ] in
    rw c.stop_at.ensures (half_missing _ _ _ c.requires.letter c.if-lossy.false f.1 (omega arith, omega arith) _ l n.ensures.right (n.ensures.wrong l))
