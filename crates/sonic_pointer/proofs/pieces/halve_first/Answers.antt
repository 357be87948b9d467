use Rattle.std.proofs.Common.{◌≡◌, ℕ, ◌-◌, List, ◌++◌, take, drop, map, refl, sym, ap, ◌∙◌, subst, length, arith}
use Rattle.std.proofs.lemmas.List.{length-drop, take_all}
use Rattle.sonic_pointer.specs.Internal.Pieces.{numbers_of, raised, AreStarts}
use Rattle.sonic_pointer.proofs.PiecesLemmas.{joined, numbers-raised, starts_raised, starts_fit}
use Rattle.sonic_pointer.proofs.pieces.halve_first.Goals as goal

-- the second half, as a slice lends it
second : {numbers lent : List ℕ} (first : List ℕ) → lent ≡ first → numbers ≡ take (length lent - 2048) (drop 2048 lent) → numbers ≡ drop 2048 first
second {lent = lent} first same is = is ∙ (take_all (length lent - 2048) (drop 2048 lent) (let l = length-drop 2048 lent in omega arith) ∙ ap (drop 2048) same)

pub raise-requires-clause-fits : goal.raise-requires-clause-fits
raise-requires-clause-fits c =
    let items = c.in_ok-reserve.ensures.items in
    let all = ap (λ l. length (numbers_of l)) items in
    let tail = ap length (second c.args.first.now.items c.deref.ensures c.in_ok-numbers.ensures.items) ∙ length-drop 2048 c.args.first.now.items in
    rw c.in_ok-insert.ensures.items (starts_fit 0 c.len-len.result c.reserve.new.self.items (subst (AreStarts 0) (sym items) c.requires.starts) (omega arith))

pub returns-clause-starts : goal.returns-clause-starts
returns-clause-starts c =
    let items = c.in_ok-reserve.ensures.items in
    rw (c.raise.ensures, c.in_ok-insert.ensures.items)
    (refl, subst (λ n. AreStarts n (map (raised c.len-len.result) c.reserve.new.self.items)) (omega arith) (starts_raised 0 c.len-len.result c.reserve.new.self.items (subst (AreStarts 0) (sym items) c.requires.starts)))

pub returns-clause-same : goal.returns-clause-same
returns-clause-same c =
    let by = c.len-len.result in
    let same = ap (λ l. take 1 l ++ map (raised by) (drop 1 l)) c.in_ok-insert.ensures.items in
    let rest = numbers-raised by c.reserve.new.self.items ∙ ap numbers_of c.in_ok-reserve.ensures.items in
    let tail = second c.args.first.now.items c.deref.ensures c.in_ok-numbers.ensures.items in
    ap (λ l. c.truncate.new.self.items ++ numbers_of l) (c.raise.ensures ∙ same)
    ∙ (ap (λ l. c.truncate.new.self.items ++ (c.in_ok-numbers.numbers.items ++ l)) rest
    ∙ (ap (λ l. l ++ (c.in_ok-numbers.numbers.items ++ numbers_of c.args.more.now.items)) c.truncate.ensures.items
    ∙ (ap (λ l. take 2048 c.args.first.now.items ++ (l ++ numbers_of c.args.more.now.items)) tail ∙ joined c.args.first.now.items (numbers_of c.args.more.now.items) 2048)))
