use Rattle.std.proofs.Common.{◌≡◌, ◌+◌, ◌∙◌, ap, arith, bit_or}
use Rattle.std.proofs.lemmas.Bool.{eqb-true, eq-eqb}
use Rattle.std.proofs.lemmas.Nat.{le_or_l, le_or_r}
use Rattle.sonic_blocks.proofs.RunLemmas.{end_of_run, run_through, none_misses}
use Rattle.sonic_blocks.proofs.runs.all_hold.Goals as goal

pub returns : goal.returns
returns g c =
    let test = g.K.ByteKind.test c.args.kind.now in
    let t = c.args.text.now in
    let i = c.args.place in
    let first = c.misses-a.result in
    let second = c.misses-b.result in
    let third = c.misses-c.result in
    let fourth = c.misses-d.result in
    let past_first = run_through test t i 16 first (omega arith) (omega arith) c.misses-a.ensures in
    let past_second = run_through test t (i + 16) 16 second (omega arith) (omega arith) c.misses-b.ensures in
    let past_third = run_through test t (i + 32) 16 third (omega arith) (omega arith) c.misses-c.ensures in
    let past_fourth = run_through test t (i + 48) 16 fourth (omega arith) (omega arith) c.misses-d.ensures in
    let at_third : end_of_run test t (i + 16 + 16) ≡ end_of_run test t (i + 32) = ap (end_of_run test t) (omega arith) in
    let at_fourth : end_of_run test t (i + 32 + 16) ≡ end_of_run test t (i + 48) = ap (end_of_run test t) (omega arith) in
    let two = bit_or first second in
    let three = bit_or two third in (
      λ none.
          let no_four : bit_or three fourth ≡ 0 = eqb-true _ _ none in
          let no_three : three ≡ 0 = omega (arith, no_four, le_or_l three fourth) in
          let no_two : two ≡ 0 = omega (arith, no_three, le_or_l two third) in
          omega (arith, past_first (omega (arith, no_two, le_or_l first second)), past_second (omega (arith, no_two, le_or_r first second)), past_third (omega (arith, no_three, le_or_r two third)), past_fourth (omega (arith, no_four, le_or_r three fourth)), at_third, at_fourth),
      λ all.
          let no_first = none_misses test t i 16 first (omega arith) (omega arith) c.misses-a.ensures c.misses-a.type_inv (omega (arith, all)) in
          let no_second = none_misses test t (i + 16) 16 second (omega arith) (omega arith) c.misses-b.ensures c.misses-b.type_inv (omega (arith, all, past_first no_first)) in
          let no_third = none_misses test t (i + 32) 16 third (omega arith) (omega arith) c.misses-c.ensures c.misses-c.type_inv (omega (arith, all, past_first no_first, past_second no_second, at_third)) in
          let no_fourth = none_misses test t (i + 48) 16 fourth (omega arith) (omega arith) c.misses-d.ensures c.misses-d.type_inv (omega (arith, all, past_first no_first, past_second no_second, past_third no_third, at_third, at_fourth)) in
          eq-eqb _ _ (ap (λ m. bit_or (bit_or (bit_or m second) third) fourth) no_first ∙ ap (λ m. bit_or (bit_or m third) fourth) no_second ∙ ap (λ m. bit_or m fourth) no_third ∙ no_fourth),
    )
