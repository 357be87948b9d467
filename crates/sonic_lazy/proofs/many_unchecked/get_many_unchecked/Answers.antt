use Rattle.sonic_lazy.proofs.many_unchecked.get_many_unchecked.Goals as goal
use Rattle.std.proofs.Common.{◌≡◌, ◌∙◌, ℕ, List, ◌++◌, length, take, refl, arith}
use Rattle.std.proofs.Math.Seq.{take-append_seam}
use Rattle.std.proofs.lemmas.Result.{err_from_is_err_and}
use Rattle.sonic_find.proofs.FillLemmas.{spans_parts}
use Rattle.sonic_lazy.proofs.ShownLemmas.{are_values}
use Rattle.sonic_find.specs.Causes.{answered}

pub returns-in_err-find_many_unchecked-clause-err : goal.returns-in_err-find_many_unchecked-clause-err
returns-in_err-find_many_unchecked-clause-err g c =
    let p = err_from_is_err_and c.from_residual.result c.from_residual.ensures.1 in
    let e = c.in_err-find_many_unchecked.ensures.err in
    rw (p.1, p.2) (answered e.stop e.answer e.error)

pub returns-in_err-find_many_unchecked-clause-complete : goal.returns-in_err-find_many_unchecked-clause-complete
returns-in_err-find_many_unchecked-clause-complete g c = λ can. let clash = c.in_err-find_many_unchecked.ensures.complete can in absurd cc

-- a list that was written back whole is read again
written_back : {X : Type 0} (n : ℕ) (xs ys : List X) → length xs ≡ n → take n (xs ++ ys) ≡ xs
written_back n xs ys long = rw (← long) (take-append_seam xs ys)

pub values-requires : goal.values-requires
values-requires g c κs =
    let long : length c.find_many_unchecked.new.out ≡ c.in-Ok.spans.len = omega (arith, c.find_many_unchecked.auto.out, c.deref_mut.ensures.len) in
    let same : c.deref.result.now ≡ c.find_many_unchecked.new.out = c.deref.ensures.value ∙ written_back _ _ _ long in
    ((refl, tt), rw same (spans_parts c.find_many_unchecked.new.out c.requires c.in_ok-find_many_unchecked.ensures.ok))

pub returns-in-Ok-values-clause-ok : goal.returns-in-Ok-values-clause-ok
returns-in-Ok-values-clause-ok g c =
    let long : length c.find_many_unchecked.new.out ≡ c.in-Ok.spans.len = omega (arith, c.find_many_unchecked.auto.out, c.deref_mut.ensures.len) in
    let same : c.deref.result.now ≡ c.find_many_unchecked.new.out = c.deref.ensures.value ∙ written_back _ _ _ long in
    are_values c.in_ok-find_many_unchecked.ensures.ok (rw same at c.in-Ok-values.ensures)
