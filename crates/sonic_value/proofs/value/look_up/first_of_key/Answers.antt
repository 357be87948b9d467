use Rattle.std.proofs.Common.{◌<◌, ◌≤◌, ◌∙◌, Some, ap, sym, length, arith, rules}
use Rattle.std.proofs.lemmas.Option.{same_Some}
use Rattle.sonic_value.proofs.ItemLemmas.{key_at, key_equal, key_unlike, first_more, none_past}
use Rattle.sonic_value.proofs.value.look_up.first_of_key.Goals as goal

pub returns-then-eq-clause-some : goal.returns-then-eq-clause-some
returns-then-eq-clause-some c =
    let ms = c.args.members.now in
    let inside : c.loop-i.i < length ms = search rules in
    let m = c.index-members-i.result in
    let same = key_equal c.as_str.result.now c.args.key.now (sym c.eq.ensures ∙ c.if-eq.true) in
    record {
      here = key_at ms c.loop-i.i m inside ∙ ap Some (sym c.as_str.ensures.value ∙ same);
      first = c.loop-i.invariant.1;
    }

pub loop-i-preserved : goal.loop-i-preserved
loop-i-preserved c =
    let ms = c.args.members.now in
    let inside : c.loop-i.i < length ms = search rules in
    let m = c.index-members-i.result in
    let is = key_at ms c.loop-i.i m inside in
    let other = key_unlike c.as_str.result.now c.args.key.now (sym c.eq.ensures ∙ c.if-eq.false) in
    (omega (arith, inside), first_more c.args.key.now _ c.loop-i.i (λ e. other (c.as_str.ensures.value ∙ same_Some _ _ (sym is ∙ e))) c.loop-i.invariant.1)

pub returns-clause-none : goal.returns-clause-none
returns-clause-none c = λ _.
    let past : length c.args.members.now ≤ c.loop-i.i = search rules in
    none_past c.args.key.now c.args.members.now c.loop-i.i past c.loop-i.invariant.1
