use Rattle.std.proofs.Common.{◌≡◌, ◌<◌, ◌≤◌, ◌∙◌, ap, sym, get_or, length, arith, rules}
use Rattle.sonic_owned.proofs.Folds.{members-out}
use Rattle.sonic_owned.proofs.Lists.{texts_equal, texts_differ, key_here, no_key_more, no_key_past}
use Rattle.sonic_owned.specs.declared.value.LazyObject.{out-LazyObject}
use Rattle.sonic_owned.proofs.value.LazyObject.first_of_key.Goals as goal

pub returns-then-eq-clause-some : goal.returns-then-eq-clause-some
returns-then-eq-clause-some c =
    let items = (out-LazyObject c.args.self.now).members.items in
    let inside : c.loop-i.i < length items = search rules in
    let there : get_or items c.loop-i.i c.index.result.now ≡ c.index.result.now = search rules in
    let key = texts_equal c.as_str.result.now c.args.key.now (sym c.eq.ensures ∙ c.if-eq.true) in
    let is = ap (λ m. m.0.text) there ∙ sym c.as_str.ensures ∙ key in
    rw (members-out c.args.self.now) record { here = key_here items c.loop-i.i c.index.result.now c.args.key.now inside is; first = c.loop-i.invariant.1 }

pub loop-i-preserved : goal.loop-i-preserved
loop-i-preserved c =
    let items = (out-LazyObject c.args.self.now).members.items in
    let inside : c.loop-i.i < length items = search rules in
    let there : get_or items c.loop-i.i c.index.result.now ≡ c.index.result.now = search rules in
    let other = texts_differ c.as_str.result.now c.args.key.now (sym c.eq.ensures ∙ c.if-eq.false) in
    (omega (arith, inside), no_key_more items c.loop-i.i c.index.result.now c.args.key.now inside (λ is. other (c.as_str.ensures ∙ ap (λ m. m.0.text) (sym there) ∙ is)) c.loop-i.invariant.1)

pub returns-clause-none : goal.returns-clause-none
returns-clause-none c = λ _.
    let past : length (out-LazyObject c.args.self.now).members.items ≤ c.loop-i.i = search rules in
    rw (members-out c.args.self.now) (no_key_past _ c.loop-i.i c.args.key.now past c.loop-i.invariant.1)
