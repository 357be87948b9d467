use Rattle.std.proofs.Common.{◌≡◌, ◌∙◌, ap, sym, ℕ, ◌+◌, ◌-◌, ◌<◌, List, arith, length, string_bytes}
use Rattle.std.specs.declared.alloc.Global.{Global}
use Rattle.std.specs.declared.string.String.{String}
use Rattle.sonic_value.proofs.FillingLemmas.{last_found}
use Rattle.sonic_value.proofs.ItemLemmas.{key_equal}
use Rattle.sonic_value.proofs.fill.last_of_key.Goals as goal
use Rattle.sonic_value.specs.declared.value.Value.{Value}

abbrev key_of : String Global × Value → List ℕ
key_of m = string_bytes m.0

pub returns-then-eq : goal.returns-then-eq
returns-then-eq c =
    let before : c.loop-index.index - 1 < length c.args.members.now = omega (arith, c.loop-index.invariant.within, c.loop-index-test.true) in
    let place : c.loop-index.index - 1 + 1 ≡ c.loop-index.index = omega (arith, c.loop-index-test.true) in
    let key = ap key_of c.index-members-index.is ∙ sym c.as_str.ensures.value ∙ key_equal c.as_str.result.now c.args.key.now (sym c.if-eq.ensures) in
    last_found c.index-members-index.result before c.index-members-index.is key (rw place c.loop-index.invariant.without)
