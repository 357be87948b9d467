use Rattle.std.proofs.Common.{◌≡◌, ◌∙◌, ◌++◌, ◌∷◌, [], refl, sym, arith}
use Rattle.std.proofs.lemmas.Bool.Decides.{nat_tests}
use Rattle.sonic_text.specs.declared.kind.Kind.TheVariants.{Array}
use Rattle.sonic_index.proofs.PlaceLemmas.{array_opened}
use Rattle.sonic_index.proofs.build.nest.Goals as goal

pub returns-then-byte_at-ne91-clause-item : goal.returns-then-byte_at-ne91-clause-item
returns-then-byte_at-ne91-clause-item c =
    let i = c.arrays.invariant in
    let there = array_opened c.arrays.at i.item.1 i.array i.bracket i.nested in
    (i.item.0 ++ Array ∷ [], rw (c.first-item.ensures, c.in_ok-add.ensures, c.begun.ensures, c.len.ensures ∙ c.arrays.cells.ok.0) there)

pub arrays-preserved : goal.arrays-preserved
arrays-preserved c =
    let i = c.arrays.invariant in
    let there = array_opened c.arrays.at i.item.1 i.array i.bracket i.nested in
    let again : c.byte_at.result ≡ 91 = grind (arith, nat_tests) in
    record {
      item = (i.item.0 ++ Array ∷ [], rw (c.first-item.ensures, c.in_ok-add.ensures, c.begun.ensures, c.len.ensures ∙ c.arrays.cells.ok.0) there);
      array = rw c.first-item.ensures refl;
      bracket = i.nested;
      nested = sym c.byte_at.ensures.value ∙ again;
      later = omega (arith, i.later);
    }
