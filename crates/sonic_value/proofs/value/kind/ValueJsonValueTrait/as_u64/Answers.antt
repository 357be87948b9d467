use Rattle.std.proofs.Common.{◌∙◌, ap, string_bytes}
use Rattle.std.proofs.lemmas.Bool.{false≢true}
use Rattle.sonic_value.proofs.Folds.{tree_number}
use Rattle.sonic_value.proofs.NumberLemmas.{whole_is_number}
use Rattle.sonic_value.specs.Views.{tree}
use Rattle.sonic_value.proofs.value.kind.ValueJsonValueTrait.as_u64.Goals as goal

pub returns-then-not-is_number : goal.returns-then-not-is_number
returns-then-not-is_number c =
    let shape = ap tree c.in-Number.is ∙ tree_number c.in-Number.text in
    rw shape (λ is. false≢true (c.if-not-is_number.ensures.1 (rw c.deref.ensures (whole_is_number (string_bytes c.in-Number.text) is.0))))
