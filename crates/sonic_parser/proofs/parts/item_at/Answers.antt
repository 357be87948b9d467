use Rattle.std.proofs.lemmas.Result.{IfErr-weaker}
use Rattle.sonic_text.specs.Faults.{IsKeyFault}
use Rattle.sonic_text.specs.declared.kind.Kind.TheVariants.{Object}
use Rattle.sonic_parser.specs.Internal.Skipping.{IsItemFault}
use Rattle.sonic_parser.proofs.parts.item_at.Goals as goal
use Rattle.std.proofs.Common.{◌≡◌}

pub returns-clause-err : goal.returns-clause-err
returns-clause-err c = IfErr-weaker c.item_value.result (IsItemFault c.args.lossy c.args.text.now c.args.kind c.args.place) (λ s. IsKeyFault c.args.lossy c.args.text.now c.args.place s) (λ s f. f.1) c.item_value.ensures.err

pub returns-clause-object : goal.returns-clause-object
returns-clause-object c = IfErr-weaker c.item_value.result (IsItemFault c.args.lossy c.args.text.now c.args.kind c.args.place) (λ s. c.args.kind ≡ Object) (λ s f. f.0) c.item_value.ensures.err
