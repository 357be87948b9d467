use Rattle.std.proofs.Common.{arith}
use Rattle.std.specs.Prelude.{codes}
use Rattle.std.proofs.lemmas.Option.{IfSome_then}
use Rattle.sonic_text.specs.Values.{null_literal, true_literal, false_literal}
use Rattle.sonic_parser.proofs.BeginningLemmas.{literal_ended}
use Rattle.sonic_parser.proofs.quick.literal_ahead.Goals as goal

pub returns-in-110-clause-end : goal.returns-in-110-clause-end
returns-in-110-clause-end c = IfSome_then c.skip_literal.result c.skip_literal.ensures.some (λ j l m. let e = literal_ended (codes "null") c.args.text.now (omega arith) l in (e.0, e.1, null_literal l))

pub returns-in-116-clause-end : goal.returns-in-116-clause-end
returns-in-116-clause-end c = IfSome_then c.skip_literal-in-116.result c.skip_literal-in-116.ensures.some (λ j l m. let e = literal_ended (codes "true") c.args.text.now (omega arith) l in (e.0, e.1, true_literal l))

pub returns-in-102-clause-end : goal.returns-in-102-clause-end
returns-in-102-clause-end c = IfSome_then c.skip_literal-in-102.result c.skip_literal-in-102.ensures.some (λ j l m. let e = literal_ended (codes "false") c.args.text.now (omega arith) l in (e.0, e.1, false_literal l))
