use Rattle.std.proofs.Common.{◌≡◌, arith, nat_eq, rules, sym, true}
use Rattle.std.specs.Cmp.Lexicographic.{pointwise}
use Rattle.sonic_patch.proofs.StepLemmas.{before_long, before_next, before_end}
use Rattle.sonic_patch.proofs.make.is_before.Goals as goal

pub returns-then-path-from : goal.returns-then-path-from
returns-then-path-from c = sym (before_long c.args.from.now c.args.path.now (omega arith))

pub tokens-preserved : goal.tokens-preserved
tokens-preserved c =
    let same : pointwise nat_eq c.index-from-i.result c.index-path-i.result ≡ true = search rules in
    record {
      shorter = c.tokens.invariant.shorter;
      within = omega arith;
      rest = before_next c.args.from.now c.args.path.now c.tokens.i c.index-from-i.result c.index-path-i.result (omega arith) (omega arith) c.index-from-i.is c.index-path-i.is same
          c.tokens.invariant.rest;
    }

pub returns : goal.returns
returns c = before_end c.args.from.now c.args.path.now c.tokens.i (omega arith) (omega arith) c.tokens.invariant.rest
