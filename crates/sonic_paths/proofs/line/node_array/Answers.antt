use Rattle.std.proofs.Common.{◌≡◌, ◌∷◌, [], ℕ, ap, arith, length, length-append, refl}
use Rattle.sonic_parser.specs.Parsers.{ParserState, moved}
use Rattle.sonic_paths.proofs.LineNodes.{leads_comma, leads_bracket, none_after, none_here, none_shorter}
use Rattle.sonic_pointer.specs.Nodes.{owned_node}
use Rattle.sonic_paths.proofs.line.node_array.Goals as goal

-- a parser that moved twice is at its last place
moved_twice : (a b c : ParserState) {p q : ℕ} → b ≡ moved a p → c ≡ moved b q → c ≡ moved a q
moved_twice a b c e f = rw (f, e) refl

pub returns-in_default-clause-path : goal.returns-in_default-clause-path
returns-in_default-clause-path c =
    let text = ap (λ p. p.text) c.nodes.invariant.cursor in
    λ j path few. none_here c.nodes.invariant.leads (rw text at (rw c.in_default.is at c.in_ok-node.ensures.node))

pub nodes-preserved : goal.nodes-preserved
nodes-preserved c =
    let text = ap (λ p. p.text) c.nodes.invariant.cursor in
    let after = ap (λ p. p.text) c.in_ok-node.ensures.moved in
    let x = rw text at (rw c.in-Some.is at c.in_ok-node.ensures.node) in
    let next = rw (after, text) at (c.in-Ok-true.ensures.item c.in-Ok-true.field-0-test) in
    let all = c.in_ok-push.ensures.ok in
    record {
      few = omega (arith, ap length all, length-append c.nodes.path (owned_node c.in-Some.node ∷ []), c.nodes-test.true);
      cursor = moved_twice c.args.parser.now _ _ (moved_twice c.args.parser.now _ _ c.nodes.invariant.cursor c.in_ok-node.ensures.moved) c.in-Ok-true.ensures.moved;
      leads = leads_comma c.nodes.invariant.leads x all next.0 next.1;
    }

pub returns-in-Ok-false-clause-path : goal.returns-in-Ok-false-clause-path
returns-in-Ok-false-clause-path c =
    let text = ap (λ p. p.text) c.nodes.invariant.cursor in
    let after = ap (λ p. p.text) c.in_ok-node.ensures.moved in
    let x = rw text at (rw c.in-Some.is at c.in_ok-node.ensures.node) in
    let end = rw (after, text) at (c.in-Ok-false.ensures.end c.in-Ok-false.field-0-test) in
    let all = c.in_ok-push.ensures.ok in (
      omega (arith, ap length all, length-append c.nodes.path (owned_node c.in-Some.node ∷ []), c.nodes-test.true),
      leads_bracket c.nodes.invariant.leads x all end.0 end.1,
    )

pub returns-in-Err-clause-path : goal.returns-in-Err-clause-path
returns-in-Err-clause-path c =
    let text = ap (λ p. p.text) c.nodes.invariant.cursor in
    let after = ap (λ p. p.text) c.in_ok-node.ensures.moved in
    let x = rw text at (rw c.in-Some.is at c.in_ok-node.ensures.node) in
    let misfit = rw (after, text) at c.in-Err.ensures.err in
    λ j path few. none_after c.nodes.invariant.leads x misfit.0

pub returns-clause-path : goal.returns-clause-path
returns-clause-path c = λ j path few. none_shorter c.nodes.invariant.leads (omega (arith, few, c.nodes-test.false))
