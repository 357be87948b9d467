use Rattle.sonic_text.specs.Faults.IsFault.{number_fault}
use Rattle.sonic_paths.proofs.LineNodes.{cut_number, fault_no_node, index_node, no_index_node, number_here}
use Rattle.sonic_paths.proofs.line.index.Goals as goal

pub whole_u64-requires : goal.whole_u64-requires
whole_u64-requires c = cut_number c.in-Ok.ensures.number c.in-Ok.ensures.text

pub returns-clause-node : goal.returns-clause-node
returns-clause-node c =
    let first = number_here c.args.parser.now.text c.args.parser.now.place c.requires.begins in
    let number = rw (c.in_ok-first.ensures.some, first) at c.in-Ok.ensures.number in
    let word = rw (c.in_ok-first.ensures.some, first) at c.in-Ok.ensures.text in
    let whole = c.in_ok-number.ensures in
    index_node number word whole.0 whole.1

pub returns-in_err-number-clause-node : goal.returns-in_err-number-clause-node
returns-in_err-number-clause-node c =
    let first = number_here c.args.parser.now.text c.args.parser.now.place c.requires.begins in
    let number = rw (c.in_ok-first.ensures.some, first) at c.in-Ok.ensures.number in
    let word = rw (c.in_ok-first.ensures.some, first) at c.in-Ok.ensures.text in
    rw c.from_residual-in_err-number.ensures (λ j node. no_index_node number word c.in_err-number.ensures)

pub returns-in_default-clause-node : goal.returns-in_default-clause-node
returns-in_default-clause-node c =
    let first = number_here c.args.parser.now.text c.args.parser.now.place c.requires.begins in
    let fault = rw (c.in_ok-first.ensures.some, first) at c.in_default.ensures.err.fault in
    λ j node. fault_no_node (number_fault c.requires.begins fault)
