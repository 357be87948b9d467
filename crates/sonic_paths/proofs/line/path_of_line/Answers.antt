use Rattle.std.proofs.Common.{ap}
use Rattle.sonic_paths.proofs.LineNodes.{line_ends}
use Rattle.sonic_paths.proofs.line.path_of_line.Goals as goal

pub returns-in_default-2-clause-none : goal.returns-in_default-2-clause-none
returns-in_default-2-clause-none c =
    let never = rw c.in_default-2.is at c.in_ok-path.ensures.path in
    let none = rw (c.skip_space_peek.ensures.moved, c.new-parser.ensures.text, c.new-parser.ensures.place, c.from.ensures.text, c.from.ensures.place, c.in-Ok.ensures.cases.0) at never in
    λ _ path p. none p.end path p.few p.array

pub returns-clause-none : goal.returns-clause-none
returns-clause-none c =
    let text = ap (λ p. p.text) c.in_ok-path.ensures.moved in
    let read = rw c.in-Some.is at c.in_ok-path.ensures.path in
    let array = rw (c.skip_space_peek.ensures.moved, c.new-parser.ensures.text, c.new-parser.ensures.place, c.from.ensures.text, c.from.ensures.place, c.in-Ok.ensures.cases.0) at read.1 in
    let more = rw (text, c.skip_space_peek.ensures.moved, c.new-parser.ensures.text, c.from.ensures.text, c.in-Ok.ensures.cases.0) at c.in-Some-skip_space_peek.ensures.byte.0 in
    λ _ path. line_ends array more
