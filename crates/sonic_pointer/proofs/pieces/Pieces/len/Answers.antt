use Rattle.std.proofs.Common.{length, sym, ap, subst, arith}
use Rattle.std.proofs.lemmas.List.{length-append}
use Rattle.sonic_pointer.specs.Internal.Pieces.{numbers_of, AreStarts}
use Rattle.sonic_pointer.proofs.PiecesLemmas.{end_of}
use Rattle.sonic_pointer.proofs.pieces.Pieces.len.Goals as goal

pub overflow_add-result-in-Some : goal.overflow_add-result-in-Some
overflow_add-result-in-Some c =
    let more = c.deref.ensures.value in
    let end = end_of c.deref.result.now c.in-Some.last.now c.in-Some.ensures.value (subst (AreStarts 0) (sym more) c.self.invariant.starts) in
    let all = length-append c.self.inside.first.items (numbers_of c.self.inside.more.items) in
    let same = ap (λ l. length (numbers_of l)) more in
    let fits = c.self.invariant.fits in
    let long = c.in-Some.last.now.numbers.ok.0 in
    omega arith

pub overflow_add-result : goal.overflow_add-result
overflow_add-result c =
    let more = c.deref.ensures.value in
    let end = end_of c.deref.result.now c.in-Some.last.now c.in-Some.ensures.value (subst (AreStarts 0) (sym more) c.self.invariant.starts) in
    let all = length-append c.self.inside.first.items (numbers_of c.self.inside.more.items) in
    let same = ap (λ l. length (numbers_of l)) more in
    let fits = c.self.invariant.fits in
    let long = c.in-Some.last.now.numbers.ok.0 in
    omega arith

pub returns-in-Some : goal.returns-in-Some
returns-in-Some c =
    let more = c.deref.ensures.value in
    let end = end_of c.deref.result.now c.in-Some.last.now c.in-Some.ensures.value (subst (AreStarts 0) (sym more) c.self.invariant.starts) in
    let all = length-append c.self.inside.first.items (numbers_of c.self.inside.more.items) in
    let same = ap (λ l. length (numbers_of l)) more in
    let long = c.in-Some.last.now.numbers.ok.0 in
    let view = ap length c.self.view_is in
    omega arith
