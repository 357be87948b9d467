use Rattle.std.proofs.Common.{◌∙◌, sym, ap, codes, decimal, drop, append_assoc, arith}
use Rattle.std.proofs.lemmas.List.{drop-append-le, drop-drop}
use Rattle.sonic_reports.proofs.entry_line.Digits.put.Goals as goal

pub returns-clause-text : goal.returns-clause-text
returns-clause-text c =
    let self = c.args.self.now in
    let cut = ap (drop self.start) c.put-first.ensures.text in
    sym (drop-drop self.start c.put-first.result c.put-first.new.room) ∙ cut ∙ rw (drop-append-le self.start self.room (drop c.put-at.result c.put-at.new.room) (omega (arith, self.within)), self.digits, c.put-at.ensures.text) (sym (append_assoc (decimal self.number) (codes " ") (drop c.args.end c.args.room.now)))
