use Rattle.std.proofs.Common.{◌≡◌, ℕ, List, ◌++◌, rules, append_assoc}
use Rattle.std.proofs.Output.{has_written_append, has_written_of_eq}
use Rattle.std.specs.Fmt.{HasWritten, decimal}
use Rattle.std.specs.Prelude.{codes}
use Rattle.sonic_error.specs.Errors.{kept_fragment, kept_mask}
use Rattle.sonic_error.specs.Texts.{lossy}
use Rattle.sonic_error.proofs.position.PositionDisplay.fmt.Goals as goal

-- what two writes wrote, piece by piece
regroup : (a b c d e f g h i : List ℕ)
    → (a ++ (b ++ (c ++ d))) ++ (e ++ (f ++ (g ++ (h ++ i)))) ≡ a ++ b ++ c ++ d ++ e ++ f ++ g ++ h ++ i
regroup a b c d e f g h i = simp append_assoc

pub returns-clause-writes : goal.returns-clause-writes
returns-clause-writes g c = λ plain ok.
    let position = c.args.self.now in
    let line = decimal position.line in
    let column = decimal position.column in
    let fragment = lossy (kept_fragment position) in
    let mask = kept_mask position in
    let took = g.W.Write.write_str_gives in
    let place : HasWritten took c.args.f.now (codes " at line " ++ (line ++ (codes " column " ++ column))) c.write.new.self
    = search rules in
    let rest = codes "\n\n\t" ++ (fragment ++ (codes "\n\t" ++ (mask ++ codes "\n"))) in
    let shown : HasWritten took c.write.new.self rest c.write-2.new.self = search rules in
    has_written_of_eq _ _ _ _ _
    (regroup (codes " at line ") line (codes " column ") column (codes "\n\n\t") fragment (codes "\n\t") mask (codes "\n"))
    (has_written_append _ _ _ _ _ _ place shown)
