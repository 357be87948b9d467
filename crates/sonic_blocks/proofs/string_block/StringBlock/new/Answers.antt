use Rattle.std.proofs.Common.{◌≡◌, ℕ, ◌==◌, nat_lt, false, ◌&&◌, ap, ap₂, ◌∙◌, sym, arith, w32}
use Rattle.std.specs.Int.{trailing_zeros}
use lib.Bits.{bit_and, bit_or, and_comm}
use Rattle.std.proofs.lemmas.Bool.Decides.{nat_tests}
use Rattle.sonic_blocks.specs.Bits.{is_set}
use Rattle.sonic_blocks.proofs.StringBlockLemmas.{mask_lowest, masks_apart, special_set, special_few}
use Rattle.sonic_blocks.proofs.string_block.StringBlock.new.Goals as goal

backslash_or_quote : (b : ℕ) → ((b == 92) && (b == 34)) ≡ false
backslash_or_quote b = grind (arith, nat_tests)

quote_or_control : (b : ℕ) → ((b == 34) && nat_lt b 32) ≡ false
quote_or_control b = grind (arith, nat_tests)

pub invariant_of-result : goal.invariant_of-result
invariant_of-result c =
    let first = ap₂ bit_and c.equal_to.ensures c.equal_to-2.ensures ∙ masks_apart (λ x. x == 92) (λ x. x == 34) c.args.v.now backslash_or_quote in
    let second = ap₂ bit_and c.equal_to-2.ensures c.controls.ensures ∙ masks_apart (λ x. x == 34) (λ x. nat_lt x 32) c.args.v.now quote_or_control in
    record { backslash_quote = first; quote_backslash = and_comm _ _ ∙ first; quote_control = second; control_quote = and_comm _ _ ∙ second }

pub returns-clause-backslash : goal.returns-clause-backslash
returns-clause-backslash c = ap (trailing_zeros w32) c.equal_to.ensures ∙ mask_lowest (λ b. b == 92) c.args.v.now (omega arith)

pub returns-clause-quote : goal.returns-clause-quote
returns-clause-quote c = ap (trailing_zeros w32) c.equal_to-2.ensures ∙ mask_lowest (λ b. b == 34) c.args.v.now (omega arith)

pub returns-clause-control : goal.returns-clause-control
returns-clause-control c = ap (trailing_zeros w32) c.controls.ensures ∙ mask_lowest (λ b. nat_lt b 32) c.args.v.now (omega arith)

pub returns-clause-special : goal.returns-clause-special
returns-clause-special c k h = ap (λ w. is_set w k) (ap₂ bit_or (ap₂ bit_or c.equal_to.ensures c.equal_to-2.ensures) c.controls.ensures) ∙ special_set c.args.v.now k (omega arith)

pub returns-clause-few : goal.returns-clause-few
returns-clause-few c k set =
    special_few c.args.v.now (omega arith) k (sym (ap (λ w. is_set w k) (ap₂ bit_or (ap₂ bit_or c.equal_to.ensures c.equal_to-2.ensures) c.controls.ensures)) ∙ set)
