-- The lines of a report, by the parts that are written of them.
use Rattle.std.proofs.Common.{◌≡◌, ℕ, List, ◌++◌, length, codes, decimal, refl, append_assoc}
use Rattle.std.specs.Cow.{cow_str_bytes}
use Rattle.std.specs.declared.borrow.CowStr.{CowStr}
use Rattle.std.specs.Borrow.{Bor}
use Rattle.sonic_reports.specs.Internal.Replies.{line_of_member}
use Rattle.sonic_lines.specs.LineTexts.{counted}
use Rattle.sonic_reports.specs.Lines.{line_of_text}

-- a text after its length, by its parts
pub counted_parts : {digits : List ℕ} (text : List ℕ) → digits ≡ decimal (length text) → counted text ≡ (digits ++ codes " ") ++ text
counted_parts text number = rw (number, append_assoc) refl

-- the line of a member, by its parts
pub member_parts : {Z : Type 0} (member : CowStr Z × Bor (List ℕ))
    → line_of_member member ≡ (counted (cow_str_bytes member.0) ++ codes " ") ++ line_of_text member.1.now
member_parts member = rw (append_assoc (counted (cow_str_bytes member.0)) (codes " ") (line_of_text member.1.now)) refl
