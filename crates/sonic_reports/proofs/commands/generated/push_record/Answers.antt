use Rattle.std.proofs.Common.{append_assoc, refl}
use Rattle.sonic_reports.proofs.commands.generated.push_record.Goals as goal

pub returns : goal.returns
returns c =
    simp (c.in_ok-push.ensures.items, c.in_ok-extend_from_slice-9.ensures.items, c.in_ok-extend_from_slice-8.ensures.items, c.in_ok-extend_from_slice-7.ensures.items, c.in_ok-extend_from_slice-6.ensures.items, c.in_ok-extend_from_slice-5.ensures.items, c.in_ok-extend_from_slice-4.ensures.items, c.in_ok-extend_from_slice-3.ensures.items, c.in_ok-extend_from_slice-2.ensures.items, c.in_ok-extend_from_slice.ensures.items, c.separator.ensures, c.mark.ensures, c.as_bytes-digits.ensures.value, c.format.ensures.text, append_assoc)
    refl
