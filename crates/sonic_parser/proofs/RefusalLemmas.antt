-- Rules by which a call that stops finds its fault within the text, and a number its text.
use Rattle.sonic_text.proofs.Ascii.{number_utf8}
use Rattle.sonic_text.proofs.Stops.{number_fault_within, fault_within, fault_not}

pub ruleset refusals = (number_fault_within, fault_within, fault_not, number_utf8)
