-- What a fault says, and what follows from it.
use Rattle.sonic_text.specs.declared.stop.Stop.{Stop}
use Rattle.sonic_parser.specs.declared.fault.Fault.{Fault}
use Rattle.sonic_parser.specs.declared.fault.Fault.TheVariants.{OutOfMemory, At}
use Rattle.sonic_parser.specs.Faults.{IsStopFor}

-- a fault that says one thing of its stop says what follows from that
pub stop_weaker : {P Q : Stop → Type 0} (e : Fault) → ((s : Stop) → P s → Q s) → IsStopFor P e → IsStopFor Q e
stop_weaker OutOfMemory f h = tt
stop_weaker (At s) f h = f s h
