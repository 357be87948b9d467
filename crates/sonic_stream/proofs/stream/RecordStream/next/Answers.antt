use Rattle.sonic_stream.specs.Streams.IsWrong.{at_fault}
use Rattle.sonic_stream.proofs.StreamLemmas.{fault_within, fault_never}
use Rattle.sonic_stream.proofs.stream.RecordStream.next.Goals as goal

pub wrong-requires-clause-within : goal.wrong-requires-clause-within
wrong-requires-clause-within c = fault_within c.args.self.now (c.in-Err.ensures.fault c.in_default.not-EofWhileParsing c.in_default.not-NoMemory) c.in_default.not-EofWhileParsing

pub wrong-requires-clause-wrong : goal.wrong-requires-clause-wrong
wrong-requires-clause-wrong c = at_fault (c.in-Err.ensures.fault c.in_default.not-EofWhileParsing c.in_default.not-NoMemory)

pub wrong-requires-clause-never : goal.wrong-requires-clause-never
wrong-requires-clause-never c = fault_never c.args.self.now (c.in-Err.ensures.fault c.in_default.not-EofWhileParsing c.in_default.not-NoMemory) c.in_default.not-EofWhileParsing

pub cut-requires-clause-none : goal.cut-requires-clause-none
cut-requires-clause-none c =
    let is = c.in-EofWhileParsing.is in
    c.in-Err.ensures.none (λ e. absurd cc)
