use Rattle.sonic_parser.proofs.parser.Parser.skip_number.Goals as goal

pub returns-in-Err-clause-err : goal.returns-in-Err-clause-err
returns-in-Err-clause-err c = record {
  stop = c.in-Err.stop;
  fault = rw (← c.self.view_is) (rw (← c.as_u8_slice-text.ensures.text, ← c.index-start.ensures.place) c.in-Err.ensures.err);
  error = c.stop.ensures.error;
  cursor = c.stop.ensures.moved;
}
