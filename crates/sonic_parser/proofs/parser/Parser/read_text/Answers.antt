use Rattle.std.proofs.Common.{inl, inr}
use Rattle.sonic_parser.proofs.TextLemmas.{there_text}
use Rattle.sonic_parser.specs.Texts.{IsTextRead}
use Rattle.sonic_parser.proofs.parser.Parser.read_text.Goals as goal

pub returns-in-Err-clause-err : goal.returns-in-Err-clause-err
returns-in-Err-clause-err c = inl record { stop = c.in-Err.stop; fault = c.in-Err.ensures.err; error = c.stop.ensures.error; cursor = c.stop.ensures.moved }

pub returns-then-string-clause-there : goal.returns-then-string-clause-there
returns-then-string-clause-there c =
    let ahead = c.in-Ok.ensures.ok in
    let there = ahead.direct.0 c.if-string.true in
    let passed = c.pass_string.ensures in
    let read : IsTextRead c.args.self.now c.pass_string.new.self c.text_in.result.now = record {
      bytes = ahead.bytes;
      string = rw passed.moved ahead.string;
      text = rw (c.text_in.ensures, c.text-text.ensures, c.offset-start.ensures.place) (there_text ahead.string ahead.within there);
      utf8 = λ _. rw passed.moved there.0;
      next_invalid = passed.next_invalid;
      cursor = passed.kept;
    } in
    (read, rw passed.moved there)

pub returns-in-Err-write_text-clause-err : goal.returns-in-Err-write_text-clause-err
returns-in-Err-write_text-clause-err c =
    let ahead = c.in-Ok.ensures.ok in
    let copied = c.if-string.false in
    inr record {
      end = c.in-Ok.string.end;
      bytes = ahead.bytes;
      string = ahead.string;
      utf8 = ahead.utf8;
      copied = λ there. let direct = ahead.direct.1 there in absurd cc;
      error = record { code = c.plain.ensures.code; offset = c.plain.ensures.offset; line = c.plain.ensures.line; column = c.plain.ensures.column; text = c.plain.ensures.text };
      cursor = λ i. c.args.self.now;
    }
