use Rattle.std.proofs.Common.{◌+◌, inl, ap, ◌∙◌, arith, refl}
use Rattle.sonic_text.specs.Places.{after_space}
use Rattle.sonic_text.specs.Values.IsValue.{string}
use Rattle.sonic_text.proofs.Strings.{string_longer}
use Rattle.sonic_parser.proofs.UncheckedLemmas.{key_string_end, value_whole_string}
use Rattle.sonic_parser.proofs.unchecked.whole_key.Goals as goal

pub whole_string-string-requires : goal.whole_string-string-requires
whole_string-string-requires c = let key = c.requires.2 in value_whole_string (string key.string) key.string.opens

pub mark_after_space-colon-requires-clause-known :
    goal.mark_after_space-colon-requires-clause-known
mark_after_space-colon-requires-clause-known c =
    let key = c.requires.2 in
    inl (rw (key_string_end key c.whole_string-string.ensures.end) key.colon)

pub returns : goal.returns
returns c =
    let key = c.requires.2 in
    let longer = string_longer key.string in
    let same = key_string_end key c.whole_string-string.ensures.end in record {
      start = refl;
      later = omega (arith, same, longer, c.mark_after_space-colon.ensures.place, c.skip_space-value.ensures.later);
      within = c.skip_space-value.ensures.within;
      bytes = c.requires.1;
      string = rw same key.string;
      key = record {
        end = c.whole_string-string.result.end;
        string = rw same key.string;
        colon = rw same key.colon;
        value_start = c.skip_space-value.ensures.place ∙ ap (λ p. after_space c.args.text.now (p + 1)) c.mark_after_space-colon.ensures.place;
      };
      escaped = c.whole_string-string.ensures.escaped;
    }
