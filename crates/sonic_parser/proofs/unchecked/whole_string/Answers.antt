use Rattle.std.proofs.Common.{◌+◌, ◌-◌, length, refl, arith}
use Rattle.sonic_text.proofs.QuotedLemmas.{quote_opens, quote_closes, escape_inside}
use Rattle.sonic_parser.proofs.UncheckedLemmas.{one_of, others_inside, inside_before, is_inside, leaves_from}
use Rattle.sonic_parser.proofs.unchecked.whole_string.Goals as goal

pub unreachable-requires : goal.unreachable-requires
unreachable-requires c =
    let inside = others_inside (length c.args.text.now - (c.args.start + 1)) (omega (arith, c.requires.later, c.requires.within)) (quote_opens c.args.text.now c.requires.from c.requires.clear c.requires.opens) c.in_default.ensures in
    omega (arith, c.requires.within, inside_before inside (omega (arith, c.requires.later)) c.requires.outside)

pub returns-then-text-mark-eq34-clause-end : goal.returns-then-text-mark-eq34-clause-end
returns-then-text-mark-eq34-clause-end c s clear =
    let first = c.in-Some.ensures in
    quote_closes c.args.text.now s (others_inside (c.in-Some.mark - (c.args.start + 1)) (omega (arith, first.from)) (quote_opens c.args.text.now s clear c.requires.opens) first.before) c.if-text-mark-eq34.true

pub open_string-end-requires : goal.open_string-end-requires
open_string-end-requires c =
    let first = c.in-Some.ensures in
    let inside = others_inside (c.in-Some.mark - (c.args.start + 1)) (omega (arith, first.from)) (quote_opens c.args.text.now c.requires.from c.requires.clear c.requires.opens) first.before in
    record {
      from = c.requires.from;
      place = c.requires.place;
      inside = is_inside inside;
      later = inside_before inside (omega (arith, c.requires.later)) c.requires.outside;
      within = c.requires.within;
      outside = c.requires.outside;
    }

pub returns-clause-end : goal.returns-clause-end
returns-clause-end c s clear =
    let first = c.in-Some.ensures in
    let inside = others_inside (c.in-Some.mark - (c.args.start + 1)) (omega (arith, first.from)) (quote_opens c.args.text.now s clear c.requires.opens) first.before in
    leaves_from inside (c.open_string-end.ensures s (is_inside inside))

pub returns-clause-escaped : goal.returns-clause-escaped
returns-clause-escaped c =
    let first = c.in-Some.ensures in
    let slash = one_of 34 92 _ first.here c.if-text-mark-eq34.false in
    let inside = others_inside (c.in-Some.mark - (c.args.start + 1)) (omega (arith, first.from)) (quote_opens c.args.text.now c.requires.from c.requires.clear c.requires.opens) first.before in
    let leaves = c.open_string-end.ensures c.requires.from (is_inside inside) in
    let later = inside_before (escape_inside c.args.text.now c.requires.from inside slash) (omega (arith, leaves.later, first.from)) leaves.clear.no_string in
    (λ e. (c.requires.opens, c.in-Some.mark, omega (arith, first.from), omega (arith, later), slash), λ e. refl)
