use Rattle.std.proofs.Common.{◌≡◌, ◌≢◌, ◌∙◌, sym, true, false, map, arith, subst}
use Rattle.std.proofs.lemmas.List.{length-map}
use Rattle.std.proofs.lemmas.Option.{slice_get_within}
use Rattle.sonic_find.proofs.ColumnLemmas.Keys.{mapped_there, one_more_other}
use Rattle.sonic_find.proofs.columns.look_up.Goals.{then-same_key+else-column-keys, else-same_key}
use Rattle.sonic_text.proofs.Strings.{string_one}
use Rattle.sonic_text.specs.Strings.{strict, IsString}
use Rattle.sonic_find.proofs.columns.look_up.Goals as goal

pub returns-clause-known : goal.returns-clause-known
returns-clause-known c =
    let keys = map (λ k. k.now) c.args.keys.now in
    let many = length-map c.args.keys.now (λ k. k.now) in
    let found = c.in_ok-end.ensures in
    let string = (found.2 strict).1 in
    record {
      ahead = c.requires;
      is = record {
        label = _;
        end = c.in_ok-end.end;
        ends = omega (arith, found.0);
        short = omega (arith, found.0, found.1);
        string = string;
        colon = c.if-text-end-ne58.false;
        same = λ k there. (string_one (c.loop-number.invariant.same k there) string).1;
        other = λ n k there other e.
            let within = slice_get_within keys n k there in
            let all = c.loop-number-test.false in
            c.loop-number.invariant.other n k (omega (arith, within, many, all)) there other (subst (λ b. IsString strict c.args.text.now c.args.place c.in_ok-end.end b) (sym e) string);
      };
    }

pub loop-number-preserved : goal.loop-number-preserved
loop-number-preserved c =
    let keys = map (λ k. k.now) c.args.keys.now in
    let many = length-map c.args.keys.now (λ k. k.now) in
    let inv = c.loop-number.invariant in
    let all = c.loop-number-test.true in
    elim c.if-same_key.branch [
      | then-same_key+else-column-keys w ↦ rw w.column-is record {
        same = λ k there. subst (λ b. IsString strict c.args.text.now c.args.place c.in_ok-end.end b) (mapped_there (λ k. k.now) c.args.keys.now c.loop-number.number k _ there) (c.same_key.ensures.0 w.if-same_key.true);
        other = λ n k less there other.
            let none = w.if-column-keys.false in
            inv.other n k (omega (arith, less, other)) there (λ e. omega (arith, e, none, less, all));
      }
      | else-same_key w ↦ rw w.column-is record {
        same = inv.same;
        other = one_more_other {P = λ n k. n ≢ c.loop-number.column → ¬ IsString strict c.args.text.now c.args.place c.in_ok-end.end k} keys c.loop-number.number inv.other
            (λ k there other string.
            let said = c.same_key.ensures.1 (subst (λ b. IsString strict c.args.text.now c.args.place c.in_ok-end.end b) (sym (mapped_there (λ k. k.now) c.args.keys.now c.loop-number.number k _ there)) string) in
            let clash : true ≡ false = sym said ∙ w.if-same_key.false in absurd cc);
      }
    ]
