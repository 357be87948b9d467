use Rattle.sonic_find.proofs.table.first_table.Goals as goal
use Rattle.std.proofs.Common.{◌≡◌, ◌∙◌, sym, true, false}
use Rattle.std.proofs.lemmas.Result.{err_from_is_err_and}
use Rattle.sonic_find.proofs.TableLemmas.Container.{unread_cut, unread_broken, unread_found}
use Rattle.sonic_find.proofs.table.first_table.Goals.{then-need_utf8_valid+in_ok-check, else-need_utf8_valid}
use Rattle.sonic_parser.proofs.FaultLemmas.{stop_weaker}
use Rattle.sonic_text.proofs.Within.{value_within}

pub rows-requires : goal.rows-requires
rows-requires g c = rw (c.unscanned-read.ensures.text, c.to_json_slice.ensures.bytes) c.requires.opens

pub returns-in_err-table-clause-err : goal.returns-in_err-table-clause-err
returns-in_err-table-clause-err g c =
    let p = err_from_is_err_and c.from_residual.result c.from_residual.ensures.1 in
    let fault = rw (c.unscanned-read.ensures.text, c.to_json_slice.ensures.bytes) at c.in_err-table.ensures.err in
    rw (p.1, p.2) (stop_weaker c.in_err-table.field-0.0 (λ s f. unread_cut g.I.JsonInput.is_bytes c.requires f) fault)

pub check-requires : goal.check-requires
check-requires g c =
    let value = rw (c.unscanned-read.ensures.text, c.to_json_slice.ensures.bytes) at c.in_ok-table.ensures.value in
    rw c.to_u8_slice.ensures.bytes (value_within value)

pub returns-in_err-check-clause-err : goal.returns-in_err-check-clause-err
returns-in_err-check-clause-err g c =
    let p = err_from_is_err_and c.from_residual-in_err-check.result c.from_residual-in_err-check.ensures.1 in
    let value = rw (c.unscanned-read.ensures.text, c.to_json_slice.ensures.bytes) at c.in_ok-table.ensures.value in
    let e = rw c.to_u8_slice.ensures.bytes at c.in_err-check.ensures.err in
    let bytes = sym c.need_utf8_valid.ensures ∙ c.if-need_utf8_valid.true in
    rw (p.1, p.2) (unread_broken c.requires value bytes e.0 e.1 e.2)

pub returns-clause-ok : goal.returns-clause-ok
returns-clause-ok g c =
    let table = rw (c.unscanned-read.ensures.text, c.to_json_slice.ensures.bytes) at c.in_ok-table.ensures.table in
    let value = rw (c.unscanned-read.ensures.text, c.to_json_slice.ensures.bytes) at c.in_ok-table.ensures.value in
    record {
      container = _;
      leads = unread_found g.I.JsonInput.is_bytes c.requires value (λ b. elim c.if-need_utf8_valid.branch [
        | then-need_utf8_valid+in_ok-check w ↦ rw w.to_u8_slice.ensures.bytes at w.in_ok-check.ensures.ok
        | else-need_utf8_valid w ↦ (let clash : true ≡ false = sym b ∙ (sym c.need_utf8_valid.ensures ∙ w.if-need_utf8_valid.false) in absurd cc)
      ]);
      is = table;
    }
