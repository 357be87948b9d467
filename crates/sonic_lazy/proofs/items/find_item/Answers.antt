use Rattle.std.proofs.Common.{◌≡◌, ◌∙◌, ap, refl}
use Rattle.std.proofs.lemmas.Result.{err_from_is_err_and}
use Rattle.sonic_lazy.proofs.ItemLemmas.{head_whole, reach_key, key_stopped, value_stopped}
use Rattle.sonic_lazy.proofs.items.find_item.Goals as goal
use Rattle.sonic_find.specs.Cursors.{CursorState}
use Rattle.sonic_lazy.specs.Items.{BeginsNoItem, no_item}
use Rattle.sonic_parser.proofs.FaultLemmas.{stop_weaker}

pub returns-then-not-branch-clause-closed : goal.returns-then-not-branch-clause-closed
returns-then-not-branch-clause-closed c = λ e. c.in_ok-go_on.ensures.closed c.if-not-branch.true

pub returns-then-begins_none-clause-err : goal.returns-then-begins_none-clause-err
returns-then-begins_none-clause-err c =
    let reach = c.in_ok-go_on.ensures.item c.if-not-branch.false in
    let none = rw c.in_ok-go_on.ensures.moved at (c.begins_none.ensures.0 c.if-begins_none.true) in
    no_item reach none (rw (c.place-place.ensures.place, c.code_before_item-code.ensures) refl)

pub returns-in_err-key-clause-err : goal.returns-in_err-key-clause-err
returns-in_err-key-clause-err c =
    let p = err_from_is_err_and c.from_residual-in_err-key.result c.from_residual-in_err-key.ensures.1 in
    let reach = c.in_ok-go_on.ensures.item c.if-not-branch.false in
    let begins : ¬ BeginsNoItem c.args.cursor.now.text c.args.kind c.args.given c.go_on.new.cursor.place = λ x. let y = c.begins_none.ensures.1 (rw c.in_ok-go_on.ensures.moved x) in cc (y, c.if-begins_none.false) in
    let f = rw c.in_ok-go_on.ensures.moved at c.in_err-key.ensures.err in
    rw (p.1, p.2) (key_stopped reach begins f.0 f.1)

pub skip-requires : goal.skip-requires
skip-requires c =
    let reach = c.in_ok-go_on.ensures.item c.if-not-branch.false in
    let head = rw c.in_ok-go_on.ensures.moved at c.in_ok-key.ensures.ok in
    rw (c.in_ok-key.ensures.moved, c.in_ok-go_on.ensures.moved) (λ e. head_whole reach head (c.requires.whole e))

pub returns-in_err-value-clause-err : goal.returns-in_err-value-clause-err
returns-in_err-value-clause-err c =
    let p = err_from_is_err_and c.from_residual-in_err-value.result c.from_residual-in_err-value.ensures.1 in
    let reach = c.in_ok-go_on.ensures.item c.if-not-branch.false in
    let begins : ¬ BeginsNoItem c.args.cursor.now.text c.args.kind c.args.given c.go_on.new.cursor.place = λ x. let y = c.begins_none.ensures.1 (rw c.in_ok-go_on.ensures.moved x) in cc (y, c.if-begins_none.false) in
    let head = rw c.in_ok-go_on.ensures.moved at c.in_ok-key.ensures.ok in
    let text : c.pass_head.new.cursor.text ≡ c.args.cursor.now.text =
    ap (λ (s : CursorState). s.text) c.in_ok-key.ensures.moved ∙ ap (λ (s : CursorState). s.text) c.in_ok-go_on.ensures.moved in
    let fault = rw text at c.in_err-value.ensures.err in
    rw (p.1, p.2) (stop_weaker c.in_err-value.field-0.0 (λ s f. value_stopped reach begins head f) fault)

pub pass_head-requires : goal.pass_head-requires
pass_head-requires c =
    let reach = c.in_ok-go_on.ensures.item c.if-not-branch.false in
    rw c.in_ok-go_on.ensures.moved (λ k e. reach_key reach k (c.requires.whole e))
