use Rattle.sonic_find.proofs.utf8.check_from.Goals as goal
use Rattle.simdutf8.proofs.Parts.{front_and_rest, rest_of_whole, valid_after}
use Rattle.std.proofs.Common.{◌≤◌, refl, arith, take, length, IsUtf8, take-take, length-take}
use Rattle.std.proofs.lemmas.List.{take_rest}
use Rattle.std.proofs.lemmas.Str.{utf8_valid_len-IsValidUpTo}

pub returns-in-Ok-clause-ok : goal.returns-in-Ok-clause-ok
returns-in-Ok-clause-ok c =
    let front : IsUtf8 (take c.args.known (take c.args.reach c.args.text.now)) = rw (take-take c.args.known c.args.reach c.args.text.now c.requires.order.0) c.requires.known in
    let within : c.args.known ≤ length (take c.args.reach c.args.text.now) = omega (arith, c.requires.order, length-take c.args.reach c.args.text.now) in
    front_and_rest (take c.args.reach c.args.text.now) c.args.known within front (rw take_rest at c.in-Ok.ensures.cases.1)

pub returns-in-Err-clause-err : goal.returns-in-Err-clause-err
returns-in-Err-clause-err c =
    let text = take c.args.reach c.args.text.now in
    let front : IsUtf8 (take c.args.known (take c.args.reach c.args.text.now)) = rw (take-take c.args.known c.args.reach c.args.text.now c.requires.order.0) c.requires.known in
    let long = length-take c.args.reach c.args.text.now in
    let within : c.args.known ≤ length (take c.args.reach c.args.text.now) = omega (arith, c.requires.order, long) in
    let fault = rw take_rest at c.in-Err.ensures.cases in
    let valid = rw (← c.valid_up_to.ensures) at (valid_after text c.args.known _ within front fault.1) in
    let place = utf8_valid_len-IsValidUpTo text _ valid in (
      λ whole. fault.0 (rest_of_whole text c.args.known within front whole),
      rw place refl,
      omega (arith, valid.short, long),
    )
