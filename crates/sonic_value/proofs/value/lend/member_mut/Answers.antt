use Rattle.std.proofs.Common.{◌∙◌, ◌≡◌, Some, ap, sym, refl, get_or, length, arith}
use Rattle.std.proofs.lemmas.Bool.{false≢true}
use Rattle.std.specs.Vec.{vec_len}
use Rattle.sonic_value.proofs.ItemLemmas.{key_within, seen_at, member_first, member_none, member_put, same_list}
use Rattle.sonic_value.proofs.value.lend.member_mut.Goals as goal
use Rattle.sonic_value.specs.Internal.Keys.{seen}
use Rattle.sonic_value.specs.Views.{key_and_tree}

pub returns-in-Some-get_mut : goal.returns-in-Some-get_mut
returns-in-Some-get_mut c =
    let ms = c.args.members.now.items in
    let i = c.in-Some.i in
    let k = c.args.key.now in
    let m = c.in-Some-get_mut.member.now in
    let first = rw c.deref.ensures.value at c.in-Some.ensures.some in
    let is : m ≡ get_or ms i m = c.in-Some-get_mut.ensures.value in
    let at = seen_at ms i m (key_within ms i k first.here) ∙ ap (λ q. Some (key_and_tree q)) (sym is) in
    ((refl, (λ w. (member_put ms k i m w first is, λ same. same_list c.args.members.now i (m.0, w) (rw same is))), refl), sym (member_first (seen ms) k i (key_and_tree m) first at))

pub returns-in-None-get_mut : goal.returns-in-None-get_mut
returns-in-None-get_mut c =
    let ms = c.args.members.now.items in
    let first = rw c.deref.ensures.value at c.in-Some.ensures.some in
    let inside = key_within ms c.in-Some.i c.args.key.now first.here in
    let size : length ms ≡ vec_len c.args.members.now = ap length (sym c.deref.ensures.value) ∙ c.deref.ensures.len in
    absurd (false≢true (c.in-None-get_mut.ensures.variant.1 (omega (arith, inside, size))))

pub returns-in-None : goal.returns-in-None
returns-in-None c =
    let none = rw c.deref.ensures.value at (c.in-None.ensures.none refl) in
    ((refl, (λ w. tt), refl), sym (member_none (seen c.args.members.now.items) c.args.key.now none))
