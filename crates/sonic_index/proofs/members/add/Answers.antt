use Rattle.std.proofs.Common.{◌≡◌, ◌∙◌, ◌++◌, List, ℕ, ap, arith, not, refl, sym, true, false}
use Rattle.sonic_text.proofs.PlainStrings.{plain_string}
use Rattle.sonic_text.proofs.Strings.{string_never_both, string_one}
use Rattle.sonic_index.proofs.MemberLemmas.{collected_escaped, collected_plain, key_room, member_key, member_parent, named_of, unescaped_of}
use Rattle.sonic_index.proofs.members.add.Goals as goal

pub unreachable-requires : goal.unreachable-requires
unreachable-requires c = string_never_both (member_key c.requires.member.3) c.in_default.ensures.err

pub slice_bounds-key-count : goal.slice_bounds-key-count
slice_bounds-key-count c = key_room c.in-Ok.ensures.ok.3

pub slice_bounds-key-start : goal.slice_bounds-key-start
slice_bounds-key-start c = omega (arith, key_room c.in-Ok.ensures.ok.3, c.in-Ok.ensures.ok.1)

pub returns-then-not-found : goal.returns-then-not-found
returns-then-not-found c =
    let m = c.requires.member.3 in
    let one = string_one (member_key m) c.in-Ok.ensures.ok.3 in
    let key = plain_string (rw one.0 at (member_key m)) (λ y. let f : false ≡ true = sym (ap not (c.in-Ok.ensures.escaped.1 y)) ∙ c.if-not-found.true in absurd cc) c.in-Ok.ensures.ok.1 in
    collected_plain _ c.requires.collected (named_of _ c.requires.member.2 m (member_parent m) (sym key) refl) refl c.in_ok-push.ensures.items

pub returns : goal.returns
returns c =
    let m = c.requires.member.3 in
    let made = c.in-Ok-unescape_into.ensures.ok in
    let one = string_one (member_key m) made.1 in
    let items = made.2 ∙ ap (λ (l : List ℕ). l ++ made.0) c.new-key.ensures.items ∙ sym one.1 in
    collected_escaped _ c.requires.collected (unescaped_of _ c.requires.member.2 m items refl) refl c.in_ok-push-in-Ok-unescape_into.ensures.items
