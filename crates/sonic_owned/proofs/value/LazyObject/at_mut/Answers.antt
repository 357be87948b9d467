use Rattle.std.proofs.Common.{◌<◌, length, rules, refl, ap, sym, ◌∙◌, option_map, Some, List, ℕ}
use Rattle.std.specs.List.{slice_get}
use Rattle.sonic_owned.proofs.Folds.{formed, members-roll, members-out}
use Rattle.sonic_owned.proofs.Lists.{members-at, members-past, members-set}
use Rattle.sonic_owned.specs.Forms.{Form}
use Rattle.sonic_owned.specs.Puts.{with_value}
use Rattle.sonic_owned.specs.Views.{form, pair_of}
use Rattle.sonic_owned.specs.declared.value.LazyObject.{LazyObject, out-LazyObject}
use Rattle.sonic_owned.proofs.value.LazyObject.at_mut.Goals as goal

pub returns-in-Some : goal.returns-in-Some
returns-in-Some c =
    let level : LazyObject = c.args.self.now in
    let items = (out-LazyObject level).members.items in
    let i = c.args.i in
    let member = c.in-Some.member.now in
    let inside : i < length items = search rules in (
      (refl, λ w. members-roll _ ∙ members-set items i member w inside c.in-Some.ensures.value ∙ ap (with_value i (form w)) (sym (members-out level)), refl),
      record {
        back = tt;
        value = sym (ap (option_map (λ (m : List ℕ × Form). m.1)) (ap (λ ms. slice_get ms i) (members-out level) ∙ members-at items i member inside
            ∙ ap (λ m. Some (pair_of (formed m))) (sym c.in-Some.ensures.value)));
      },
    )

pub returns-in-None : goal.returns-in-None
returns-in-None c = (
  (refl, (λ w. tt), members-roll _ ∙ sym (members-out c.args.self.now)),
  record {
    back = tt;
    value = rw (members-out c.args.self.now)
        (search (rules, members-past));
  },
)
