use Rattle.std.proofs.Common.{rules, ◌++◌, ◌∷◌, [], ap, sym, ◌∙◌}
use Rattle.std.proofs.Output.{has_written_append, has_written_of_eq}
use Rattle.sonic_owned.proofs.Folds.{members_of, members-out}
use Rattle.sonic_owned.specs.Forms.{members_text, named}
use Rattle.sonic_owned.proofs.value.show.LazyObjectDebug.fmt.Goals as goal

pub returns : goal.returns
unfolding lib.Utf8.encode
returns g c = record {
  writes = λ p ok.
      let x = c.write_str.ensures.writes p (search rules) in
      let all = ap members_of c.deref.ensures.value ∙ sym (members-out c.args.self.now) in
      has_written_of_eq _ _ _ _ _ (ap (λ ms. 123 ∷ members_text [] (named ms) ++ 125 ∷ []) all) (has_written_append _ _ _ _ _ _ x (c.show_left.ensures x.plain ok));
}
