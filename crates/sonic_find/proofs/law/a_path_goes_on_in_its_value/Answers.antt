use Rattle.sonic_find.proofs.PartLemmas.{leads_in_whole, leads_in_part, same_text_in_part}
use Rattle.sonic_find.proofs.law.a_path_goes_on_in_its_value.Goals as goal

-- the text of a value is a part of the whole text
pub returns : goal.returns
returns c = record {
  on = λ t a b part o x. leads_in_whole x;
  back = λ t a b part whole x y. leads_in_part a x y;
  text = λ t a b part i j x. same_text_in_part x;
}
