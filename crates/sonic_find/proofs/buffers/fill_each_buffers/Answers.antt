use Rattle.sonic_find.proofs.buffers.fill_each_buffers.Goals as goal
use Rattle.std.proofs.lemmas.Result.{IfErr-weaker, on_ok_weaker}
use Rattle.sonic_find.proofs.AnswerLemmas.Each.{each_only_out, told_are_parts}
use Rattle.sonic_parser.proofs.FaultLemmas.{stop_weaker}

pub returns-clause-parts : goal.returns-clause-parts
returns-clause-parts g c = on_ok_weaker c.locate_each_in.result (λ parts. told_are_parts c.locate_each_in.new.memory.found.items parts) c.locate_each_in.ensures.parts

pub returns-clause-err : goal.returns-clause-err
returns-clause-err g c = IfErr-weaker c.locate_each_in.result _ _ (λ fault h. stop_weaker fault (λ s e. e.answer) h) c.locate_each_in.ensures.err

pub returns-clause-within : goal.returns-clause-within
returns-clause-within g c = IfErr-weaker c.locate_each_in.result _ _ (λ fault h. stop_weaker fault (λ s e. e.within) h) c.locate_each_in.ensures.err

pub returns-clause-complete : goal.returns-clause-complete
returns-clause-complete g c = λ can. IfErr-weaker c.locate_each_in.result _ _ (λ fault h. each_only_out fault can h) c.locate_each_in.ensures.err
