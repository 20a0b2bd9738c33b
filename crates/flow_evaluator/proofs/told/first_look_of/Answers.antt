use Rattle.flow_evaluator.proofs.ToldLemmas.{first_is}
use Rattle.flow_evaluator.proofs.told.first_look_of.Goals as goal

pub returns-in-AtLeast : goal.returns-in-AtLeast
returns-in-AtLeast c = λ p n h. first_is p n c.args.told c.in-AtLeast.bound c.in-AtLeast.is h
