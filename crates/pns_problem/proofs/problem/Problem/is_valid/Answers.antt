use Rattle.std.proofs.Common.{subst}
use Rattle.text_rules.specs.problem_rules.Problem.{Problem}
use Rattle.text_rules.specs.problem_rules.Validity.{IsValid}
use Rattle.text_rules.proofs.problem_rules.Cited.{well_formed_from_valid}
use Rattle.pns_problem.proofs.problem.Problem.is_valid.Goals as goal

pub returns-clause-well_formed : goal.returns-clause-well_formed
returns-clause-well_formed c =
    well_formed_from_valid c.args.self.now
    (subst (λ (p : Problem). IsValid p) c.self.view_is c.self.invariant.valid)
