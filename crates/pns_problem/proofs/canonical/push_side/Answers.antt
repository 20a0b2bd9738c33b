use Rattle.std.proofs.Common.{string_bytes}
use Rattle.text_rules.specs.problem_rules.Problem.{material_names}
use Rattle.pns_problem.proofs.PrintingLemmas.{side_of_terms}
use Rattle.pns_problem.proofs.canonical.push_side.Goals as goal

pub returns : goal.returns
returns c =
    side_of_terms (material_names c.args.materials.now) c.args.terms.now c.index-terms-0.result
    (string_bytes c.args.text.now) (string_bytes c.push_term.new.text)
    (string_bytes c.push_further_terms.new.text)
    c.requires.some c.index-terms-0.is c.in_ok-push_term.ensures c.in_ok-push_further_terms.ensures
