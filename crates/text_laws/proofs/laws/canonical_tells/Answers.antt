use Rattle.std.proofs.Common.{◌≡◌, sym, ◌∙◌, ap, Result, Ok}
use Rattle.text_rules.specs.problem_rules.Problem.{Problem}
use Rattle.text_rules.specs.Fault.{Fault}
use Rattle.text_rules.specs.Value.{read_text}
use Rattle.text_laws.proofs.laws.canonical_tells.Goals as goal

one_value : (p q : Problem) → let P : Result Problem Fault = Ok p in P ≡ Ok q → p ≡ q
one_value p q e = cc

pub returns : goal.returns
returns c =
    λ p q one two same. one_value p q
    (sym (c.canonical_reads.ensures p one) ∙ ap read_text same ∙ c.canonical_reads.ensures q two)
