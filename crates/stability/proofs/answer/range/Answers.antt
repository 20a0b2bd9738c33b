use Rattle.std.proofs.Common.{subst}
use Rattle.std.specs.Prelude.{IfOk, IfErr}
use Rattle.stability_laws.specs.report_rules.Range.{IsRange}
use Rattle.stability.specs.Case.{Case}
use Rattle.stability.specs.Refusal.{IsRefusal}
use Rattle.stability.proofs.answer.range.Goals as goal

pub returns-clause-range : goal.returns-clause-range
returns-clause-range g c =
    subst
    (λ (k : Case). IfOk c.range.result
    (λ r. IsRange k.problem k.spot k.network r.from r.to r.below r.above)) c.of-case.ensures
    c.range.ensures.range

pub returns-clause-refusal : goal.returns-clause-refusal
returns-clause-refusal g c =
    subst (λ (k : Case). IfErr c.range.result (IsRefusal k.problem k.spot k.network k.budget))
    c.of-case.ensures c.range.ensures.refusal
