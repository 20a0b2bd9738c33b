use Rattle.std.proofs.Common.{◌∙◌, sym, ap, refl}
use Rattle.flow_rules.specs.number_sets.Sets.{has}
use Rattle.flow_rules.specs.pns_rules.Breaks.{BreaksS1, BreaksS2, BreaksS4}
use Rattle.pgraph.specs.Tables.{shape}
use Rattle.flow_rules.proofs.number_sets.Cited.{first_none}
use Rattle.pgraph.proofs.PathLemmas.{first_is, first_never}
use Rattle.pgraph.proofs.AxiomLemmas.{meets_all, s1_refutes, s2_refutes, s4_refutes}
use Rattle.pgraph.proofs.graph.Graph.judge.Goals as goal

pub returns-in-Some-clause-judges : goal.returns-in-Some-clause-judges
returns-in-Some-clause-judges c =
    first_is c.breaking_s1-missing.result (BreaksS1 (shape c.args.self.now) (has c.args.set))
    c.rises.ensures.rising c.breaking_s1-missing.ensures c.in-Some.at
    (sym c.least.ensures ∙ c.in-Some.is)

pub returns-in-Some-clause-meets : goal.returns-in-Some-clause-meets
returns-in-Some-clause-meets c = (
  λ e. cc,
  λ h. absurd (s1_refutes (shape c.args.self.now) (has c.args.set) c.in-Some.at
      (first_is c.breaking_s1-missing.result (BreaksS1 (shape c.args.self.now) (has c.args.set))
      c.rises.ensures.rising c.breaking_s1-missing.ensures c.in-Some.at
      (sym c.least.ensures ∙ c.in-Some.is)).0 h),
)

pub returns-in-Some-least-clause-judges : goal.returns-in-Some-least-clause-judges
returns-in-Some-least-clause-judges c = (
  first_never c.breaking_s1-missing.result (BreaksS1 (shape c.args.self.now) (has c.args.set))
      c.breaking_s1-missing.ensures (sym c.least.ensures ∙ c.in_default.is),
  first_is c.breaking_s2-unbalanced.result (BreaksS2 (shape c.args.self.now) (has c.args.set))
      c.rises-2.ensures.rising c.breaking_s2-unbalanced.ensures c.in-Some-least.at
      (sym c.least-2.ensures ∙ c.in-Some-least.is),
)

pub returns-in-Some-least-clause-meets : goal.returns-in-Some-least-clause-meets
returns-in-Some-least-clause-meets c = (
  λ e. cc,
  λ h. absurd (s2_refutes (shape c.args.self.now) (has c.args.set) c.in-Some-least.at
      (first_is c.breaking_s2-unbalanced.result (BreaksS2 (shape c.args.self.now) (has c.args.set))
      c.rises-2.ensures.rising c.breaking_s2-unbalanced.ensures c.in-Some-least.at
      (sym c.least-2.ensures ∙ c.in-Some-least.is)).0 h),
)

pub returns-in-Some-least-2-clause-judges : goal.returns-in-Some-least-2-clause-judges
returns-in-Some-least-2-clause-judges c = (
  first_never c.breaking_s1-missing.result (BreaksS1 (shape c.args.self.now) (has c.args.set))
      c.breaking_s1-missing.ensures (sym c.least.ensures ∙ c.in_default.is),
  first_never c.breaking_s2-unbalanced.result (BreaksS2 (shape c.args.self.now) (has c.args.set))
      c.breaking_s2-unbalanced.ensures (sym c.least-2.ensures ∙ c.in_default-least.is),
  first_is c.breaking_s4-pathless.result (BreaksS4 (shape c.args.self.now) (has c.args.set))
      c.rises-3.ensures.rising c.breaking_s4-pathless.ensures.broken c.in-Some-least-2.at
      (sym c.least-3.ensures ∙ c.in-Some-least-2.is),
)

pub returns-in-Some-least-2-clause-meets : goal.returns-in-Some-least-2-clause-meets
returns-in-Some-least-2-clause-meets c = (
  λ e. cc,
  λ h. absurd (s4_refutes (shape c.args.self.now) (has c.args.set) c.in-Some-least-2.at
      (first_is c.breaking_s4-pathless.result (BreaksS4 (shape c.args.self.now) (has c.args.set))
      c.rises-3.ensures.rising c.breaking_s4-pathless.ensures.broken c.in-Some-least-2.at
      (sym c.least-3.ensures ∙ c.in-Some-least-2.is)).0 h),
)

pub returns-in-None-clause-judges : goal.returns-in-None-clause-judges
returns-in-None-clause-judges c =
    meets_all (shape c.args.self.now) (has c.args.set)
    (first_never c.breaking_s1-missing.result (BreaksS1 (shape c.args.self.now) (has c.args.set))
    c.breaking_s1-missing.ensures (sym c.least.ensures ∙ c.in_default.is))
    (first_never c.breaking_s2-unbalanced.result (BreaksS2 (shape c.args.self.now) (has c.args.set))
    c.breaking_s2-unbalanced.ensures (sym c.least-2.ensures ∙ c.in_default-least.is))
    (λ u e. c.breaking_s4-pathless.ensures.others u e
    (ap (λ xs. has xs u)
    (first_none c.breaking_s4-pathless.result (sym c.least-3.ensures ∙ c.in-None.is))))
    c.requires

pub returns-in-None-clause-meets : goal.returns-in-None-clause-meets
returns-in-None-clause-meets c = (
  λ e.
      meets_all (shape c.args.self.now) (has c.args.set)
      (first_never c.breaking_s1-missing.result (BreaksS1 (shape c.args.self.now) (has c.args.set))
      c.breaking_s1-missing.ensures (sym c.least.ensures ∙ c.in_default.is))
      (first_never c.breaking_s2-unbalanced.result
      (BreaksS2 (shape c.args.self.now) (has c.args.set)) c.breaking_s2-unbalanced.ensures
      (sym c.least-2.ensures ∙ c.in_default-least.is))
      (λ u e. c.breaking_s4-pathless.ensures.others u e
      (ap (λ xs. has xs u)
      (first_none c.breaking_s4-pathless.result (sym c.least-3.ensures ∙ c.in-None.is))))
      c.requires,
  λ h. refl,
)
