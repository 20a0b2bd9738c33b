use Rattle.std.proofs.Common.{refl, inl, inr, rules}
use Rattle.rank_check.proofs.order.judge_order.Goals as goal

pub returns-then-not-is_rising-clause-fails : goal.returns-then-not-is_rising-clause-fails
returns-then-not-is_rising-clause-fails c =
    inl ((λ h. let t = c.is_rising.ensures.1 h in search rules), refl)

pub returns-then-not-is_new-clause-fails : goal.returns-then-not-is_new-clause-fails
returns-then-not-is_new-clause-fails c =
    inr (
      c.is_rising.ensures.0 c.if-not-is_rising.false,
      (λ h. let t = c.is_new.ensures.1 h in search rules),
      c.cause_of_like.ensures,
    )

pub returns-clause-passes : goal.returns-clause-passes
returns-clause-passes c = (
  c.is_rising.ensures.0 c.if-not-is_rising.false,
  c.is_new.ensures.0 c.if-not-is_new.false,
)
