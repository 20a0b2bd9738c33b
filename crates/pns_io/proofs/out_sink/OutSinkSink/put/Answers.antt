use Rattle.std.proofs.Common.{◌≤◌, ℕ, subst}
use Rattle.text_rules.specs.Outside.{last_count}
use Rattle.pns_io.proofs.out_sink.OutSinkSink.put.Goals as goal

pub returns-in-Ok-clause-few : goal.returns-in-Ok-clause-few
returns-in-Ok-clause-few g c = subst (λ (n : ℕ). n ≤ last_count) c.self.view_is c.self.invariant
