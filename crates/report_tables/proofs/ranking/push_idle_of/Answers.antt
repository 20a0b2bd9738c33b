use Rattle.std.proofs.Common.{◌∙◌, sym, ap, ℕ, List, string_bytes}
use Rattle.report_amounts.specs.report_rules.Ranked.{idle_names}
use Rattle.report_tables.proofs.ranking.push_idle_of.Goals as goal

pub loop-u-preserved : goal.loop-u-preserved
loop-u-preserved c =
    let p = c.args.problem.now in
    let w = c.args.network.now in
    let text = string_bytes c.loop-u.text in
    ap (λ (t : List ℕ). idle_names p w t c.next.new.self) c.in_ok-push_if_idle.ensures
    ∙ ap (λ (us : List ℕ). idle_names p w text us) (sym c.in-Some.ensures.steps)
    ∙ c.loop-u.invariant
