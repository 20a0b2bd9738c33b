use Rattle.std.proofs.Common.{◌≡◌, IfOk, length, subst, ap, arith}
use Rattle.std.proofs.lemmas.List.FromFn.{length-map-range_with_len}
use Rattle.command_files.specs.plan_rules.Folded.{Written, run_in}
use Rattle.command_files.specs.studio_rules.Lines.{text_of}
use Rattle.command_files.specs.studio_rules.DesignText.{design_lines}
use Rattle.searches.proofs.least.network_text.Goals as goal

pub design_text-requires : goal.design_text-requires
design_text-requires c =
    let p = c.args.problem.now in
    let plan = c.args.plan.now in
    let short = c.plans_are_short.ensures p plan c.is_valid.ensures.valid c.requires.plan in
    let long = length-map-range_with_len (run_in p c.args.network.now) 0 (length plan.periods) in
    let same = ap (λ (x : Written). length x.runs) c.in_ok-design.ensures in
    omega (arith, short, long, same)

pub returns : goal.returns
returns c =
    subst
    (λ (x : Written). IfOk c.design_text.result
    (λ text. text.items ≡ text_of (design_lines c.args.problem.now x))) c.in_ok-design.ensures
    c.design_text.ensures
