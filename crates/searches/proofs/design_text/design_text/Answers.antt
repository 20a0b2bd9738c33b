use Rattle.std.proofs.Common.{◌∙◌, ◌++◌, ℕ, List, ap, ap₂}
use Rattle.command_files.specs.plan_rules.Folded.{Run, Written}
use Rattle.command_files.specs.studio_rules.Lines.{text_of}
use Rattle.command_files.specs.studio_rules.DesignText.{built_lines, runs_lines}
use Rattle.searches.proofs.Texts.{whole_text}
use Rattle.searches.proofs.design_text.design_text.Goals as goal

pub returns : goal.returns
returns c =
    let p = c.args.problem.now in
    let x : Written = c.args.design.now in
    let runs =
    ap (λ (rs : List Run). text_of (runs_lines p 1 rs))
    (c.deref.ensures.value ∙ ap (λ (y : Written). y.runs) c.design.view_is) in
    c.in_ok-push_runs.ensures
    ∙ (ap₂ (λ (a b : List ℕ). a ++ b)
    (c.in_ok-push_built.ensures
    ∙ ap (λ (t : List ℕ). t ++ text_of (built_lines p x)) c.new-text.ensures.items) runs
    ∙ whole_text p x)
