use Rattle.std.proofs.Common.{◌≡◌, ◌++◌, ◌∷◌, [], ◌∙◌, ap, refl}
use Rattle.verdicts.specs.problem_rules.Problem.{Problem}
use Rattle.verdicts.specs.branch_tree.View.{claim_of}
use Rattle.command_files.specs.studio_rules.Lines.{text_of}
use Rattle.command_files.specs.studio_rules.Report.{headed_first_line, headed_tables, headed_lines}
use Rattle.network_commands.proofs.headed.headed_text.Goals as goal

pub returns : goal.returns
returns c =
    let p = c.args.plant.now.site.now in
    let ms = c.args.plant.now.measures.now in
    let claim = claim_of c.args.claim.now in
    let told = c.in_ok-tables.ensures in
    let first : c.in_ok-bytes.bytes.items ≡ headed_first_line p claim c.args.verdict ++ 10 ∷ [] =
    c.in_ok-bytes.ensures
    ∙ ap (λ (p : Problem). headed_first_line p claim c.args.verdict ++ 10 ∷ [])
    c.problem.ensures.same in
    let tables : c.deref.result.now ≡ text_of (headed_tables ms p told.0 claim) =
    c.deref.ensures.value ∙ told.2 in (
      headed_lines ms p told.0 claim c.args.verdict,
      (told.0, told.1, refl),
      c.in_ok-extend_from_slice.ensures.items ∙ (λ i. first i ++ tables i),
    )
